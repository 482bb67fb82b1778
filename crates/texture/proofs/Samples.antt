-- A sample's turn, distance and point, by the texture; and what `angle` and `sample_point` answer, by the cases of their
-- tests: what a caller knows of a sample by the plan that `plan` answered.
use mathlib.Core.Path.{◌≡◌, sym, ap, ◌∙◌}
use mathlib.Core.Bool.{Bool, true, false, ◌&&◌}
use Prim.Native.Nat.{ℕ}
use lib.Dec.{ltb, leb}
use lib.Ieee.{Float, binary64, add, sub, mul, div, to_unsigned}
use Rattle.std.specs.Prelude.{Result, Ok, Err}
use Rattle.float.specs.Consts.{tau, one64}
use Rattle.float.specs.Cast.{nat_float}
use Rattle.refusal.specs.declared.Refusal.{Refusal}
use Rattle.refusal.specs.declared.Refusal.TheVariants.{Direction, NotThere}
use Rattle.refusal.specs.Refusals.{Check, passed, ok, refused, number_of, stated, unless}
use Rattle.param.specs.Param.{param}
use Rattle.param.specs.declared.ParamPoint.{ParamPoint}
use Rattle.texture.specs.declared.plan.ParametricSurfaceTexture.{ParametricSurfaceTexture}
use Rattle.texture.specs.declared.plan.ParametricSurfaceTexture.TheVariants.{Swirl, Spiral}
use Rattle.texture.specs.declared.plan.PlanCounts.{PlanCounts}
use Rattle.texture.specs.Plan.{centre, texture_radius, texture_spacing, spiral_turns, rays_of, samples_per_ray}
use Rattle.texture.specs.Plan.{plan_check, plan_of, plan}
use Rattle.texture.specs.Sample.{part, base_angle, turn_of, angle_of, distance_of, point_of, is_there, angle}
use Rattle.texture.specs.Sample.{direction_fits, sample_point}
use Rattle.texture.proofs.Plans.{plan_passed, plan_failed}

module _ (m n count i : ℕ) {t : ParametricSurfaceTexture} {s : Float} where
  pub turn_swirl : {w a b : Float} → t ≡ Swirl s w → a ≡ nat_float i → b ≡ nat_float count →
      div binary64 (mul binary64 (mul binary64 tau w) a) b ≡ turn_of t m n count i
  turn_swirl e p q = rw (e, p, q)

  pub turn_spiral : {k : ℕ} {x y z : Float} → t ≡ Spiral s k → x ≡ texture_spacing s → y ≡ spiral_turns m n x →
      z ≡ part i count → mul binary64 (mul binary64 z tau) y ≡ turn_of t m n count i
  turn_spiral e p q r = rw (e, q, p, r)

  pub distance_swirl : {w r a b : Float} → t ≡ Swirl s w → r ≡ texture_radius m n → a ≡ nat_float i →
      b ≡ nat_float count → div binary64 (mul binary64 r a) b ≡ distance_of t m n count i
  distance_swirl e o p q = rw (e, o, p, q)

  pub distance_spiral : {k : ℕ} {r z : Float} → t ≡ Spiral s k → r ≡ texture_radius m n → z ≡ part i count →
      mul binary64 r (sub binary64 one64 z) ≡ distance_of t m n count i
  distance_spiral e o p = rw (e, o, p)

pub point_is : (t : ParametricSurfaceTexture) (m n count i : ℕ) (cosine sine : Float) {r a b : Float} →
    r ≡ distance_of t m n count i → a ≡ centre m → b ≡ centre n
    → param (add binary64 a (mul binary64 cosine r)) (add binary64 b (mul binary64 sine r)) ≡
    point_of t m n count i cosine sine
unfolding point_of
point_is t m n count i cosine sine p q r = rw (p, q, r)

module _ (t : ParametricSurfaceTexture) (m n ray i : ℕ) {a : Result PlanCounts Refusal} (ea : stated a ≡ plan t m n) where
  -- no plan
  pub angle_failed : {k : Refusal} → a ≡ Err k → refused (number_of k) ≡ angle t m n ray i
  unfolding angle plan
  angle_failed e =
      plan_failed t m n (unless (is_there (plan_of t m n) ray i) NotThere passed) (plan_of t m n)
      (ok (angle_of t m n (plan_of t m n) ray i)) (ap stated (sym e) ∙ ea)

  pub point_failed : (cosine sine : Float) {k : Refusal} → a ≡ Err k →
      refused (number_of k) ≡ sample_point t m n ray i cosine sine
  unfolding sample_point plan
  point_failed cosine sine e =
      plan_failed t m n
      (unless (direction_fits cosine sine) Direction (unless (is_there (plan_of t m n) ray i) NotThere passed))
      (plan_of t m n) (ok (point_of t m n (plan_of t m n).samples i cosine sine)) (ap stated (sym e) ∙ ea)

  -- a plan of the counts p
  module _ {p : PlanCounts} (e : a ≡ Ok p) where
    known : (after : Check) → (plan_check t m n after ≡ after) × (p ≡ plan_of t m n)
    known after = plan_passed t m n after (ap stated (sym e) ∙ ea)

    rays_are : to_unsigned 64 (rays_of m n t) ≡ p.rays
    rays_are = sym (ap (λ (q : PlanCounts). q.rays) (known passed).1)

    samples_are : to_unsigned 64 (samples_per_ray m n t) ≡ p.samples
    samples_are = sym (ap (λ (q : PlanCounts). q.samples) (known passed).1)

    -- the test that the call makes after the plan's own
    abbrev there : Check
    there = unless (ltb ray p.rays && leb i p.samples) NotThere passed

    pub angle_ok : {x y : Float} → ltb ray p.rays && leb i p.samples ≡ true → x ≡ base_angle p.rays ray →
        y ≡ turn_of t m n p.samples i → ok (add binary64 x y) ≡ angle t m n ray i
    unfolding angle angle_of
    angle_ok h x y = rw (rays_are, samples_are, (known there).0, h, x, y)

    pub angle_not_there : ltb ray p.rays && leb i p.samples ≡ false → refused 8 ≡ angle t m n ray i
    unfolding angle
    angle_not_there h = rw (rays_are, samples_are, (known there).0, h)

    module _ (cosine sine : Float) {b : Bool} (eb : b ≡ direction_fits cosine sine) where
      abbrev after : Check
      after = unless (direction_fits cosine sine) Direction there

      pub point_direction : b ≡ false → refused 7 ≡ sample_point t m n ray i cosine sine
      unfolding sample_point
      point_direction h = rw (rays_are, samples_are, (known after).0, ← eb, h)

      pub point_not_there : b ≡ true → ltb ray p.rays && leb i p.samples ≡ false →
          refused 8 ≡ sample_point t m n ray i cosine sine
      unfolding sample_point
      point_not_there g h = rw (rays_are, samples_are, (known after).0, ← eb, g, h)

      pub point_ok : {x : ParamPoint} → b ≡ true → ltb ray p.rays && leb i p.samples ≡ true →
          x ≡ point_of t m n p.samples i cosine sine → ok x ≡ sample_point t m n ray i cosine sine
      unfolding sample_point
      point_ok g h x = rw (rays_are, samples_are, (known after).0, ← eb, g, h, x)
