-- Laws of samples: the first sample of a swirl and the last of a spiral are +0 away from the centre, and so at the
-- centre bit for bit. The radius is finite and above 0, since it lies between that of 1 step and that of 255; a finite
-- value times 0 is a zero, and a value that is k / 2 stays when a zero is added (`float`, Zeros.antt).
use mathlib.Core.Path.{◌≡◌, refl, sym, ◌∙◌}
use mathlib.Core.Bool.{Bool, true, false}
use Prim.Native.Nat.{ℕ, ◌*◌, ◌^◌, ◌≤◌, ◌<◌}
use native.Mathlib.Nat.{le_refl, le_trans, mul-one, mul_assoc, mul-lt-mul_of_pos_right, lt_of_lt_of_le}
use native.Mathlib.Omega.{arith}
use lib.IntN.{pos}
use lib.Dec.{T, lit≤, lit<}
use lib.Ieee.{Float, fin, binary64, le, round, add, mul, of_int, of_bits}
use lib.Pow.{pow_pos}
use lib.Ieee.Exact.{HasValue, round_exact}
use lib.Ieee.Positive.{num, den, positive, cross→le, between, mul_at, mul_mono}
use borrow.Author.Tests.{le-leb}
use Rattle.float.specs.Consts.{zero64, one64, sqrt2, half64}
use Rattle.float.specs.Sign.{is_finite, negative, at_most}
use Rattle.float.specs.Order.{larger}
use Rattle.float.specs.Cast.{nat_float}
use Rattle.basics.proofs.Tests.{and_both}
use Rattle.float.proofs.Larger.{larger_keeps}
use Rattle.float.proofs.Bounds.{nat_value, nat_positive, nat_zero, nat_le, at_most_finite}
use Rattle.float.proofs.Differences.{sub_self}
use Rattle.float.proofs.Zeros.{zero_is, times_zero, positive_times_zero, zero_over, over_self, plus_zero}
use Rattle.refusal.specs.declared.Refusal.TheVariants.{Direction, NotThere}
use Rattle.refusal.specs.Refusals.{passed, ok, unless}
use Rattle.refusal.proofs.Laws.{unless_passed, answered}
use Rattle.grid.proofs.Laws.{Stepped, steps_known}
use Rattle.param.specs.Param.{param}
use Rattle.param.specs.declared.ParamPoint.{ParamPoint}
use Rattle.texture.specs.declared.plan.ParametricSurfaceTexture.{ParametricSurfaceTexture}
use Rattle.texture.specs.declared.plan.ParametricSurfaceTexture.TheVariants.{Swirl, Spiral}
use Rattle.texture.specs.declared.plan.PlanCounts.{PlanCounts}
use Rattle.texture.specs.Plan.{centre, texture_radius, plan_check, plan_of, plan}
use Rattle.texture.specs.Sample.{distance_of, direction_fits, point_of, is_there, sample_point}
use Rattle.texture.proofs.Plans.{checks, plan_passed, plan_ok}
use Rattle.texture.proofs.Laws.{swirl_counts, spiral_counts}

-- ---- counts, the centre, and the radius, of 1 to 255 steps
small : (n : ℕ) → n ≤ 255 → n ≤ 2 ^ 53
small n h = le_trans h (lit≤ tt)

-- the centre of k steps is k / 2 exactly
centre_is : (k : ℕ) → 1 ≤ k → k ≤ 255 → centre k ≡ round binary64 false k 2
centre_is k lo hi =
    simp mul-one at
    (mul_at binary64 (nat_float k) half64 k 1 1 2 (nat_positive k lo (small k hi)) (unfold of_bits in tt) (lit< tt)
    (lit< tt) (nat_value k (small k hi)) (unfold of_bits in (refl, refl)))

centre_value : (k : ℕ) → k ≤ 255 → HasValue (round binary64 false k 2) false k 2
centre_value k hi =
    let few : k < 9007199254740992 = omega arith in
    round_exact binary64 false k 2 k 1073 (lit< tt) few (lt_of_lt_of_le (mul-lt-mul_of_pos_right few (pow_pos 1073))
    (lit≤ tt)) (sym (mul_assoc k (2 ^ 1073) 2))

centre_zero : (k : ℕ) (z : Bool) → 1 ≤ k → k ≤ 255 → add binary64 (centre k) (fin z 0 (pos 0)) ≡ centre k
centre_zero k z lo hi = let e = centre_is k lo hi in plus_zero (centre k) z k 2 (lit< tt) e (rw e (centre_value k hi))

-- x is from lo to hi
abbrev Inside : Float → Float → Float → Type 0
Inside lo x hi = T (le lo x) × T (le x hi)

nat_inside : (k : ℕ) → 1 ≤ k → k ≤ 255 → Inside (nat_float 1) (nat_float k) (nat_float 255)
nat_inside k lo hi = (
  rw (nat_le 1 k (lit≤ tt) (small k hi), le-leb 1 k lo) tt,
  rw (nat_le k 255 (small k hi) (lit≤ tt), le-leb k 255 hi) tt,
)

-- a product grows with a factor
grows : (lo x hi c : Float) → T (positive lo) → T (positive hi) → T (positive c) → Inside lo x hi →
    Inside (mul binary64 lo c) (mul binary64 x c) (mul binary64 hi c)
grows lo x hi c p q r i =
    let k = cross→le c c r r (le_refl (num c * den c)) in
    let above = between lo x hi p q i.0 i.1 in
    (mul_mono binary64 lo x c c p above r r i.0 k, mul_mono binary64 x hi c c above q r r i.1 k)

abbrev halved : Float → Float
halved x = mul binary64 x half64

-- finite and above 0: the radius of 1 step is, and so is that of 255
pub radius_positive : (m n : ℕ) → Stepped m n → T (positive (texture_radius m n))
unfolding texture_radius
radius_positive m n s =
    let x = larger (nat_float m) (nat_float n) in
    let steps =
    larger_keeps (λ z. Inside (nat_float 1) z (nat_float 255)) (nat_float m) (nat_float n)
    (nat_inside m s.m_least s.m_most) (nat_inside n s.n_least s.n_most) in
    let halves =
    grows (nat_float 1) x (nat_float 255) half64 (unfold nat_float of_int in tt) (unfold nat_float of_int in tt)
    (unfold of_bits in tt) steps in
    let radii =
    grows (halved (nat_float 1)) (halved x) (halved (nat_float 255)) sqrt2 (unfold nat_float of_int mul of_bits in tt)
    (unfold nat_float of_int mul of_bits in tt) (unfold sqrt2 of_bits in tt) halves in
    between (mul binary64 (halved (nat_float 1)) sqrt2) (mul binary64 (halved x) sqrt2)
    (mul binary64 (halved (nat_float 255)) sqrt2)
    (unfold nat_float of_int mul sqrt2 of_bits in tt) (unfold nat_float of_int mul sqrt2 of_bits in tt) radii.0 radii.1

-- ---- distances
module _ (s : Float) (m n c : ℕ) (k : Stepped m n) (lo : 1 ≤ c) (hi : c ≤ 2 ^ 53) where
  -- of the first of c samples of a swirl's ray
  pub swirl_first : (w : Float) → distance_of (Swirl s w) m n c 0 ≡ zero64
  swirl_first w =
      rw (
        nat_zero,
        positive_times_zero (texture_radius m n) (radius_positive m n k),
        zero_over (nat_float c) (nat_positive c lo hi),
      ) zero_is

  -- of the last of c samples of a spiral's ray
  pub spiral_last : (a : ℕ) → distance_of (Spiral s a) m n c c ≡ zero64
  spiral_last a =
      rw (
        over_self (nat_float c) (nat_positive c lo hi),
        sub_self one64 (unfold is_finite of_bits in refl),
        positive_times_zero (texture_radius m n) (radius_positive m n k),
      ) zero_is

-- ---- points

-- one coordinate: x is the cosine or the sine
axis : (k : ℕ) (x : Float) {r : Float} → 1 ≤ k → k ≤ 255 → is_finite x ≡ true → r ≡ zero64 →
    add binary64 (centre k) (mul binary64 x r) ≡ centre k
axis k x lo hi f e = rw (e, ← zero_is, times_zero x f) (centre_zero k (negative x) lo hi)

-- where the distance is +0, the point is the centre
pub at_centre : (t : ParametricSurfaceTexture) (m n c i : ℕ) (cosine sine : Float) → Stepped m n →
    direction_fits cosine sine ≡ true → distance_of t m n c i ≡ zero64
    → point_of t m n c i cosine sine ≡ param (centre m) (centre n)
unfolding point_of
at_centre t m n c i cosine sine k f h =
    let d = and_both (at_most cosine one64) (at_most sine one64) f in
    let x = at_most_finite cosine one64 (unfold is_finite of_bits in refl) d.0 in
    let y = at_most_finite sine one64 (unfold is_finite of_bits in refl) d.1 in
    rw (axis m cosine k.m_least k.m_most x h, axis n sine k.n_least k.n_most y h)

-- ---- the call
-- what a sample point passed
sampled : (t : ParametricSurfaceTexture) (m n ray i : ℕ) (cosine sine : Float) {q : ParamPoint} →
    sample_point t m n ray i cosine sine ≡ ok q
    → Stepped m n × (plan t m n ≡ ok (plan_of t m n)) × (direction_fits cosine sine ≡ true) ×
    (q ≡ point_of t m n (plan_of t m n).samples i cosine sine)
unfolding sample_point
sampled t m n ray i cosine sine e =
    let there = unless (is_there (plan_of t m n) ray i) NotThere passed in
    let after = unless (direction_fits cosine sine) Direction there in
    let a = answered (plan_check t m n after) e in
    let b = checks t m n after a.0 in (
      steps_known m n b.0,
      plan_ok t m n after a.0,
      (unless_passed (direction_fits cosine sine) Direction there b.3).0,
      a.1,
    )

module _ (s : Float) (m n ray : ℕ) (cosine sine : Float) {q : ParamPoint} where
  -- a swirl's rays start at the centre
  pub swirl_starts : (w : Float) → sample_point (Swirl s w) m n ray 0 cosine sine ≡ ok q →
      q ≡ param (centre m) (centre n)
  swirl_starts w e =
      let k = sampled (Swirl s w) m n ray 0 cosine sine e in
      let c = (plan_of (Swirl s w) m n).samples in
      let b = swirl_counts s w m n k.1 in
      k.3 ∙ at_centre (Swirl s w) m n c 0 cosine sine k.0 k.2
      (swirl_first s m n c k.0 (le_trans (lit≤ tt) b.samples_least) (le_trans b.samples_most (lit≤ tt)) w)

  -- and a spiral's end there
  pub spiral_ends : (a : ℕ) {p : PlanCounts} → plan (Spiral s a) m n ≡ ok p →
      sample_point (Spiral s a) m n ray p.samples cosine sine ≡ ok q → q ≡ param (centre m) (centre n)
  spiral_ends a {p} h e =
      let k = sampled (Spiral s a) m n ray p.samples cosine sine e in
      let c = p.samples in
      let b = spiral_counts s a m n h in
      let same : (plan_of (Spiral s a) m n).samples ≡ c = cc (plan_passed (Spiral s a) m n passed (sym h)).1 in
      (rw same at k.3)
      ∙ at_centre (Spiral s a) m n c c cosine sine k.0 k.2
      (spiral_last s m n c k.0 (le_trans (lit≤ tt) b.samples_least) (le_trans b.samples_most (lit≤ tt)) a)
