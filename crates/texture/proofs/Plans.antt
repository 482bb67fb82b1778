-- `plan` by the cases of its tests, and what follows them: what is known where all of them pass, and that its refusals
-- come first.
use mathlib.Core.Path.{◌≡◌, sym}
use mathlib.Core.Bool.{Bool, true, false, ◌&&◌, true≢false}
use Prim.Native.Nat.{ℕ, max}
use lib.Ieee.{Float, le, to_unsigned}
use Rattle.std.specs.Prelude.{Err}
use Rattle.float.specs.Cast.{nat_float}
use Rattle.refusal.specs.declared.Refusal.{Refusal}
use Rattle.refusal.specs.Refusals.{Check, passed, Answer, ok, refused, number_of, unless, passing}
use Rattle.refusal.specs.declared.Refusal.TheVariants.{Steps, Texture, Count}
use Rattle.grid.specs.Grid.{steps_fit}
use Rattle.refusal.proofs.Laws.{unless_passed, unless_then, answered, refused_first}
use Rattle.texture.specs.declared.plan.ParametricSurfaceTexture.{ParametricSurfaceTexture}
use Rattle.texture.specs.declared.plan.ParametricSurfaceTexture.TheVariants.{Swirl, Spiral}
use Rattle.texture.specs.declared.plan.PlanCounts.{PlanCounts}
use Rattle.texture.specs.Plan.{texture_spacing, swirl_rays, radial_sample_count, spiral_sample_count, rays_of}
use Rattle.texture.specs.Plan.{samples_per_ray, texture_fits, max_count, counts_fit, plan_check, plan_of, plan}

-- the counts of each texture, before they are counts
module _ (m n : ℕ) {t : ParametricSurfaceTexture} {s : Float} where
  pub rays_swirl : {w x r : Float} → t ≡ Swirl s w → x ≡ texture_spacing s → r ≡ swirl_rays m n x → r ≡ rays_of m n t
  rays_swirl e p q = rw (e, q, p)

  pub rays_spiral : {a k : ℕ} {r : Float} → t ≡ Spiral s a → k ≡ max a 1 → r ≡ nat_float k → r ≡ rays_of m n t
  rays_spiral e p q = rw (e, q, p)

  pub samples_swirl : {w x r : Float} → t ≡ Swirl s w → x ≡ texture_spacing s → r ≡ radial_sample_count m n x w →
      r ≡ samples_per_ray m n t
  samples_swirl e p q = rw (e, q, p)

  pub samples_spiral : {a : ℕ} {x r : Float} → t ≡ Spiral s a → x ≡ texture_spacing s → r ≡ spiral_sample_count m n x →
      r ≡ samples_per_ray m n t
  samples_spiral e p q = rw (e, q, p)

-- `plan` by the cases of its tests, in their order
module _ (t : ParametricSurfaceTexture) (m n : ℕ) {b : Bool} (eb : b ≡ steps_fit m n) where
  pub plan_steps : b ≡ false → refused 1 ≡ plan t m n
  unfolding plan plan_check
  plan_steps h = rw (← eb, h)

  module _ (h : b ≡ true) {f : Bool} (ef : f ≡ texture_fits t) where
    pub plan_texture : f ≡ false → refused 5 ≡ plan t m n
    unfolding plan plan_check
    plan_texture k = rw (← eb, h, ← ef, k)

    module _ (k : f ≡ true) {r s : Float} (er : r ≡ rays_of m n t) (es : s ≡ samples_per_ray m n t) where
      pub plan_counts : le r max_count && le s max_count ≡ false → refused 6 ≡ plan t m n
      unfolding plan plan_check
      plan_counts l = rw (← eb, h, ← ef, k, ← er, ← es, l)

      pub plan_counted : {i j : ℕ} → le r max_count && le s max_count ≡ true → i ≡ to_unsigned 64 r →
          j ≡ to_unsigned 64 s → ok (record { rays = i; samples = j }) ≡ plan t m n
      unfolding plan plan_check
      plan_counted l ei ej = rw (← eb, h, ← ef, k, ← er, ← es, l, ei, ej)

-- what is known where all tests are passed
pub checks : (t : ParametricSurfaceTexture) (m n : ℕ) (after : Check) → plan_check t m n after ≡ passed
    → (steps_fit m n ≡ true) × (texture_fits t ≡ true) × (counts_fit (rays_of m n t) (samples_per_ray m n t) ≡ true) ×
    (after ≡ passed)
unfolding plan_check
checks t m n after h =
    let counts = counts_fit (rays_of m n t) (samples_per_ray m n t) in
    let a = unless_passed (steps_fit m n) Steps (unless (texture_fits t) Texture (unless counts Count after)) h in
    let b = unless_passed (texture_fits t) Texture (unless counts Count after) a.1 in
    let c = unless_passed counts Count after b.1 in
    (a.0, b.0, c.0, c.1)

module _ (t : ParametricSurfaceTexture) (m n : ℕ) (after : Check) where
  -- where a plan's tests are passed, only the tests after them are left
  pub tests_passed : {A : Type 0} {p a : A} → ok p ≡ passing (plan_check t m n passed) (ok a) →
      (plan_check t m n after ≡ after) × (p ≡ a)
  unfolding plan_check
  tests_passed e =
      let a = answered (plan_check t m n passed) (sym e) in
      let c = checks t m n passed a.0 in
      (rw (c.0, c.1, c.2), a.1)

  -- so where there is a plan
  pub plan_passed : {p : PlanCounts} → ok p ≡ plan t m n → (plan_check t m n after ≡ after) × (p ≡ plan_of t m n)
  unfolding plan
  plan_passed e = tests_passed e

  -- where all pass, there is a plan
  pub plan_ok : plan_check t m n after ≡ passed → plan t m n ≡ ok (plan_of t m n)
  unfolding plan plan_check
  plan_ok h = let c = checks t m n after h in rw (c.0, c.1, c.2)

  -- where one of them refuses, its refusal is the answer
  pub plan_failed : {A B : Type 0} {k : ℕ} (a : B) (z : Answer A) → refused k ≡ passing (plan_check t m n passed) (ok a) →
      refused k ≡ passing (plan_check t m n after) z
  unfolding plan_check
  plan_failed a z e =
      let counts = unless (counts_fit (rays_of m n t) (samples_per_ray m n t)) Count passed in
      let texture = unless (texture_fits t) Texture counts in
      rw (
        unless_then (counts_fit (rays_of m n t) (samples_per_ray m n t)) Count passed after,
        unless_then (texture_fits t) Texture counts after,
        unless_then (steps_fit m n) Steps texture after,
      )
      (refused_first (plan_check t m n passed) after a z e)

-- a test that refuses, whatever is tested after it
unless_failed : {A : Type 0} (b : Bool) (r : Refusal) (after : Check) (z : Answer A) {k : Refusal} →
    Err k ≡ unless b r passed → refused (number_of k) ≡ passing (unless b r after) z
unless_failed true r after z e = absurd (true≢false (cc))
unless_failed false r after z e = cc

-- where a plan's tests are passed, the refusal of the next test is the answer
pub test_failed : (t : ParametricSurfaceTexture) (m n : ℕ) {B : Type 0} {p : B} (a : B) →
    ok p ≡ passing (plan_check t m n passed) (ok a) →
    {A : Type 0} (b : Bool) (r : Refusal) (after : Check) (z : Answer A) {k : Refusal} → Err k ≡ unless b r passed →
    refused (number_of k) ≡ passing (plan_check t m n (unless b r after)) z
test_failed t m n a h b r after z e =
    rw (tests_passed t m n (unless b r after) h).0 (unless_failed b r after z e)
