-- Laws of plans: a swirl and a spiral have from 1 to 65,536 rays of from 2 to 65,536 samples, a spiral as many rays as
-- arms, Grid none. A count is the cut of a larger of two, so it is at least the second, and the tests bound it from
-- above.
use mathlib.Core.Path.{◌≡◌, refl, sym}
use mathlib.Core.Bool.{true}
use Prim.Native.Nat.{ℕ, ◌≤◌, max}
use native.Mathlib.Nat.{le_antisymm}
use native.Mathlib.Omega.{arith}
use lib.Dec.{lit≤}
use lib.Ieee.{Float, le, of_int, of_bits, is_nan, to_unsigned}
use borrow.Author.Tests.{leb-true, le-leb}
use Rattle.basics.proofs.Tests.{and_both}
use Rattle.float.specs.Consts.{one64}
use Rattle.float.specs.Cast.{nat_float}
use Rattle.float.proofs.Less.{le_reflexive}
use Rattle.float.proofs.Larger.{larger_least}
use Rattle.float.proofs.Bounds.{nat_not_nan, nat_one, nat_le}
use Rattle.float.proofs.Range.{cut_between}
use Rattle.refusal.specs.Refusals.{passed, ok}
use Rattle.texture.specs.declared.plan.ParametricSurfaceTexture.{ParametricSurfaceTexture}
use Rattle.texture.specs.declared.plan.ParametricSurfaceTexture.TheVariants.{Grid, Swirl, Spiral}
use Rattle.texture.specs.declared.plan.PlanCounts.{PlanCounts}
use Rattle.texture.specs.Plan.{two, swirl_rays, radial_sample_count, spiral_sample_count, samples_along, rays_of}
use Rattle.texture.specs.Plan.{samples_per_ray, texture_fits, max_count, plan_of, plan}
use Rattle.texture.proofs.Plans.{checks, plan_passed}

-- ---- what a plan passed
passes : (t : ParametricSurfaceTexture) (m n : ℕ) {p : PlanCounts} → plan t m n ≡ ok p
    → (texture_fits t ≡ true) × (le (rays_of m n t) max_count ≡ true) × (le (samples_per_ray m n t) max_count ≡ true) ×
    (p ≡ plan_of t m n)
passes t m n e =
    let k = plan_passed t m n passed (sym e) in
    let a = checks t m n passed k.0 in
    let c = and_both (le (rays_of m n t) max_count) (le (samples_per_ray m n t) max_count) a.2 in
    (a.1, c.0, c.1, k.1)

-- ---- the counts
pub record CountsFit (p : PlanCounts) : Type 0 where
  pub rays_least : 1 ≤ p.rays
  pub rays_most : p.rays ≤ 65536
  pub samples_least : 2 ≤ p.samples
  pub samples_most : p.samples ≤ 65536

-- of rays and samples that are floats
counts_of : (t : ParametricSurfaceTexture) (m n : ℕ) {p : PlanCounts} → plan t m n ≡ ok p →
    le one64 (rays_of m n t) ≡ true → le two (samples_per_ray m n t) ≡ true → CountsFit p
counts_of t m n e r s =
    let k = passes t m n e in
    let rays =
    cut_between (rays_of m n t) 1 65536 (lit≤ tt) (lit≤ tt) (unfold nat_float of_int of_bits in r)
    (unfold nat_float of_int of_bits in k.1) in
    let samples =
    cut_between (samples_per_ray m n t) 2 65536 (lit≤ tt) (lit≤ tt) (unfold nat_float of_int of_bits in s)
    (unfold nat_float of_int of_bits in k.2) in
    rw k.3 (record {
      rays_least = rays.0;
      rays_most = rays.1;
      samples_least = samples.0;
      samples_most = samples.1;
    })

pub swirl_counts : (s w : Float) (m n : ℕ) {p : PlanCounts} → plan (Swirl s w) m n ≡ ok p → CountsFit p
unfolding swirl_rays radial_sample_count samples_along
swirl_counts s w m n e =
    counts_of (Swirl s w) m n e (larger_least _ one64 (unfold is_nan of_bits in refl))
    (larger_least _ two (unfold is_nan of_bits in refl))

-- arms are rays, and no arms are one
arms_fit : (a : ℕ) → a ≤ 64 → (1 ≤ max a 1) × (max a 1 ≤ 9007199254740992)
arms_fit a h = (omega arith, omega arith)

pub spiral_rays : (s : Float) (a m n : ℕ) {p : PlanCounts} → plan (Spiral s a) m n ≡ ok p → p.rays ≡ max a 1
spiral_rays s a m n e =
    let k = passes (Spiral s a) m n e in
    let b = arms_fit a (leb-true a 64 k.0) in
    let same = le_reflexive (nat_float (max a 1)) (nat_not_nan (max a 1) b.1) in
    let c = cut_between (nat_float (max a 1)) (max a 1) (max a 1) b.1 b.1 same same in
    rw k.3 (le_antisymm c.1 c.0)

pub spiral_counts : (s : Float) (a m n : ℕ) {p : PlanCounts} → plan (Spiral s a) m n ≡ ok p → CountsFit p
unfolding spiral_sample_count samples_along
spiral_counts s a m n e =
    let b = arms_fit a (leb-true a 64 (passes (Spiral s a) m n e).0) in
    let one : le one64 (nat_float (max a 1)) ≡ true =
    rw (← nat_one, nat_le 1 (max a 1) (lit≤ tt) b.1) (le-leb 1 (max a 1) b.0) in
    counts_of (Spiral s a) m n e one (larger_least _ two (unfold is_nan of_bits in refl))

pub grid_counts : (m n : ℕ) {p : PlanCounts} → plan Grid m n ≡ ok p → (p.rays ≡ 0) × (p.samples ≡ 0)
grid_counts m n e = rw (passes Grid m n e).3 (unfold to_unsigned of_bits in (refl, refl))
