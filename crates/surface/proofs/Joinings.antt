-- Demand 3 for seams that fit, given or found. A mapping that fits has its row's steps and an offset below them; with
-- that, a covered joining (Rules 5.2) makes a shape that the theorem is proved for. What a search finds fits.
use Prim.Native.Nat.{ℕ, ◌≤◌}
use mathlib.Core.Path.{◌≡◌, refl, ap}
use mathlib.Core.Bool.{true}
use mathlib.Core.Logic.{inl, inr}
use mathlib.Core.List.{List}
use native.Mathlib.Omega.{arith}
use lib.Ieee.{Float}
use Rattle.basics.proofs.Tests.{and_both}
use Rattle.std.specs.Prelude.{Some, None}
use Rattle.tolerance.specs.declared.Tolerances.{Tolerances}
use Rattle.grid.proofs.Laws.{accepted_known}
use Rattle.cyclic.specs.declared.mapping.CyclicMapping.{CyclicMapping}
use Rattle.cyclic.specs.declared.mapping.CyclicMapping.TheVariants.{Forward, Reverse}
use Rattle.cyclic.specs.Mapping.{Seam, steps_of}
use Rattle.cyclic.specs.Mapping as mapping
use Rattle.cyclic.specs.Search.{Row, Closeness, close_at}
use Rattle.cyclic.specs.Fits.{seam_fits}
use Rattle.cyclic.proofs.Fits.{fits_known}
use Rattle.surface.specs.Surface.{forward, inverse, Meets}
use Rattle.surface.specs.Found.{column, row, u_search, v_search, of_mapping, surface_with, ForwardAtZero}
use Rattle.surface.specs.Found.{CoveredJoining, SurfaceMeets, Maps}
use Rattle.surface.specs.Given.{seams_fit, GivenMeets}
use Rattle.surface.proofs.Covered.{Covered, neither, only_u, only_v, both_u, both_v}
use Rattle.surface.proofs.Searches.{found_in}
use Rattle.surface.proofs.Demand.{covered_meets}

-- the inverse image that a surface takes is the mapping's own
pub inverse_of : (k : CyclicMapping) (b : ℕ) → inverse (of_mapping k) (steps_of k) b ≡ mapping.inverse k b
inverse_of (Forward o steps) b = refl
inverse_of (Reverse o steps) b = refl

-- ---- covered joinings

at_zero : (k : CyclicMapping) → ForwardAtZero k → of_mapping k ≡ forward 0
at_zero (Forward o steps) e = ap forward e
at_zero (Reverse o steps) e = absurd e

pub covered : (m n : ℕ) (su sv : Seam) → Maps su n → Maps sv m → CoveredJoining su sv → Covered (surface_with m n su sv)
covered m n None None p q c = neither refl refl
covered m n (Some (Forward o k)) None p q c = only_u c refl
covered m n (Some (Reverse o k)) None p q c = only_u c refl
covered m n None (Some (Forward o k)) p q c = only_v refl c
covered m n None (Some (Reverse o k)) p q c = only_v refl c
covered m n (Some j) (Some (Forward o k)) p q (inl c) = both_v (at_zero j c.0) q.1
covered m n (Some j) (Some (Reverse o k)) p q (inl c) = both_v (at_zero j c.0) (omega (arith, c.1), q.1)
covered m n (Some (Forward o k)) (Some j) p q (inr c) = both_u p.1 (at_zero j c.1)
covered m n (Some (Reverse o k)) (Some j) p q (inr c) = both_u (omega (arith, c.0), p.1) (at_zero j c.1)

-- demand 3 of the surface that two seam answers make, found or given
pub joining_meets : (m n : ℕ) (su sv : Seam) → 1 ≤ m → 1 ≤ n → Maps su n → Maps sv m → CoveredJoining su sv →
    Meets (surface_with m n su sv)
joining_meets m n su sv hm hn p q c = covered_meets (surface_with m n su sv) hm hn (covered m n su sv p q c)

-- ---- seams that fit

fits_maps : (close : Closeness) (a b : Row) (steps : ℕ) (s : Seam) → seam_fits close a b steps s ≡ true → Maps s steps
fits_maps close a b steps None h = tt
fits_maps close a b steps (Some k) h = let f = fits_known close a b steps k h in (f.steps, f.below)

-- what is found has its row's steps and an offset below them
pub u_of_row : (g : List Float) (m n : ℕ) (t : Float) → 1 ≤ n → Maps (u_search g m n t).seam n
unfolding u_search
u_of_row g m n t h =
    fits_maps (close_at t) (column g n 0) (column g n m) n (u_search g m n t).seam
    (found_in (close_at t) (column g n 0) (column g n m) n h)

pub v_of_row : (g : List Float) (m n : ℕ) (t : Float) → 1 ≤ m → Maps (v_search g m n t).seam m
unfolding v_search
v_of_row g m n t h =
    fits_maps (close_at t) (row g n 0) (row g n n) m (v_search g m n t).seam
    (found_in (close_at t) (row g n 0) (row g n n) m h)

module _ (g : List Float) (m n : ℕ) where
  -- seams that fit are mappings of their rows
  pub given_map : (t : Tolerances) (u v : Seam) → seams_fit g m n t u v ≡ true → Maps u n × Maps v m
  unfolding seams_fit
  given_map t u v h =
      let both = and_both (seam_fits (close_at t.u) (column g n 0) (column g n m) n u)
      (seam_fits (close_at t.v) (row g n 0) (row g n n) m v) h in (
        fits_maps (close_at t.u) (column g n 0) (column g n m) n u both.0,
        fits_maps (close_at t.v) (row g n 0) (row g n n) m v both.1,
      )

  -- the seams that are found fit
  pub found_fits : (t : Tolerances) → 1 ≤ m → 1 ≤ n →
      seams_fit g m n t (u_search g m n t.u).seam (v_search g m n t.v).seam ≡ true
  unfolding seams_fit u_search v_search
  found_fits t hm hn =
      rw (
        found_in (close_at t.u) (column g n 0) (column g n m) n hn,
        found_in (close_at t.v) (row g n 0) (row g n n) m hm,
      )

pub given_meets : (g : List Float) (m n : ℕ) → GivenMeets g m n
given_meets g m n a t u v fit c =
    let s = (accepted_known g m n a).steps in
    let maps = given_map g m n t u v fit in
    joining_meets m n u v s.m_least s.n_least maps.0 maps.1 c

-- the seams that are found are such seams, whatever the tolerances
pub surface_meets : (g : List Float) (m n : ℕ) → SurfaceMeets g m n
surface_meets g m n a t c =
    let s = (accepted_known g m n a).steps in
    given_meets g m n a t (u_search g m n t.u).seam (v_search g m n t.v).seam (found_fits g m n t s.m_least s.n_least) c
