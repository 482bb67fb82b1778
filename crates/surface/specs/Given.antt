-- Rules 4.5: whether two seams that are given fit a grid; then demand 3 of the surface that they make (Rules 5.4).
use Rattle.std.specs.Prelude.{ℕ, ◌≡◌, Bool, true, ◌&&◌, List, Float}
use Rattle.tolerance.specs.declared.Tolerances.{Tolerances}
use Rattle.grid.specs.Grid.{Accepted}
use Rattle.cyclic.specs.Mapping.{Seam}
use Rattle.cyclic.specs.Search.{close_at}
use Rattle.cyclic.specs.Fits.{seam_fits}
use Rattle.surface.specs.Surface.{Meets}
use Rattle.surface.specs.Found.{column, row, surface_with, CoveredJoining}

-- the u seam joins columns 0 and M, of N steps each, and the v seam rows 0 and N, of M steps; each at its tolerance
unfoldable pub seams_fit : List Float → ℕ → ℕ → Tolerances → Seam → Seam → Bool
seams_fit g m n t u v =
    seam_fits (close_at t.u) (column g n 0) (column g n m) n u
    && seam_fits (close_at t.v) (row g n 0) (row g n n) m v

-- Rules 5.4: demand 3 of an accepted grid with two seams that fit it, at whatever tolerances, and are a covered
-- joining, whoever proposed them
abbrev pub GivenMeets : List Float → ℕ → ℕ → Type 0
GivenMeets g m n =
    Accepted g m n → (t : Tolerances) (u v : Seam) → seams_fit g m n t u v ≡ true → CoveredJoining u v →
    Meets (surface_with m n u v)
