-- Rules 4.1 and 5.2: the seams that are found in a grid, the surface that they make of it, and whether they are a
-- covered joining; then demand 3 of the grid's lists (Rules 5.4).
use Rattle.std.specs.Prelude.{ℕ, ◌+◌, ◌<◌, ◌≡◌, ◌⊎◌, List, Float, Some, None}
use Rattle.tolerance.specs.declared.Tolerances.{Tolerances}
use Rattle.grid.specs.Grid.{point_number, point_at, Accepted}
use Rattle.cyclic.specs.declared.mapping.CyclicMapping.{CyclicMapping}
use Rattle.cyclic.specs.declared.mapping.CyclicMapping.TheVariants.{Forward, Reverse}
use Rattle.cyclic.specs.declared.seam.SeamSearch.{SeamSearch}
use Rattle.cyclic.specs.Mapping.{Seam, offset_of, steps_of}
use Rattle.cyclic.specs.Search.{Row, close_at, search}
use Rattle.surface.specs.Surface as surface

-- the points with u fixed, by v, and those with v fixed, by u
abbrev pub column : List Float → ℕ → ℕ → Row
column g n u v = point_at g (point_number n u v)

abbrev pub row : List Float → ℕ → ℕ → Row
row g n v u = point_at g (point_number n u v)

-- Rules 4.1: the u seam, with column 0 for a and column M for b; and the v seam, with row 0 for a and row N for b; each
-- at its tolerance
unfoldable pub u_search : List Float → ℕ → ℕ → Float → SeamSearch
u_search g m n tolerance = search (close_at tolerance) (column g n 0) (column g n m) (n + 1) (n + 1)

unfoldable pub v_search : List Float → ℕ → ℕ → Float → SeamSearch
v_search g m n tolerance = search (close_at tolerance) (row g n 0) (row g n n) (m + 1) (m + 1)

-- a seam's answer as a surface holds it: without the steps, which are its row's
abbrev pub of_mapping : CyclicMapping → surface.Seam
of_mapping (Forward o steps) = surface.forward o
of_mapping (Reverse o steps) = surface.reverse o

abbrev pub seam_of : Seam → surface.Seam
seam_of None = surface.unjoined
seam_of (Some k) = of_mapping k

-- a mapping of rows of so many steps: it has their steps, and an offset below them; None is as it is
abbrev pub Maps : Seam → ℕ → Type 0
Maps None steps = Unit {0}
Maps (Some k) steps = (steps_of k ≡ steps) × (offset_of k < steps)

-- the surface that two seam answers make of a grid with M and N steps
abbrev pub surface_with : ℕ → ℕ → Seam → Seam → surface.Shape
surface_with m n su sv =
    record { M = m; N = n; su = seam_of su; sv = seam_of sv; rule = surface.once; split = surface.falling }

-- the surface of a grid, with the seams that are found in it at these tolerances
abbrev pub surface_of : List Float → ℕ → ℕ → Tolerances → surface.Shape
surface_of g m n t = surface_with m n (u_search g m n t.u).seam (v_search g m n t.v).seam

-- what one of two seams must be: Forward, at offset 0
abbrev pub ForwardAtZero : CyclicMapping → Type 0
ForwardAtZero (Forward o steps) = o ≡ 0
ForwardAtZero (Reverse o steps) = ⊥

-- what the other may be: Forward, or Reverse and not at offset 0
abbrev pub ForwardOrOffZero : CyclicMapping → Type 0
ForwardOrOffZero (Forward o steps) = Unit {0}
ForwardOrOffZero (Reverse o steps) = o ≡ 0 → ⊥

-- Rules 5.2: a covered joining, case by case: no seam, one of them, both
abbrev pub CoveredJoining : Seam → Seam → Type 0
CoveredJoining None None = Unit {0}
CoveredJoining (Some j) None = offset_of j ≡ 0
CoveredJoining None (Some k) = offset_of k ≡ 0
CoveredJoining (Some j) (Some k) = (ForwardAtZero j × ForwardOrOffZero k) ⊎ (ForwardOrOffZero j × ForwardAtZero k)

-- the seams that are found in a grid at these tolerances are a covered joining
abbrev pub CoveredGrid : List Float → ℕ → ℕ → Tolerances → Type 0
CoveredGrid g m n t = CoveredJoining (u_search g m n t.u).seam (v_search g m n t.v).seam

-- Rules 5.4: demand 3 of an accepted grid whose seams, found at whatever tolerances, are a covered joining
abbrev pub SurfaceMeets : List Float → ℕ → ℕ → Type 0
SurfaceMeets g m n = Accepted g m n → (t : Tolerances) → CoveredGrid g m n t → surface.Meets (surface_of g m n t)
