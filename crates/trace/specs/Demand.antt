-- Rules 5.5 and 5.4: demand 3, whole, of every accepted grid, all seams that fit it, all tolerances and all samples.
-- Its triangles, flipped pairs and traced points are those that the contracts of `triangulate_seams`,
-- `triangulate_grid` and `trace_flat` cite.
use Rattle.std.specs.Prelude.{◌≡◌, true, List, ℕ, ◌+◌, ◌*◌, ◌<◌, get_or, Float}
use Rattle.std.specs.Float.{nan}
use Rattle.refusal.specs.Refusals.{Answer, ok, refused}
use Rattle.tolerance.specs.declared.Tolerances.{Tolerances}
use Rattle.lent.specs.declared.Counts.{Counts}
use Rattle.lent.specs.Lent.{Afterwards}
use Rattle.grid.specs.Grid.{point_at, Accepted}
use Rattle.crossing.specs.Crossing.{blend}
use Rattle.cyclic.specs.Mapping.{Seam}
use Rattle.surface.specs.Surface.{Shape, triangles, Owns, StepsAround, Meets, Jₙ}
use Rattle.surface.specs.Found.{u_search, v_search, surface_with, CoveredJoining, CoveredGrid}
use Rattle.surface.specs.Given.{seams_fit}
use Rattle.page.specs.Page.{Lists}
use Rattle.trace.specs.Trace.{trace_flat}

-- how many points a trace draws: as many as it counts, and none if it is refused
abbrev pub points_in : Answer Counts → ℕ
points_in (ok c) = c.points
points_in (refused k) = 0

-- P of each point that a trace draws, by the lists that it leaves
abbrev pub EachPoint : (Lists → ℕ → Type 0) → Afterwards (Answer Counts) Lists → Type 0
EachPoint P t = (i : ℕ) → i < points_in t.answer → P t.lists i

-- what is handed out beside point i: p and q, and t
abbrev pub p_of : Lists → ℕ → ℕ
p_of l i = get_or l.sides (2 * i) 0

abbrev pub q_of : Lists → ℕ → ℕ
q_of l i = get_or l.sides (2 * i + 1) 0

abbrev pub t_of : Lists → ℕ → Float
t_of l i = get_or l.fractions i nan

-- point i was made from p and q: they are numbers of grid points, and its three numbers are the blend of these by t
pub record Made (g : List Float) (m n : ℕ) (l : Lists) (i : ℕ) : Type 0 where
  pub p_there : p_of l i < (m + 1) * (n + 1)
  pub q_there : q_of l i < (m + 1) * (n + 1)
  pub blended : point_at l.points i ≡ blend (point_at g (p_of l i)) (point_at g (q_of l i)) (t_of l i)

-- some side has a and b as its ends: some triangle has the two next to each other, whichever comes first (Rules 5.3)
abbrev pub EndsOfSide : Shape → ℕ → ℕ → Type 0
EndsOfSide s a b = (i : ℕ) × Owns (triangles s) a b i

-- some side has as its ends what J makes of p and of q
abbrev pub OnSide : Shape → Lists → ℕ → Type 0
OnSide s l i = EndsOfSide s (Jₙ s (p_of l i)) (Jₙ s (q_of l i))

-- of two seams: the sides and flipped pairs of the surface that they make (Rules 5.4), and the points of every trace
-- across it, whatever its tolerances, the samples and the lists lent; where a seam joins, 2 steps around are needed,
-- for with 1 J can take p and q to one point
pub record DemandMet (g : List Float) (m n : ℕ) (u v : Seam) : Type 0 where
  pub surface : Meets (surface_with m n u v)
  pub points : StepsAround 2 (surface_with m n u v) →
      (tolerances : Tolerances) (pairs : List Float) (marks : List ℕ) (l : Lists) →
      EachPoint (OnSide (surface_with m n u v)) (trace_flat g m n tolerances pairs marks l)

-- of an accepted grid: the points of every trace were made from their p and q; and the above of seams that are a
-- covered joining, of any two that fit the grid at whatever tolerances, and of the two that are found there
pub record GridMet (g : List Float) (m n : ℕ) : Type 0 where
  pub made : (tolerances : Tolerances) (pairs : List Float) (marks : List ℕ) (l : Lists) →
      EachPoint (Made g m n) (trace_flat g m n tolerances pairs marks l)
  pub given : (t : Tolerances) (u v : Seam) → seams_fit g m n t u v ≡ true → CoveredJoining u v → DemandMet g m n u v
  pub covered : (t : Tolerances) → CoveredGrid g m n t →
      DemandMet g m n (u_search g m n t.u).seam (v_search g m n t.v).seam

-- demand 3
abbrev pub Demand3 : List Float → ℕ → ℕ → Type 0
Demand3 g m n = Accepted g m n → GridMet g m n
