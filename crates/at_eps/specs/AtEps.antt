-- Rules 2.4: EPS for every tolerance gives the answers, and leaves the lists, of before there were tolerances.
use Rattle.std.specs.Prelude.{ℕ, ◌≡◌, List, Float}
use Rattle.float.specs.Consts.{eps}
use Rattle.tolerance.specs.Tolerance.{every_eps}
use Rattle.cyclic.specs.Search.{new_vector}
use Rattle.mesh.specs.Mesh.{MeshLists}
use Rattle.triangulation.specs.Triangulation.{triangulate_grid}
use Rattle.page.specs.Page.{Lists}
use Rattle.trace.specs.Trace.{trace_flat}
use Rattle.at_eps.specs.Before as before

-- of the definitions that the contracts of `new_vector`, `triangulate_grid`, `trace_flat` and `trace_samples` cite
pub record SameAtEps : Type 0 where
  pub rows : (a b : List Float) → new_vector a b eps ≡ before.new_vector a b
  pub triangles : (g : List Float) (m n : ℕ) (lent : MeshLists) →
      triangulate_grid g m n every_eps lent ≡ before.triangulate_grid g m n lent
  pub trace : (g : List Float) (m n : ℕ) (pairs : List Float) (marks : List ℕ) (l : Lists) →
      trace_flat g m n every_eps pairs marks l ≡ before.trace_flat g m n pairs marks l
