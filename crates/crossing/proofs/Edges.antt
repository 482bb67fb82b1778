-- Both points of a side stand in the grid's list, as each index is at most the axis's steps; and the cell that
-- `step_index` gives is one of them.
use mathlib.Core.Path.{◌≡◌, sym, ◌∙◌}
use mathlib.Core.List.{List}
use Prim.Native.Nat.{ℕ, ◌+◌, ◌*◌, ◌≤◌, ◌<◌}
use native.Mathlib.Omega.{arith}
use lib.ListN.{length}
use lib.Ieee.{Float}
use Rattle.std.specs.Prelude.{Option, Some}
use Rattle.grid.specs.Grid.{point_number, GridFits}
use Rattle.grid.proofs.Laws.{point_below}
use Rattle.param.specs.declared.Cells.{Cells}
use Rattle.crossing.specs.Crossing.{step_index}
use Rattle.crossing.proofs.Steps.{step_index_below}

-- two points of the grid
pub sides_stand : (g : List Float) (k : Cells) (u0 v0 u1 v1 : ℕ) → GridFits g k →
    (u0 ≤ k.m) × (v0 ≤ k.n) × (u1 ≤ k.m) × (v1 ≤ k.n) →
    ((k.n ≤ 255) × (u0 ≤ 256) × (v0 ≤ 256) × (u1 ≤ 256) × (v1 ≤ 256))
    × ((3 * point_number k.n u0 v0 + 3 ≤ length g) × (3 * point_number k.n u1 v1 + 3 ≤ length g))
sides_stand g k u0 v0 u1 v1 f s = (
  omega arith,
  omega (
    arith,
    point_below k.m k.n u0 v0 s.0 s.1,
    point_below k.m k.n u1 v1 s.2 s.3,
  ),
)

-- the cell that `step_index` gave
pub cell_inside : (x : Float) (n : ℕ) {s : Option (ℕ × Float)} {i : ℕ} {t : Float} → n ≤ 255 → s ≡ step_index x n →
    s ≡ Some (i, t) → i < n
cell_inside x n h es ea = step_index_below x n (omega arith) (sym es ∙ ea)
