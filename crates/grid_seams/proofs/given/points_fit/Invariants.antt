use Rattle.cyclic.specs.Search.{close_at}
use Rattle.cyclic.specs.TwoRows.{row_a, row_b}
use Rattle.cyclic.proofs.Remains.{Run}
use Rattle.grid_seams.proofs.given.points_fit.Given as goal

abbrev pub invariant-loop-j : goal.invariant-loop-j
invariant-loop-j l = Run (close_at l.tolerance) (row_a l.rows) (row_b l.rows) l.mapping l.j
