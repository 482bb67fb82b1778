use Prim.Native.Nat.{◌*◌}
use Rattle.cyclic.specs.Search.{close_at}
use Rattle.cyclic.specs.TwoRows.{row_a, row_b}
use Rattle.cyclic.proofs.Remains.{Run}
use Rattle.cyclic.proofs.seam.TwoRows.close_run.Given as goal

abbrev pub invariant-loop-pair : goal.invariant-loop-pair
invariant-loop-pair l = Run (close_at l.tolerance) (row_a l.self) (row_b l.self) l.mapping (2 * l.pair)
