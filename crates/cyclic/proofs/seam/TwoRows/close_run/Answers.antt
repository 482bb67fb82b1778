-- `cyclic::seam::TwoRows::close_run` meets its contract: each turn of the loop adds two points that are close by EPS,
-- and EPS is not above the tolerance.
use Prim.Native.Nat.{◌+◌, ◌*◌}
use native.Mathlib.Omega.{arith}
use Rattle.float.specs.Consts.{eps}
use Rattle.basics.proofs.Tests.{and_both}
use Rattle.cyclic.specs.TwoRows.{row_a, row_b}
use Rattle.cyclic.proofs.Remains.{two_longer}
use Rattle.cyclic.proofs.seam.TwoRows.close_run.Goals as goal

pub loop-pair-preserved : goal.loop-pair-preserved
unfolding eps
loop-pair-preserved c =
    let s = c.args in
    let both = and_both c.near-first.result c.near.result c.if-not-first-near.false in
    two_longer (row_a s.self.now) (row_b s.self.now) s.mapping s.tolerance (2 * c.loop-pair.pair)
    (2 * (c.loop-pair.pair + 1)) c.if-not-tolerance.false c.loop-pair.invariant
    (rw c.opposite.ensures.0 at (c.near-first.ensures both.0))
    (rw c.opposite-in-loop-pair.ensures.0 at (c.near.ensures both.1)) (omega arith)
