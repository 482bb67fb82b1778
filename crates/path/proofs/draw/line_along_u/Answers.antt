-- `path::draw::line_along_u` meets its contract: each turn writes the next point.
use Rattle.std.proofs.Common.{arith}
use Rattle.path.proofs.Turns.{line_turn}
use Rattle.path.proofs.draw.line_along_u.Goals as goal

pub loop-u-preserved : goal.loop-u-preserved
loop-u-preserved c =
    line_turn _ _ _ _ _ _ _ c.loop-u.invariant (rw (c.point_at.ensures, c.point_number-number.ensures) at c.put.ensures)
    (omega arith)
