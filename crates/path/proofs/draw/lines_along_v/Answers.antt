-- `path::draw::lines_along_v` meets its contract: each turn copies the next point.
use Rattle.std.proofs.Common.{arith}
use Rattle.path.proofs.Turns.{copy_turn}
use Rattle.path.proofs.draw.lines_along_v.Goals as goal

pub loop-number-preserved : goal.loop-number-preserved
loop-number-preserved c =
    copy_turn _ _ _ _ _ c.loop-number.invariant (rw c.point_at.ensures at c.put.ensures)
    (omega (arith, c.args.grid.now.fits.2)) (omega arith)
