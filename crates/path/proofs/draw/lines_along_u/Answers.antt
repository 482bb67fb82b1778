-- `path::draw::lines_along_u` meets its contract: each turn writes the next line.
use Rattle.std.proofs.Common.{◌≡◌, ◌+◌, ◌*◌, arith, rules}
use Rattle.path.proofs.Turns.{lines_turn}
use mathlib.Core.List.{flatten}
use Rattle.path.specs.GridPaths.{coordinates}
use Rattle.path.proofs.draw.lines_along_u.Goals as goal

pub loop-v-init : goal.loop-v-init
unfolding coordinates flatten
loop-v-init c = let none : 0 * (3 * (c.args.grid.now.cells.m + 1)) ≡ 0 = omega arith in rw none

pub loop-v-preserved : goal.loop-v-preserved
loop-v-preserved c =
    let g = c.args.grid.now in
    lines_turn g.points.now g.cells.m g.cells.n c.loop-v.v _ c.line_along_u.new.line _ c.loop-v.invariant (search rules)
    (omega arith) (omega arith)
