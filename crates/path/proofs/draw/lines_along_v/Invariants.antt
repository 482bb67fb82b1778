-- The points up to this number are copied.
use Rattle.std.proofs.Common.{◌≡◌, ◌*◌, take}
use Rattle.path.proofs.draw.lines_along_v.Given as goal

abbrev pub invariant-loop-number : goal.invariant-loop-number
invariant-loop-number l = take (3 * l.number) l.points ≡ take (3 * l.number) l.grid.points.now
