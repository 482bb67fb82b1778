-- The points up to u stand in the line.
use Rattle.std.proofs.Common.{◌≡◌, ◌*◌, take}
use Rattle.path.specs.GridPaths.{coordinates}
use Rattle.path.proofs.Turns.{line_so_far}
use Rattle.path.proofs.draw.line_along_u.Given as goal

abbrev pub invariant-loop-u : goal.invariant-loop-u
invariant-loop-u l = take (3 * l.u) l.line ≡ coordinates (line_so_far l.grid.points.now l.grid.cells.n l.v l.u)
