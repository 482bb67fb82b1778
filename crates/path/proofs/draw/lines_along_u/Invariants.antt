-- The lines up to v stand in the list.
use Rattle.std.proofs.Common.{◌≡◌, ◌*◌, take}
use Rattle.path.specs.GridPaths.{coordinates}
use Rattle.path.proofs.Turns.{lines_so_far}
use Rattle.path.proofs.draw.lines_along_u.Given as goal

abbrev pub invariant-loop-v : goal.invariant-loop-v
invariant-loop-v l =
    take (l.v * l.width) l.points
    ≡ coordinates (lines_so_far l.grid.points.now l.grid.cells.m l.grid.cells.n l.v)
