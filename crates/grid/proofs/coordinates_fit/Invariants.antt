use mathlib.Core.Path.{◌≡◌}
use mathlib.Core.Bool.{◌&&◌}
use lib.ListN.{drop}
use Rattle.grid.specs.Grid.{coordinates_fit}
use Rattle.grid.proofs.coordinates_fit.Given as goal

-- what was found so far, and what is left to test, answer for the whole list
abbrev pub invariant-loop-x : goal.invariant-loop-x
invariant-loop-x l = coordinates_fit l.points ≡ (l.fit && coordinates_fit (drop l.x-index l.points))
