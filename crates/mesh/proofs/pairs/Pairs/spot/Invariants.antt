use Rattle.surface.specs.Surface.{pair}
use Rattle.mesh.specs.Writers.{pairs_of}
use Rattle.mesh.proofs.Holding.{PassedTo}
use Rattle.mesh.proofs.pairs.Pairs.spot.Given as goal

abbrev pub invariant-loop-i : goal.invariant-loop-i
invariant-loop-i l = PassedTo l.i (pair l.low l.high) (pairs_of l.self)
