use Rattle.std.proofs.Common.{◌≡◌}
use Rattle.surface.specs.Found.{of_mapping}
use Rattle.mesh.specs.Corners.{shape_of}
use Rattle.mesh.specs.Rims.{flip_steps}
use Rattle.mesh.specs.Writers.{pairs_of, same_pairs}
use Rattle.mesh.proofs.flipped.RimCounts.flip_seam.Given as goal

abbrev pub invariant-loop-i : goal.invariant-loop-i
invariant-loop-i l = same_pairs l.initial.pairs l.pairs
    × (pairs_of l.pairs
    ≡ flip_steps l.self.axis (shape_of l.self.surface) (of_mapping l.mapping) l.i (pairs_of l.initial.pairs))
