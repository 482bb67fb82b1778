-- `mesh::flipped::RimCounts::flip_seam` meets its contract: there is room for a pair a step.
use Rattle.std.proofs.Common.{arith}
use Rattle.surface.specs.Found.{of_mapping}
use Rattle.mesh.specs.Corners.{shape_of}
use Rattle.mesh.specs.Held.{pair_at}
use Rattle.mesh.specs.Writers.{pairs_of}
use Rattle.mesh.proofs.Firsts.{length_firsts}
use Rattle.mesh.proofs.Flips.{seam_maps, flips_most, held_pairs}
use Rattle.mesh.proofs.flipped.RimCounts.flip_seam.Goals as goal

pub flip_step-requires-clause-room : goal.flip_step-requires-clause-room
flip_step-requires-clause-room c =
    let rim = c.args.self.now in
    let before = c.args.pairs.now in
    let w = c.loop-i in
    let maps = seam_maps rim.axis rim.surface c.seam.ensures c.in-Some.is in
    omega (
      arith,
      held_pairs w.pairs.count w.pairs.list.now w.invariant.1,
      flips_most rim.axis (shape_of rim.surface) (of_mapping c.in-Some.mapping) w.i (pairs_of before),
      length_firsts (pair_at before.list.now) before.count,
    )
