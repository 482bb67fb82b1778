-- `mesh::flipped::RowStarts::find_flipped` meets its contract: the counts along the rims are what is counted.
use Rattle.std.proofs.Common.{arith}
use Rattle.mesh.proofs.Flips.{rims_u, rims_v, first_most, both_flipped}
use Rattle.mesh.proofs.flipped.RowStarts.find_flipped.Goals as goal

pub invariant_of-flip_seam : goal.invariant_of-flip_seam
invariant_of-flip_seam c =
    record {
      counted = rims_u c.args.self.now.surface c.count_row.new.counts c.count_row-2.new.counts
          (omega arith) (omega arith) c.count_row.ensures c.count_row-2.ensures;
    }

pub invariant_of-flip_seam-2 : goal.invariant_of-flip_seam-2
invariant_of-flip_seam-2 c =
    let s = c.args.self.now in
    record { counted = rims_v s.surface s.starts.now s.counted }

pub flip_seam-requires-2 : goal.flip_seam-requires-2
flip_seam-requires-2 c =
    omega (arith, first_most c.args.self.now.surface c.args.list.now c.flip_seam.new.pairs c.flip_seam.ensures.pairs)

pub returns-clause-pairs : goal.returns-clause-pairs
returns-clause-pairs c =
    grind (
      arith,
      both_flipped c.args.self.now.surface c.args.list.now c.flip_seam.new.pairs c.flip_seam.ensures.pairs
          c.flip_seam-2.ensures.pairs,
    )
