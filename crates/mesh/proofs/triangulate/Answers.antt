-- `mesh::triangulate` meets its contract: the triangles and the pairs are in front of their lists, and zero is written
-- past them. What writes it is not named, `search` finds it: a wrong program that writes it elsewhere is then refused
-- for what it leaves in the lists.
use Rattle.std.proofs.Common.{rules}
use Rattle.std.proofs.lemmas.Grind.{common_steps}
use Rattle.mesh.specs.Corners.{shape_of}
use Rattle.mesh.proofs.Answers.{fronts_written}
use Rattle.mesh.proofs.triangulate.Goals as goal

pub returns : goal.returns
returns c =
    let a = c.args in
    let b = c.build_triangles-count in
    let p = c.find_flipped-pairs in
    fronts_written (shape_of a.surface) a.triangles.now a.flipped.now b.new.list p.new.list b.result p.result
    b.ensures.triangles b.ensures.held b.auto.list (search (rules, common_steps))
    p.ensures.pairs p.ensures.held p.auto.list (search (rules, common_steps))
