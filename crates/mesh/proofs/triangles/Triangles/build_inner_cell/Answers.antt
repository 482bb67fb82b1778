-- `mesh::triangles::Triangles::build_inner_cell` meets its contract: no rule applies to the cell, and both triangles of
-- it are kept.
use Rattle.std.proofs.Common.{◌≡◌, ◌+◌, ◌*◌, refl, arith}
use Rattle.mesh.specs.Writers.{HoldsSlots}
use Rattle.mesh.proofs.Cells.{cell_below, proper_added, slot_room}
use Rattle.mesh.proofs.Inner.{inner_first, first_proper, inner_second, second_proper}
use Rattle.mesh.proofs.triangles.Triangles.build_inner_cell.Goals as goal
use Rattle.mesh.proofs.triangles.Triangles.build_inner_cell.Goals.{After-write}

-- after the first triangle
first_held : (e : After-write) → let a = e.args in
    HoldsSlots e.write.new.self (2 * (a.u * a.self.now.surface.n + a.v) + 1)
first_held e =
    let a = e.args in
    let s = a.self.now.surface in
    proper_added s a.self.now e.write.new.self (2 * (a.u * s.n + a.v)) refl e.requires.held e.write.ensures.same
    (inner_first s a.u a.v e.requires.cell.0 e.requires.cell.1 e.point_number-i00.ensures)
    (first_proper s a.u a.v e.requires.cell.0 e.requires.cell.1 e.point_number-i00.ensures)
    e.write.ensures.held

pub write-requires : goal.write-requires
write-requires c =
    let a = c.args in
    let s = a.self.now.surface in
    slot_room a.self.now (2 * (a.u * s.n + a.v)) c.requires.held
    (omega (arith, cell_below {m = s.m} {n = s.n} {u = a.u} {v = a.v} (omega arith) (omega arith)))

pub write-requires-2 : goal.write-requires-2
write-requires-2 c =
    let a = c.args in
    let s = a.self.now.surface in
    slot_room c.write.new.self (2 * (a.u * s.n + a.v) + 1)
    (first_held (goal.at.write-requires-2 c).After-write)
    (rw c.write.ensures.same.1
    (omega (arith, cell_below {m = s.m} {n = s.n} {u = a.u} {v = a.v} (omega arith) (omega arith))))

pub returns-clause-held : goal.returns-clause-held
returns-clause-held c =
    let a = c.args in
    let s = a.self.now.surface in
    let k = 2 * (a.u * s.n + a.v) + 1 in
    let next : k + 1 ≡ 2 * (a.u * s.n + (a.v + 1)) = omega arith in
    rw (← next)
    (proper_added s c.write.new.self c.write-2.new.self k c.write.ensures.same.1
    (first_held (goal.at.returns-clause-held c).After-write)
    c.write-2.ensures.same
    (inner_second s a.u a.v c.requires.cell.0 c.requires.cell.1 c.point_number-i00.ensures)
    (second_proper s a.u a.v c.requires.cell.0 c.requires.cell.1 c.point_number-i00.ensures)
    c.write-2.ensures.held)
