-- `mesh::triangles::Triangles::build_cell` meets its contract: the cell's two slots are the next two, and each adds its
-- triangle if it is proper.
use Rattle.std.proofs.Common.{◌≡◌, ◌+◌, ◌*◌, refl, arith}
use Rattle.mesh.specs.Writers.{HoldsSlots}
use Rattle.mesh.proofs.Cells.{cell_below, slot_added, slot_room}
use Rattle.mesh.proofs.triangles.Triangles.build_cell.Goals as goal
use Rattle.mesh.proofs.triangles.Triangles.build_cell.Goals.{After-add}

-- after the first triangle
first_held : (e : After-add) → let a = e.args in HoldsSlots e.add.new.self (2 * (a.u * a.self.now.surface.n + a.v) + 1)
first_held e =
    let a = e.args in
    slot_added a.self.now.surface a.self.now e.add.new.self (2 * (a.u * a.self.now.surface.n + a.v)) refl
    e.requires.held e.add.ensures.same e.triangles.ensures.0 e.add.ensures.held

pub add-requires : goal.add-requires
add-requires c =
    let a = c.args in
    slot_room a.self.now (2 * (a.u * a.self.now.surface.n + a.v)) c.requires.held
    (omega (arith, cell_below c.requires.cell.0 c.requires.cell.1))

pub add-requires-2 : goal.add-requires-2
add-requires-2 c =
    let a = c.args in
    slot_room c.add.new.self (2 * (a.u * a.self.now.surface.n + a.v) + 1)
    (first_held (goal.at.add-requires-2 c).After-add)
    (rw c.add.ensures.same.1 (omega (arith, cell_below c.requires.cell.0 c.requires.cell.1)))

pub returns-clause-held : goal.returns-clause-held
returns-clause-held c =
    let a = c.args in
    let k = 2 * (a.u * a.self.now.surface.n + a.v) + 1 in
    let next : k + 1 ≡ 2 * (a.u * a.self.now.surface.n + (a.v + 1)) = omega arith in
    rw (← next)
    (slot_added a.self.now.surface c.add.new.self c.add-2.new.self k c.add.ensures.same.1
    (first_held (goal.at.returns-clause-held c).After-add)
    c.add-2.ensures.same c.triangles.ensures.1 c.add-2.ensures.held)
