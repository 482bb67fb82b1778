-- `mesh::corner::Surface::count_cell` meets its contract: a grid has at most 2·255·255 triangles.
use Rattle.std.proofs.Common.{◌+◌, ◌*◌, arith}
use Rattle.mesh.specs.Corners.{shape_of}
use Rattle.surface.proofs.Triangles.{number_most}
use Rattle.mesh.proofs.Numbers.{one_most, cell_most}
use Rattle.mesh.proofs.corner.Surface.count_cell.Goals as goal

pub overflow_add-result-2 : goal.overflow_add-result-2
overflow_add-result-2 c =
    let a = c.args in
    omega (
      arith,
      one_most c.is_proper.result,
      one_most c.is_proper-2.result,
      cell_most a.self.n a.u a.v (omega arith) (omega arith) (omega arith),
      number_most (shape_of a.self) (2 * (a.u * a.self.n + a.v)),
    )
