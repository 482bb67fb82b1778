-- `triangulation::triangulate_seams` meets its contract: the refusals in order, then the lists; and demand 3 of the
-- lists that seams of the grid make.
use Rattle.std.proofs.Common.{sym}
use Rattle.surface.proofs.Joinings.{given_meets}
use Rattle.mesh.proofs.Answers.{Admitted}
use Rattle.triangulation.proofs.Answers.{given_admitted}
use Rattle.triangulation.proofs.triangulate_seams.Goals as goal
use Rattle.triangulation.proofs.triangulate_seams.Goals.{In_ok-surface}

-- no refusal applies
let_in : (e : In_ok-surface) → let a = e.args in
    Admitted a.points.now a.m a.n a.tolerances a.triangles.now a.flipped.now
let_in e =
    let a = e.args in
    (given_admitted a.points.now a.m a.n a.tolerances a.triangles.now a.flipped.now a.u a.v
    (sym e.in_ok-surface.ensures.check)).0

pub triangulate-requires-clause-triangle_room : goal.triangulate-requires-clause-triangle_room
triangulate-requires-clause-triangle_room c =
    let s = c.in_ok-surface.ensures.surface in
    rw (s.0, s.1) (let_in (goal.at.triangulate-requires-clause-triangle_room c).In_ok-surface).triangle_room

pub triangulate-requires-clause-pair_room : goal.triangulate-requires-clause-pair_room
triangulate-requires-clause-pair_room c =
    let s = c.in_ok-surface.ensures.surface in
    rw (s.0, s.1) (let_in (goal.at.triangulate-requires-clause-pair_room c).In_ok-surface).pair_room

pub returns-in_err-surface-clause-surface : goal.returns-in_err-surface-clause-surface
returns-in_err-surface-clause-surface c = given_meets c.args.points.now c.args.m c.args.n

pub returns-clause-surface : goal.returns-clause-surface
returns-clause-surface c = given_meets c.args.points.now c.args.m c.args.n
