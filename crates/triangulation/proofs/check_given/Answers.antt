-- `triangulation::check_given` meets its contract: where the tests of a mesh pass the grid is accepted, and seams that
-- fit are those of a surface.
use Rattle.std.proofs.Common.{◌≡◌, sym, ◌∙◌, true}
use Rattle.grid.proofs.Laws.{accepted_known}
use Rattle.surface.specs.Given.{seams_fit}
use Rattle.mesh.proofs.Answers.{Admitted, admitted}
use Rattle.triangulation.proofs.Answers.{fitting_bounded}
use Rattle.triangulation.proofs.check_given.Goals as goal
use Rattle.triangulation.proofs.check_given.Goals.{In_ok-grid}

-- the tests of a mesh pass
let_in : (e : In_ok-grid) → let a = e.args in Admitted a.points.now a.m a.n a.tolerances a.triangles.now a.flipped.now
let_in e =
    let a = e.args in
    admitted a.points.now a.m a.n a.tolerances a.triangles.now a.flipped.now (sym e.in_ok-grid.ensures.check)

pub seams_fit-requires : goal.seams_fit-requires
seams_fit-requires c =
    let a = c.args in
    let accepted = (let_in (goal.at.seams_fit-requires c).In_ok-grid).accepted in
    let steps = (accepted_known a.points.now a.m a.n accepted).steps in
    rw c.in_ok-grid.ensures.grid.1 (steps.m_least, steps.n_least)

pub invariant_of-result : goal.invariant_of-result
invariant_of-result c =
    let a = c.args in
    let grid = c.in_ok-grid.ensures.grid in
    let fit : seams_fit a.points.now a.m a.n a.tolerances a.u a.v ≡ true =
    rw (grid.0, grid.1) at (sym c.seams_fit.ensures ∙ c.if-seams_fit.true) in
    record {
      bounded = fitting_bounded a.points.now a.m a.n a.tolerances a.u a.v
          (let_in (goal.at.invariant_of-result c).In_ok-grid).accepted fit;
    }
