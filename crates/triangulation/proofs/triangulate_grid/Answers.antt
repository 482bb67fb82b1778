-- `triangulation::triangulate_grid` meets its contract: the tests of both calls at once, then the seams, then the lists,
-- which is the two calls in turn; and demand 3 of the grid's lists.
use Rattle.std.proofs.Common.{◌≡◌, sym}
use Rattle.std.proofs.lemmas.Result.{err_from_is_err_and}
use Rattle.grid.proofs.Laws.{accepted_known}
use Rattle.grid_seams.specs.Seams.{seams_of}
use Rattle.surface.proofs.Joinings.{surface_meets}
use Rattle.mesh.proofs.Answers.{Admitted, admitted}
use Rattle.triangulation.proofs.Answers.{found_bounded, refused_hands, passed_hands}
use Rattle.triangulation.proofs.triangulate_grid.Goals as goal
use Rattle.triangulation.proofs.triangulate_grid.Goals.{In_ok-grid, After-search_grid-seams}

-- no refusal applies
let_in : (e : In_ok-grid) → let a = e.args in Admitted a.points.now a.m a.n a.tolerances a.triangles.now a.flipped.now
let_in e =
    let a = e.args in
    admitted a.points.now a.m a.n a.tolerances a.triangles.now a.flipped.now (sym e.in_ok-grid.ensures.check)

found : (e : After-search_grid-seams) → let a = e.args in
    e.search_grid-seams.result ≡ seams_of a.points.now a.m a.n a.tolerances
found e = rw (e.in_ok-grid.ensures.grid.0, e.in_ok-grid.ensures.grid.1) at e.search_grid-seams.ensures

pub search_grid-seams-requires : goal.search_grid-seams-requires
search_grid-seams-requires c =
    let a = c.args in
    let accepted = (let_in (goal.at.search_grid-seams-requires c).In_ok-grid).accepted in
    let steps = (accepted_known a.points.now a.m a.n accepted).steps in
    rw c.in_ok-grid.ensures.grid.1 (steps.m_least, steps.n_least)

pub invariant_of-surface : goal.invariant_of-surface
invariant_of-surface c =
    let a = c.args in
    let here = goal.at.invariant_of-surface c in
    record {
      bounded = found_bounded a.points.now a.m a.n a.tolerances (let_in here.In_ok-grid).accepted
          (found here.After-search_grid-seams);
    }

pub triangulate-requires-clause-triangle_room : goal.triangulate-requires-clause-triangle_room
triangulate-requires-clause-triangle_room c =
    (let_in (goal.at.triangulate-requires-clause-triangle_room c).In_ok-grid).triangle_room

pub triangulate-requires-clause-pair_room : goal.triangulate-requires-clause-pair_room
triangulate-requires-clause-pair_room c =
    (let_in (goal.at.triangulate-requires-clause-pair_room c).In_ok-grid).pair_room

pub returns-in_err-grid-clause-handed : goal.returns-in_err-grid-clause-handed
returns-in_err-grid-clause-handed c =
    let a = c.args in
    let p = err_from_is_err_and c.from_residual.result c.from_residual.ensures.1 in
    rw (p.1, p.2)
    (refused_hands a.points.now a.m a.n a.tolerances a.triangles.now a.flipped.now c.in_err-grid.ensures.check)

pub returns-in_err-grid-clause-surface : goal.returns-in_err-grid-clause-surface
returns-in_err-grid-clause-surface c = surface_meets c.args.points.now c.args.m c.args.n

pub returns-clause-handed : goal.returns-clause-handed
returns-clause-handed c =
    let a = c.args in
    let r = c.triangulate in
    passed_hands a.points.now a.m a.n a.tolerances a.triangles.now a.flipped.now r.new.triangles r.new.flipped
    c.in_ok-grid.ensures.check (found (goal.at.returns-clause-handed c).After-search_grid-seams) r.ensures

pub returns-clause-surface : goal.returns-clause-surface
returns-clause-surface c = surface_meets c.args.points.now c.args.m c.args.n
