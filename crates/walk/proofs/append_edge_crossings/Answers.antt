-- `walk::append_edge_crossings` meets its contract. The invariant says what is left of the leg: the events from i on,
-- and its end, from the page so far.
use mathlib.Core.Path.{◌≡◌}
use Prim.Native.Nat.{◌+◌}
use native.Mathlib.Omega.{arith}
use lib.ListN.{drop}
use borrow.Author.Rules.{rules}
use Rattle.std.proofs.lemmas.Result.{err_from_is_err_and}
use Rattle.page.specs.Moves.{follow}
use Rattle.page.specs.Page.{moves_by, on_page}
use Rattle.page.specs.Sheets.{page_of, outcome_of}
use Rattle.walk.specs.Walk.{leg_moves}
use Rattle.walk.proofs.Walked.{left, side_inside, leg_starts, leg_ends, leg_turn}
use Rattle.walk.proofs.append_edge_crossings.Goals as goal
use Rattle.walk.proofs.append_edge_crossings.Goals.{After-draw_event}

-- the whole leg is the event at i, as it was drawn, and what is left then
turn : (c : After-draw_event) → let a = c.args in let g = a.grid.now in let d = c.draw_event in
    on_page a.tolerance (moves_by a.sample (leg_moves g.points.now g.cells a.leg)) (page_of a.sheet.now)
    ≡ follow (outcome_of d.result d.new.sheet)
    (left a.tolerance a.sample g.points.now g.cells a.leg (drop (c.loop-i.i + 1) c.sorted_edge_events.new.events)
    c.at-event.result.lambda)
turn c =
    let a = c.args in
    let g = a.grid.now in
    let d = c.draw_event in
    rw c.loop-i.invariant.1
    (leg_turn a.tolerance a.sample g.points.now g.cells a.leg c.sorted_edge_events.new.events c.loop-i.i
    c.loop-i.previous (page_of c.loop-i.sheet) d.result d.new.sheet c.at-event.ensures c.lambda_or_one-next.ensures
    c.decide.ensures d.ensures.page)

pub loop-i-init : goal.loop-i-init
loop-i-init c =
    let a = c.args in (
      search rules,
      rw c.sorted_edge_events.ensures
          (leg_starts a.tolerance a.sample a.grid.now.points.now a.grid.now.cells a.leg (page_of a.sheet.now)),
    )

pub decide-requires : goal.decide-requires
decide-requires c =
    let g = c.args.grid.now in
    side_inside g.cells c.args.leg c.loop-i.i g.fits.0 g.fits.1 c.sorted_edge_events.ensures c.at-event.ensures

pub returns-in_err-draw_event-clause-page : goal.returns-in_err-draw_event-clause-page
returns-in_err-draw_event-clause-page c =
    let p = err_from_is_err_and c.from_residual.result c.from_residual.ensures.1 in
    rw (p.1, p.2, turn (goal.at.returns-in_err-draw_event-clause-page c).After-draw_event, c.in_err-draw_event.was)

pub loop-i-preserved : goal.loop-i-preserved
loop-i-preserved c =
    (search rules, rw (turn (goal.at.loop-i-preserved c).After-draw_event, c.in_ok-draw_event.was))

pub returns-clause-page : goal.returns-clause-page
returns-clause-page c =
    let a = c.args in
    let g = a.grid.now in
    rw (
      c.loop-i.invariant.1,
      leg_ends a.tolerance a.sample g.points.now g.cells a.leg c.sorted_edge_events.new.events c.loop-i.i
          c.loop-i.previous (page_of c.loop-i.sheet) (omega (arith, c.len-i-end.ensures)),
      c.flush_unless.ensures.page,
      c.param_in_bounds.ensures,
    )
