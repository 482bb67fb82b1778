-- `walk::draw_event` meets its contract: proofs/Drawn.antt has what becomes of the point, and then of the line.
use Rattle.std.proofs.lemmas.Result.{err_from_is_err_and}
use Rattle.walk.proofs.Drawn.{event_drawn}
use Rattle.walk.proofs.draw_event.Goals as goal
use Rattle.walk.proofs.draw_event.Goals.{in-Some+in_ok-push_segment_point, in_default}

pub returns-in_err-crossing-clause-page : goal.returns-in_err-crossing-clause-page
returns-in_err-crossing-clause-page c =
    let p = err_from_is_err_and c.from_residual.result c.from_residual.ensures.1 in
    rw (p.1, p.2, event_drawn, c.in_err-crossing.was)

pub returns-in_err-push_segment_point-clause-page :
    goal.returns-in_err-push_segment_point-clause-page
returns-in_err-push_segment_point-clause-page c =
    let q = c.from_residual-in_err-push_segment_point in
    let p = err_from_is_err_and q.result q.ensures.1 in
    rw (
      p.1,
      p.2,
      event_drawn,
      c.in_ok-crossing.was,
      c.in-Some.is,
      ← c.push_segment_point.ensures.page,
      c.in_err-push_segment_point.was,
    )

pub returns-clause-page : goal.returns-clause-page
returns-clause-page c =
    rw (c.flush_unless.ensures.page, event_drawn, c.in_ok-crossing.was) (elim c.match-branch-2.branch [
      | in-Some+in_ok-push_segment_point w ↦
          rw (w.sheet-is, w.in-Some.is, ← w.push_segment_point.ensures.page, w.in_ok-push_segment_point.was)
      | in_default w ↦ rw (w.sheet-is, w.in_default.is)
    ])
