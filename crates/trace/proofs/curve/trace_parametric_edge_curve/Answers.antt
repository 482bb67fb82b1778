-- `trace::curve::trace_parametric_edge_curve` meets its contract. The invariant says what is left: the moves of all
-- samples are, from the page so far, those of the samples from i on.
use mathlib.Core.Path.{◌≡◌, refl}
use Prim.Native.Nat.{◌+◌}
use native.Mathlib.Omega.{arith}
use borrow.Author.Rules.{rules}
use Rattle.std.specs.Prelude.{None, get_or}
use Rattle.std.proofs.lemmas.Result.{err_from_is_err_and}
use Rattle.page.specs.Moves.{follow}
use Rattle.page.specs.Sheets.{page_of, outcome_of}
use Rattle.trace.specs.Curve.{sample_at, param_at, marked_point}
use Rattle.trace.proofs.Sampled.{left, trace_turn, trace_flushes}
use Rattle.trace.proofs.curve.trace_parametric_edge_curve.Goals as goal
use Rattle.trace.proofs.curve.trace_parametric_edge_curve.Goals.{After-trace_sample}

-- the whole trace is sample i, as it was drawn, and what is left then. By what sample i is, and not by the call that
-- reads it: a wrong program that reads it itself is then refused for what it reads
turn : (c : After-trace_sample) → let a = c.args in let g = a.grid.now in let s = a.samples.now in
    let d = c.trace_sample in let i = c.loop-i.i in
    left a.tolerance g.points.now g.cells s.marks.now s.pairs.now 0 None (page_of a.sheet.now)
    ≡ follow (outcome_of d.result d.new.sheet)
    (left a.tolerance g.points.now g.cells s.marks.now s.pairs.now (i + 1)
    (marked_point (sample_at (get_or s.marks.now i 0) (param_at s.pairs.now i))))
turn c =
    let a = c.args in
    let g = a.grid.now in
    let s = a.samples.now in
    let d = c.trace_sample in
    rw c.loop-i.invariant.1
    (trace_turn a.tolerance g.points.now g.cells s.marks.now s.pairs.now s.fits.0 c.loop-i.i c.loop-i.previous
    (page_of c.loop-i.sheet) d.result d.new.sheet (omega (arith, c.len-i-end.ensures)) refl (search rules)
    d.ensures.page)

pub returns-in_err-trace_sample-clause-page : goal.returns-in_err-trace_sample-clause-page
returns-in_err-trace_sample-clause-page c =
    let p = err_from_is_err_and c.from_residual.result c.from_residual.ensures.1 in
    let t = turn (goal.at.returns-in_err-trace_sample-clause-page c).After-trace_sample in
    rw (p.1, p.2, t, c.in_err-trace_sample.was)

pub loop-i-preserved : goal.loop-i-preserved
loop-i-preserved c =
    (search rules, rw (turn (goal.at.loop-i-preserved c).After-trace_sample, c.in_ok-trace_sample.was) (search rules))

pub returns-clause-page : goal.returns-clause-page
returns-clause-page c =
    let a = c.args in
    let g = a.grid.now in
    let s = a.samples.now in
    rw (
      c.loop-i.invariant.1,
      trace_flushes a.tolerance g.points.now g.cells s.marks.now s.pairs.now s.fits.0 c.loop-i.i c.loop-i.previous
          (page_of c.loop-i.sheet) (omega (arith, c.len-i-end.ensures)),
      c.flush_segment.ensures.page,
    )
