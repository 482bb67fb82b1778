-- `trace::flat::trace_flat` meets its contract: proofs/Ended.antt has `trace_flat` by what the call did; demand 3, and
-- what is said of the numbers, hold of every grid.
use mathlib.Core.Path.{◌≡◌, sym, ◌∙◌}
use borrow.Author.Rules.{rules}
use Rattle.std.proofs.lemmas.Result.{err_from_is_err_and}
use Rattle.page.specs.Sheets.{lists_of, page_of, outcome_of}
use Rattle.page.proofs.Ends.{same_zeroes}
use Rattle.trace.specs.Trace.{trace_flat}
use Rattle.trace.proofs.Agree.{page_left, ended}
use Rattle.trace.proofs.Demands.{demand3}
use Rattle.trace.proofs.Ended.{when_refused, when_walked, refused_before, walked}
use Rattle.trace.proofs.Numbered.{numbers_met}
use Rattle.trace.proofs.flat.trace_flat.Goals as goal
use Rattle.trace.proofs.flat.trace_flat.Goals.{After-trace_parametric_edge_curve-walked, After-branch-walked}
use Rattle.trace.proofs.flat.trace_flat.Goals.{then-is_err, else-is_err}

-- the definition, by what came of the walk
answers : (c : After-trace_parametric_edge_curve-walked) → let a = c.args in
    let w = c.trace_parametric_edge_curve-walked in
    ended (outcome_of w.result w.new.sheet)
    ≡ trace_flat a.points.now a.m a.n a.tolerances a.pairs.now a.marks.now (lists_of a.sheet.now)
answers c =
    let a = c.args in
    let p = c.in_ok-grid.ensures in
    rw (
      c.trace_parametric_edge_curve-walked.ensures.page,
      ← walked a.points.now a.m a.n a.tolerances a.pairs.now a.marks.now (lists_of a.sheet.now) (sym p.check),
      p.grid.0,
      p.grid.1,
      p.samples.0,
      p.samples.1,
      c.restart.ensures.page,
    )

-- the page that is left, before its rest is made zero. What makes it so is not named below, `search` finds it: a wrong
-- program that zeroes the lists itself is then refused for what it leaves in them
leaves : (c : After-branch-walked) → let w = c.trace_parametric_edge_curve-walked in
    page_of c.if-is_err.sheet ≡ page_left (outcome_of w.result w.new.sheet)
leaves c =
    let w = c.trace_parametric_edge_curve-walked in
    elim c.if-is_err.branch [
      | then-is_err t ↦
          rw t.sheet-is
          (t.restart-then-is_err.ensures.page ∙ sym (when_refused w.result w.new.sheet t.if-is_err.ensures.value))
      | else-is_err t ↦ rw t.sheet-is (sym (when_walked w.result w.new.sheet t.if-is_err.ensures.value))
    ]

pub returns-in_err-grid-clause-answer : goal.returns-in_err-grid-clause-answer
returns-in_err-grid-clause-answer c =
    let a = c.args in
    let p = err_from_is_err_and c.from_residual.result c.from_residual.ensures.1 in
    rw (p.1, p.2) (refused_before a.points.now a.m a.n a.tolerances a.pairs.now a.marks.now (lists_of a.sheet.now)
    (sym c.in_err-grid.ensures.check))

pub returns-in_err-grid-clause-demand : goal.returns-in_err-grid-clause-demand
returns-in_err-grid-clause-demand c = demand3 _ _ _

pub returns-in_err-grid-clause-numbers : goal.returns-in_err-grid-clause-numbers
returns-in_err-grid-clause-numbers c = numbers_met _ _ _

pub returns-in_err-walked-clause-answer : goal.returns-in_err-walked-clause-answer
returns-in_err-walked-clause-answer c =
    let q = c.from_residual-in_err-walked in
    let p = err_from_is_err_and q.result q.ensures.1 in
    let left = leaves (goal.at.returns-in_err-walked-clause-answer c).After-branch-walked in
    let empty = rw c.in_err-walked.was at left in
    rw (
      p.1,
      p.2,
      ← answers (goal.at.returns-in_err-walked-clause-answer c).After-trace_parametric_edge_curve-walked,
      c.in_err-walked.was,
    )
    (search (rules, same_zeroes, empty))

pub returns-in_err-walked-clause-demand : goal.returns-in_err-walked-clause-demand
returns-in_err-walked-clause-demand c = demand3 _ _ _

pub returns-in_err-walked-clause-numbers : goal.returns-in_err-walked-clause-numbers
returns-in_err-walked-clause-numbers c = numbers_met _ _ _

pub returns-clause-answer : goal.returns-clause-answer
returns-clause-answer c =
    let left = leaves (goal.at.returns-clause-answer c).After-branch-walked in
    let drawn = rw c.in_ok-walked.was at left in
    rw (← answers (goal.at.returns-clause-answer c).After-trace_parametric_edge_curve-walked, c.in_ok-walked.was)
    (search (rules, same_zeroes, drawn))

pub returns-clause-demand : goal.returns-clause-demand
returns-clause-demand c = demand3 _ _ _

pub returns-clause-numbers : goal.returns-clause-numbers
returns-clause-numbers c = numbers_met _ _ _
