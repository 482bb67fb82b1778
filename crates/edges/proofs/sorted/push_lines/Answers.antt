-- `edges::sorted::push_lines` meets its contract: the lines from `step` on, sorted into the events so far, give what
-- is asked.
use mathlib.Core.Path.{◌≡◌, sym, ◌∙◌}
use lib.Ieee.{lt}
use Rattle.float.specs.Consts.{eps}
use Rattle.edges.specs.Events.{change, changes}
use Rattle.edges.proofs.Storable.{line_storable}
use Rattle.edges.proofs.Gather.{gather_turn, gather_ends, lines_none, lines_start}
use borrow.Author.Rules.{rules}
use Rattle.edges.proofs.sorted.push_lines.Goals as goal
use Rattle.edges.proofs.sorted.push_lines.Goals.{After-abs}

-- what is tested is whether the axis changes
test : (c : After-abs) → lt eps c.abs.result ≡ changes (change c.args.axis c.args.leg)
test c = search rules

pub loop-step-init : goal.loop-step-init
unfolding eps
loop-step-init c =
    let a = c.args in
    record {
      from = search rules;
      to = search rules;
      few = search rules;
      left =
          lines_start a.axis a.cells a.leg a.events.now
          (sym (test (goal.at.loop-step-init c).After-abs) ∙ c.if-abs.true) c.steps_on-step-end.ensures;
    }

pub push-requires-clause-storable : goal.push-requires-clause-storable
push-requires-clause-storable c =
    let a = c.args in
    rw c.line_candidate.ensures
    (line_storable a.cells c.requires.few.0 c.requires.few.1 a.leg a.axis c.loop-step.step (search rules))

pub loop-step-preserved : goal.loop-step-preserved
loop-step-preserved c =
    gather_turn c.loop-step.invariant c.loop-step-test.true c.line_candidate.ensures c.push.ensures

pub returns-after-loop-step : goal.returns-after-loop-step
returns-after-loop-step c = gather_ends c.loop-step.invariant c.loop-step-test.false

pub returns-else-abs : goal.returns-else-abs
unfolding eps
returns-else-abs c =
    let a = c.args in
    lines_none a.axis a.cells a.leg a.events.now (sym (test (goal.at.returns-else-abs c).After-abs) ∙ c.if-abs.false)
