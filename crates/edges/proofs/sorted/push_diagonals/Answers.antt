-- `edges::sorted::push_diagonals` meets its contract: the diagonals from `sum` on, sorted into the events so far, give
-- what is asked.
use mathlib.Core.Path.{◌≡◌, sym, ◌∙◌}
use lib.Ieee.{lt}
use Rattle.float.specs.Consts.{eps}
use Rattle.edges.specs.Events.{change_of_sum, changes}
use Rattle.edges.proofs.Storable.{diagonal_storable}
use Rattle.edges.proofs.Gather.{gather_turn, gather_ends, diagonals_none, diagonals_start}
use borrow.Author.Rules.{rules}
use Rattle.edges.proofs.sorted.push_diagonals.Goals as goal
use Rattle.edges.proofs.sorted.push_diagonals.Goals.{After-abs}

-- what is tested is whether the sum of both changes
test : (c : After-abs) → lt eps c.abs.result ≡ changes (change_of_sum c.args.leg)
test c = search rules

pub loop-sum-init : goal.loop-sum-init
unfolding eps
loop-sum-init c =
    let a = c.args in
    record {
      from = search rules;
      to = search rules;
      few = search rules;
      left =
          diagonals_start a.cells a.leg a.events.now (sym (test (goal.at.loop-sum-init c).After-abs) ∙ c.if-abs.true)
          c.first_sum-sum.ensures c.past_sum-sum-end.ensures;
    }

pub push-requires-clause-storable : goal.push-requires-clause-storable
push-requires-clause-storable c =
    rw c.diagonal_candidate.ensures
    (diagonal_storable c.args.cells c.requires.few.0 c.requires.few.1 c.args.leg c.loop-sum.sum)

pub loop-sum-preserved : goal.loop-sum-preserved
loop-sum-preserved c =
    gather_turn c.loop-sum.invariant c.loop-sum-test.true c.diagonal_candidate.ensures c.push.ensures

pub returns-after-loop-sum : goal.returns-after-loop-sum
returns-after-loop-sum c = gather_ends c.loop-sum.invariant c.loop-sum-test.false

pub returns-else-abs : goal.returns-else-abs
unfolding eps
returns-else-abs c =
    diagonals_none c.args.cells c.args.leg c.args.events.now
    (sym (test (goal.at.returns-else-abs c).After-abs) ∙ c.if-abs.false)
