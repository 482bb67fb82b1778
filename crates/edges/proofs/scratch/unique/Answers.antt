-- `edges::scratch::unique` meets its contract: at each turn what is kept, with what is left from i on, makes the
-- answer.
use Rattle.std.proofs.Common.{rules, ◌≡◌, ◌∙◌, sym, get_or}
use lib.Ieee.{nan}
use Rattle.float.specs.Consts.{eps}
use Rattle.edges.proofs.Kept.{drops, drops_says, keeping_starts, keeping_dropped, keeping_kept, keeping_ends}
use Rattle.edges.proofs.scratch.unique.Goals as goal
use Rattle.edges.proofs.scratch.unique.Goals.{After-is_some_and}

pub loop-i-init : goal.loop-i-init
loop-i-init c = keeping_starts c.args.lambdas.now c.args.codes.now c.args.count c.requires.1 c.requires.0

-- what the test says of the event at i
test : (c : After-is_some_and) → let l = c.loop-i in c.is_some_and.result ≡ drops (get_or l.lambdas l.i nan) l.last
unfolding eps
test c =
    drops_says c.loop-i.last (get_or c.loop-i.lambdas c.loop-i.i nan) _ c.is_some_and.ensures (λ l k. search rules)

pub loop-i-preserved-then-is_some_and : goal.loop-i-preserved-then-is_some_and
loop-i-preserved-then-is_some_and c =
    keeping_dropped c.loop-i.invariant nan 0 c.loop-i-test.true
    (sym (test (goal.at.loop-i-preserved-then-is_some_and c).After-is_some_and) ∙ c.if-is_some_and.true)

pub loop-i-preserved : goal.loop-i-preserved
loop-i-preserved c =
    keeping_kept c.loop-i.invariant nan 0 c.loop-i-test.true
    (sym (test (goal.at.loop-i-preserved c).After-is_some_and) ∙ c.if-is_some_and.false)

pub returns : goal.returns
returns c = (search rules, keeping_ends c.loop-i.invariant c.loop-i-test.false)
