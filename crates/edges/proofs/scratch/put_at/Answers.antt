-- `edges::scratch::put_at` meets its contract: from the back what stands after the place is moved up, one at a turn.
use Rattle.std.proofs.Common.{◌≡◌, sym, get_or, ◌-◌}
use Rattle.edges.proofs.Places.{moving_starts, moving_turn, moving_ends}
use Rattle.edges.proofs.scratch.put_at.Goals as goal

pub loop-i-init : goal.loop-i-init
loop-i-init g c = moving_starts c.requires.1 c.requires.0

pub loop-i-preserved : goal.loop-i-preserved
loop-i-preserved g c =
    let l = c.loop-i in
    let x = c.index-list-i.result in
    let read : get_or l.list (l.i - 1) x ≡ x = sym c.index-list-i.is in
    rw read at (moving_turn c.requires.1 x l.invariant c.loop-i-test.true)

pub returns-clause-put : goal.returns-clause-put
returns-clause-put g c = moving_ends c.requires.1 c.args.x c.loop-i.invariant c.loop-i-test.false
