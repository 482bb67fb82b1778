use Rattle.edges.proofs.Places.{Moving}
use Rattle.edges.proofs.scratch.put_at.Given as goal

abbrev pub invariant-loop-i : goal.invariant-loop-i
invariant-loop-i g l = Moving l.initial.list l.count l.place l.list l.i

abbrev pub decreases-loop-i : goal.decreases-loop-i
decreases-loop-i g l = l.i
