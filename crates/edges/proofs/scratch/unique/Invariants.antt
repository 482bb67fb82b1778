use Rattle.edges.specs.Order.{events_in}
use Rattle.edges.proofs.Kept.{Keeping}
use Rattle.edges.proofs.scratch.unique.Given as goal

abbrev pub invariant-loop-i : goal.invariant-loop-i
invariant-loop-i l =
    Keeping (events_in l.initial.lambdas l.initial.codes l.count) l.lambdas l.codes l.count l.kept l.i l.last
