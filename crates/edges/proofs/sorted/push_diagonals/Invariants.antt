use Rattle.edges.specs.Events.{diagonal_candidate, diagonals, sort_into}
use Rattle.edges.proofs.Gather.{Gathering}
use Rattle.edges.proofs.sorted.push_diagonals.Given as goal

abbrev pub invariant-loop-sum : goal.invariant-loop-sum
invariant-loop-sum l =
    Gathering (diagonal_candidate l.cells l.leg) l.initial.sum l.sum-end
    (sort_into (diagonals l.cells l.leg) l.initial.events) l.initial.events l.events l.sum
