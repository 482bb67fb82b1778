use Rattle.edges.specs.Events.{line_candidate, lines, sort_into}
use Rattle.edges.proofs.Gather.{Gathering}
use Rattle.edges.proofs.sorted.push_lines.Given as goal

abbrev pub invariant-loop-step : goal.invariant-loop-step
invariant-loop-step l =
    Gathering (line_candidate l.axis l.cells l.leg) 0 l.step-end
    (sort_into (lines l.axis l.cells l.leg) l.initial.events) l.initial.events l.events l.step
