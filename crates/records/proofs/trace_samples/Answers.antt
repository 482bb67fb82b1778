-- `records::trace_samples` meets its contract: proofs/Refused.antt has the answer for too many records, and the
-- promises beside the answer are theorems of `trace`.
use Rattle.page.specs.Sheets.{lists_of}
use Rattle.trace.proofs.Demands.{demand3}
use Rattle.trace.proofs.Numbered.{numbers_met}
use Rattle.records.specs.Records.{pairs_of, marks_of}
use Rattle.records.proofs.Flattening.{marks_count}
use Rattle.records.proofs.Refused.{steps_refused, length_refused}
use Rattle.records.proofs.trace_samples.Goals as goal

pub returns-then-steps_fit-clause-answer : goal.returns-then-steps_fit-clause-answer
returns-then-steps_fit-clause-answer c =
    let a = c.args in
    let ss = a.records.now in
    length_refused a.points.now a.m a.n a.tolerances (pairs_of ss) (marks_of ss) (lists_of a.sheet.now)
    c.steps_fit.ensures c.if-steps_fit.true (rw (marks_count ss) c.if-count-gt-MAX_MARKS.true)

pub returns-then-steps_fit-clause-demand : goal.returns-then-steps_fit-clause-demand
returns-then-steps_fit-clause-demand c = demand3 _ _ _

pub returns-then-steps_fit-clause-numbers : goal.returns-then-steps_fit-clause-numbers
returns-then-steps_fit-clause-numbers c = numbers_met _ _ _

pub returns-else-steps_fit-clause-answer : goal.returns-else-steps_fit-clause-answer
returns-else-steps_fit-clause-answer c =
    let a = c.args in
    let ss = a.records.now in
    steps_refused a.points.now a.m a.n a.tolerances (pairs_of ss) (marks_of ss) (lists_of a.sheet.now)
    c.steps_fit.ensures c.if-steps_fit.false

pub returns-else-steps_fit-clause-demand : goal.returns-else-steps_fit-clause-demand
returns-else-steps_fit-clause-demand c = demand3 _ _ _

pub returns-else-steps_fit-clause-numbers : goal.returns-else-steps_fit-clause-numbers
returns-else-steps_fit-clause-numbers c = numbers_met _ _ _
