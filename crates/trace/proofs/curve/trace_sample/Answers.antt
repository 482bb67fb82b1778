-- `trace::curve::trace_sample` meets its contract: proofs/Sampled.antt has what is done by what the sample is.
use Rattle.trace.proofs.Sampled.{visit_drawn}
use Rattle.trace.proofs.curve.trace_sample.Goals as goal

pub returns-in-Break-clause-page : goal.returns-in-Break-clause-page
returns-in-Break-clause-page c = rw (visit_drawn, c.in-Break.is) c.flush_segment.ensures.page

pub returns-in-First-clause-page : goal.returns-in-First-clause-page
returns-in-First-clause-page c = rw (visit_drawn, c.in-First.is)
