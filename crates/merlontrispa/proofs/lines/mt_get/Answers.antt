-- The part begins where `line_span` says, and is as long as what `get` hands back (proofs/Parts.antt); a span that it
-- answers lies within the points.
use native.Mathlib.Omega.{arith}
use Rattle.path.proofs.There.{span_bounds}
use Rattle.merlontrispa.proofs.Parts.{there, not_there}
use Rattle.merlontrispa.proofs.lines.mt_get.Goals as goal

pub overflow_mul-result : goal.overflow_mul-result
overflow_mul-result c = omega (arith, span_bounds _ _ _ _ _ c.in-Ok.is c.line_span.ensures)

pub returns-in-Ok : goal.returns-in-Ok
returns-in-Ok c = there _ _ _ _ _ c.in-Ok.is c.line_span.ensures c.get-length.ensures

pub returns-in-Err : goal.returns-in-Err
returns-in-Err c = not_there _ _ _ _ _ c.in-Err.is c.line_span.ensures c.get-length.ensures
