-- Rules 9, for C: the counts of grid lines, and a line as a part of the points.
use Rattle.std.specs.Prelude.{ℕ, ◌-◌, ◌*◌, ◌≡◌, List, take, drop, Float}
use Rattle.refusal.specs.Refusals.{Answer, ok, refused}
use Rattle.lent.specs.declared.Counts.{Counts}
use Rattle.path.specs.declared.Span.{Span}
use Rattle.path.specs.Line.{line_span, line_at}
use Rattle.merlontrispa.specs.declared.lines.PathsAnswer.{PathsAnswer}
use Rattle.merlontrispa.specs.declared.lines.SpanAnswer.{SpanAnswer}
use Rattle.merlontrispa.specs.declared.lines.Part.{Part}

-- Rules 11.3: a refusal comes with its number alone, so counts and ends are 0
abbrev pub paths_answer : Answer Counts → PathsAnswer
paths_answer (ok c) = record { refusal = 0; points = c.points; lines = c.lines }
paths_answer (refused k) = record { refusal = k; points = 0; lines = 0 }

abbrev pub span_answer : Answer Span → SpanAnswer
span_answer (ok e) = record { refusal = 0; start = e.start; end = e.end }
span_answer (refused k) = record { refusal = k; start = 0; end = 0 }

-- Rules 9.2, 11.3: a line as a part of the points, by where it begins and how long it is; where there is none, the
-- empty part
abbrev pub part_in : Answer Span → Part
part_in (ok e) = record { offset = 3 * e.start; length = 3 * e.end - 3 * e.start }
part_in (refused k) = record { offset = 0; length = 0 }

-- the part r is where `line_span` says, and what stands there is the line that `get` hands back
pub record Gets (points : List Float) (starts : List ℕ) (point_count line_count index : ℕ) (r : Part) : Type 0 where
  pub part : r ≡ part_in (line_span points starts point_count line_count index)
  pub line : take r.length (drop r.offset points) ≡ line_at points starts point_count line_count index
