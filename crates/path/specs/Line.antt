-- Rules 9.2: where a line starts and ends, when there is such a line, and its part of the points.
use Rattle.std.specs.Prelude.{ℕ, ◌+◌, ◌-◌, ◌*◌, Bool, ◌&&◌, cond, List, [], leb, ltb, length, get_or, take, drop, Float}
use Rattle.refusal.specs.declared.Refusal.TheVariants.{NotThere}
use Rattle.refusal.specs.Refusals.{Answer, ok, refused, number_of}
use Rattle.path.specs.declared.Span.{Span}

-- where it starts
abbrev pub line_start : List ℕ → ℕ → ℕ
line_start starts index = get_or starts index 0

-- where it ends: at the start of the one after it, and the last at the point count
unfoldable pub line_end : List ℕ → ℕ → ℕ → ℕ → ℕ
line_end starts point_count line_count index =
    cond (ltb (index + 1) line_count) (line_start starts (index + 1)) point_count

-- there is such a line: it is among those counted, each list holds what is counted in it, and start ≤ end ≤ point count
unfoldable pub is_there : List Float → List ℕ → ℕ → ℕ → ℕ → Bool
is_there points starts point_count line_count index =
    ltb index line_count
    && ((leb (3 * point_count) (length points) && leb line_count (length starts))
    && (leb (line_start starts index) (line_end starts point_count line_count index)
    && leb (line_end starts point_count line_count index) point_count))

-- the open call `line_span`: start and end, or 8 where there is no such line
unfoldable pub line_span : List Float → List ℕ → ℕ → ℕ → ℕ → Answer Span
line_span points starts point_count line_count index =
    cond (is_there points starts point_count line_count index)
    (ok (record { start = line_start starts index; end = line_end starts point_count line_count index }))
    (refused (number_of NotThere))

-- the part of the points from start to end, three numbers to a point; the empty part for a refusal
abbrev pub part_of : List Float → Answer Span → List Float
part_of points (ok e) = take (3 * e.end - 3 * e.start) (drop (3 * e.start) points)
part_of points (refused k) = []

-- the open call `get`: the line's part of the points
unfoldable pub line_at : List Float → List ℕ → ℕ → ℕ → ℕ → List Float
line_at points starts point_count line_count index =
    part_of points (line_span points starts point_count line_count index)
