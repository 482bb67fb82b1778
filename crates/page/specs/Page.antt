-- Rules 8.1, 7.5, 7.3 and 7.4: the lent lists of a trace, and the points that go into them; then, for inner contracts
-- only, pushes and flushes as the code does them: points are written in place, pending ones after the kept ones, and a
-- flush moves a count. Drawing.antt and Trace.antt of `trace` say the same without lists, for the open call;
-- proofs/Agree.antt there shows that they agree.
use Rattle.std.specs.Prelude.{Bool, ◌&&◌, cond, List, map}
use Rattle.std.specs.Prelude.{ℕ, ◌+◌, ◌-◌, ◌*◌, ◌/◌, ◌≤◌, min, ltb, leb, length, set, Float}
use Rattle.refusal.specs.declared.Refusal.TheVariants.{Full}
use Rattle.float.specs.Consts.{zero64}
use Rattle.lent.specs.Lent.{zeroed_from}
use Rattle.vector.specs.Vectors.{all_close}
use Rattle.grid.specs.Grid.{point_at}
use Rattle.crossing.specs.declared.Crossing.{Crossing}
use Rattle.page.specs.declared.TracedPoint.{TracedPoint}
use Rattle.page.specs.declared.Pen.{Pen}
use Rattle.page.specs.Moves.{Move, map_move, Outcome, on, off, run}

-- ---- Rules 8.1: the lent lists of a trace

-- x, y, z of each point; the number of each line's first point; p and q of each point; t of each point; and the number
-- of the sample that each point was made by
pub record Lists : Type 0 where
  pub points : List Float
  pub starts : List ℕ
  pub sides : List ℕ
  pub fractions : List Float
  pub samples : List ℕ

abbrev pub lists : List Float → List ℕ → List ℕ → List Float → List ℕ → Lists
lists p s d f n = record { points = p; starts = s; sides = d; fractions = f; samples = n }

-- how many points they can hold: one takes three numbers of points, two of sides, one of fractions, one of samples;
-- what is left over holds none
abbrev pub point_room : Lists → ℕ
point_room l =
    min (length l.points / 3) (min (length l.sides / 2) (min (length l.fractions) (length l.samples)))

-- ---- Rules 7.5: the points, each with the number of its sample

-- a crossing as a point: with the number of the sample that its leg leads to
abbrev pub traced_by : ℕ → Crossing → TracedPoint
traced_by i c = record { crossing = c; sample = i }

-- moves that push crossings as moves that push points, all with the number i
abbrev pub moves_by : ℕ → List (Move Crossing) → List (Move TracedPoint)
moves_by i = map (map_move (traced_by i))

-- ---- for inner contracts: one point, and one start, put in place

-- a point at the places of number i: in the points, in the sides, and in all lists but the starts
abbrev pub write_point : List Float → ℕ → Crossing → List Float
write_point l i c = set (set (set l (3 * i) c.point.x) (3 * i + 1) c.point.y) (3 * i + 2) c.point.z

abbrev pub write_side : List ℕ → ℕ → Crossing → List ℕ
write_side l i c = set (set l (2 * i) c.p) (2 * i + 1) c.q

abbrev pub write_at : ℕ → TracedPoint → Lists → Lists
write_at i c l =
    lists (write_point l.points i c.crossing) l.starts (write_side l.sides i c.crossing)
    (set l.fractions i c.crossing.t) (set l.samples i c.sample)

-- the same lists but the starts
abbrev pub with_starts : List ℕ → Lists → Lists
with_starts s l = lists l.points s l.sides l.fractions l.samples

-- a start at its place
abbrev pub write_start : ℕ → ℕ → Lists → Lists
write_start i s l = with_starts (set l.starts i s) l

-- ---- for inner contracts: the lists, and where the pen stands in them

-- c points are written, the pending line starts at number s, and l lines are kept
abbrev pub pen_at : ℕ → ℕ → ℕ → Pen
pen_at c s l = record { count = c; start = s; lines = l }

pub record Page : Type 0 where
  pub lists : Lists
  pub pen : Pen

abbrev pub page : Lists → Pen → Page
page l p = record { lists = l; pen = p }

-- there is a place for one point more
abbrev pub has_room : Page → Bool
has_room g = ltb g.pen.count (point_room g.lists)

-- there is a pending point, and the last one is close to c by a tolerance
abbrev pub close_to_pending : Float → TracedPoint → Page → Bool
close_to_pending tolerance c g =
    ltb g.pen.start g.pen.count
    && all_close (point_at g.lists.points (g.pen.count - 1)) c.crossing.point tolerance

-- c as one more pending point
unfoldable pub written : TracedPoint → Page → Page
written c g = page (write_at g.pen.count c g.lists) (pen_at (g.pen.count + 1) g.pen.start g.pen.lines)

-- Rules 7.3, 7.4, `push_segment_point`: a point that is close to the last pending one is left out; 12 if a list is full
unfoldable pub push_page : Float → TracedPoint → Page → Outcome Page
push_page tolerance c g =
    cond (close_to_pending tolerance c g) (on g) (cond (has_room g) (on (written c g)) (off Full g))

-- the pending line is kept
unfoldable pub kept : Page → Page
kept g =
    page (write_start g.pen.lines g.pen.start g.lists)
    (pen_at g.pen.count g.pen.count (g.pen.lines + 1))

-- the pending line goes
unfoldable pub dropped : Page → Page
dropped g = page g.lists (pen_at g.pen.start g.pen.start g.pen.lines)

-- Rules 7.3, 7.4, `flush_segment`: two points or more are kept, 12 if the starts are full; fewer are dropped
unfoldable pub flush_page : Page → Outcome Page
flush_page g =
    cond (leb (g.pen.start + 2) g.pen.count)
    (cond (ltb g.pen.lines (length g.lists.starts)) (on (kept g)) (off Full g))
    (on (dropped g))

-- Rules 7.1, `flush_unless`: the pending line is flushed unless the leg is inside the grid, where it goes on
abbrev pub flush_unless : Bool → Page → Outcome Page
flush_unless inside g = cond inside (on g) (flush_page g)

-- moves in order, on a page, where close means by a tolerance
abbrev pub on_page : Float → List (Move TracedPoint) → Page → Outcome Page
on_page tolerance = run (push_page tolerance) flush_page

-- ---- what moves keep of a page, and what is left to do after the walk

-- the points written so far stand in their list, the pending ones last: so much every move keeps
abbrev pub PenFits : List Float → Pen → Type 0
PenFits points pen = (pen.start ≤ pen.count) × (3 * pen.count ≤ length points)

-- every place past the points and the lines is made zero
abbrev pub zeroed_past : Page → Page
zeroed_past g =
    page
    (lists (zeroed_from zero64 (3 * g.pen.count) g.lists.points) (zeroed_from 0 g.pen.lines g.lists.starts)
    (zeroed_from 0 (2 * g.pen.count) g.lists.sides) (zeroed_from zero64 g.pen.count g.lists.fractions)
    (zeroed_from 0 g.pen.count g.lists.samples))
    g.pen
