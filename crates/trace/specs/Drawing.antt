-- Rules 7.3 and 7.4: moves drawn into lines, with room for as many points and lines as the lent lists can hold.
-- Original: `push_segment_point`, `flush_segment`, `Paths`.
use Rattle.std.specs.Prelude.{Bool, false, cond, List, [], ◌∷◌, ◌++◌, ℕ, ◌+◌, ltb, leb, length, Float}
use Rattle.refusal.specs.declared.Refusal.TheVariants.{Full}
use Rattle.vector.specs.Vectors.{all_close}
use Rattle.page.specs.declared.TracedPoint.{TracedPoint}
use Rattle.page.specs.Moves.{Move, Outcome, on, off, run}
use Rattle.page.specs.Page.{Lists, point_room}

-- the points of the kept lines in order, the number of each line's first point, and the points of the pending line
pub record Drawing : Type 0 where
  pub drawn : List TracedPoint
  pub starts : List ℕ
  pub segment : List TracedPoint

abbrev pub drawing : List TracedPoint → List ℕ → List TracedPoint → Drawing
drawing d s p = record { drawn = d; starts = s; segment = p }

abbrev pub nothing_drawn : Drawing
nothing_drawn = drawing [] [] []

-- how many points and lines the lent lists can hold
pub record Room : Type 0 where
  pub points : ℕ
  pub lines : ℕ

abbrev pub room_in : Lists → Room
room_in l = record { points = point_room l; lines = length l.starts }

-- the pending line has a last point, and it is close to c by a tolerance (Rules 2.1)
abbrev pub close_to_last : Float → List TracedPoint → TracedPoint → Bool
close_to_last tolerance [] c = false
close_to_last tolerance (x ∷ []) c = all_close x.crossing.point c.crossing.point tolerance
close_to_last tolerance (x ∷ (y ∷ ys)) c = close_to_last tolerance (y ∷ ys) c

-- `push_segment_point`: a point that is close to the last pending one is left out; 12 if there is no room for it,
-- those pending counted
unfoldable pub push_segment_point : Float → Room → TracedPoint → Drawing → Outcome Drawing
push_segment_point tolerance room c d =
    cond (close_to_last tolerance d.segment c) (on d)
    (cond (ltb (length d.drawn + length d.segment) room.points)
    (on (drawing d.drawn d.starts (d.segment ++ (c ∷ []))))
    (off Full d))

-- `flush_segment`: a line of two points or more is kept, 12 if there is no room for its start; a shorter one goes
unfoldable pub flush_segment : Room → Drawing → Outcome Drawing
flush_segment room d =
    cond (leb 2 (length d.segment))
    (cond (ltb (length d.starts) room.lines)
    (on (drawing (d.drawn ++ d.segment) (d.starts ++ (length d.drawn ∷ [])) []))
    (off Full d))
    (on (drawing d.drawn d.starts []))

-- moves in order, from a drawing on, where close means by a tolerance
abbrev pub draw : Float → Room → List (Move TracedPoint) → Drawing → Outcome Drawing
draw tolerance room = run (push_segment_point tolerance room) (flush_segment room)
