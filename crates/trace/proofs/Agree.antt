-- The lists filled in place and the moves drawn agree: the page shows the drawing from the first move to the last,
-- since each push and each flush leaves it so. A trace ends with a flush, so nothing is pending, and the lists,
-- zeroed past the counts, are those of `finished`.
use Rattle.std.specs.Prelude.{Option}
use mathlib.Core.Path.{◌≡◌, refl, ap}
use mathlib.Core.Bool.{Bool, true, false, cond}
use mathlib.Core.List.{List, [], ◌∷◌, ◌++◌, append-nil}
use Prim.Native.Nat.{ℕ, ◌+◌, ◌*◌}
use native.Mathlib.Omega.{arith}
use lib.Dec.{ltb, leb}
use lib.ListN.{length}
use lib.Ieee.{Float}
use Rattle.float.specs.Consts.{zero64}
use Rattle.refusal.specs.declared.Refusal.TheVariants.{Full}
use Rattle.refusal.specs.Refusals.{Answer, ok, refused, number_of}
use Rattle.lent.specs.declared.Counts.{Counts}
use Rattle.lent.specs.Lent.{filled, zeroed_from, Afterwards, afterwards, counts}
use Rattle.lent.proofs.Laws.{zeroed_filled}
use Rattle.param.specs.declared.ParamPoint.{ParamPoint}
use Rattle.param.specs.declared.Cells.{Cells}
use Rattle.page.specs.declared.TracedPoint.{TracedPoint}
use Rattle.page.specs.Moves.{Move, flush, Outcome, on, off, follow}
use Rattle.page.specs.Page.{Lists, moves_by, Page, pen_at, page, push_page, flush_page, on_page, zeroed_past}
use Rattle.page.proofs.Moves.{run_append, run_one, Holding, Related, both_on, both_off, run_related}
use Rattle.page.proofs.Fits.{Sized, SizedPage, same_size}
use Rattle.trace.specs.Curve.{Sample, marked_point, visit_of, visit_moves, trace_moves}
use Rattle.trace.specs.Drawing.{Drawing, drawing, nothing_drawn, Room, room_in, push_segment_point, flush_segment}
use Rattle.trace.specs.Drawing.{draw}
use Rattle.trace.specs.Trace.{point_of, side_of, fraction_of, sample_number_of, lists_with, finished}
use Rattle.trace.proofs.Turns.{zeroed_turn}
use Rattle.trace.proofs.Shown.{all, Fronts, none_held, Shows, push_related, flush_related}

abbrev pub first_page : Lists → Page
first_page l = page l (pen_at 0 0 0)

-- before the first move nothing is shown
first_shows : (l : Lists) → Shows l (first_page l) nothing_drawn
first_shows l =
    record {
      sized = same_size l;
      start = refl;
      count = refl;
      lines = refl;
      fronts = none_held l;
    }

-- both, from the first move to the last
moves_related : (tolerance : Float) (l : Lists) (ms : List (Move TracedPoint)) →
    Related (Shows l) (SizedPage l) (on_page tolerance ms (first_page l)) (draw tolerance (room_in l) ms nothing_drawn)
moves_related tolerance l ms =
    run_related (Shows l) (SizedPage l) (push_page tolerance) flush_page (push_segment_point tolerance (room_in l))
    (flush_segment (room_in l))
    (λ s t r. r.sized)
    (λ c s t r. push_related l s t r tolerance c)
    (λ s t r. flush_related l s t r)
    ms (first_page l) nothing_drawn (first_shows l)

-- a trace ends with a flush, so nothing is pending
abbrev NonePending : Outcome Drawing → Type 0
NonePending = Holding (λ (d : Drawing). d.segment ≡ [])

flush_ends : (room : Room) (d : Drawing) → NonePending (flush_segment room d)
unfolding flush_segment
flush_ends room d = go (leb 2 (length d.segment)) (ltb (length d.starts) room.lines)
  where
    go : (a b : Bool) → NonePending (cond a
        (cond b (on (drawing (d.drawn ++ d.segment) (d.starts ++ (length d.drawn ∷ [])) [])) (off Full d))
        (on (drawing d.drawn d.starts [])))
    go true true = refl
    go true false = tt
    go false b = refl

follow_ends : (x : Outcome Drawing) (k : Drawing → Outcome Drawing) → ((d : Drawing) → NonePending (k d)) →
    NonePending (follow x k)
follow_ends (on d) k h = h d
follow_ends (off r d) k h = tt

module _ (tolerance : Float) (room : Room) (g : List Float) (k : Cells) where
  trace_flushed : (i : ℕ) (xs : List Sample) (p : Option ParamPoint) (d : Drawing) →
      NonePending (draw tolerance room (trace_moves g k i xs p) d)
  unfolding trace_moves
  trace_flushed i [] p d =
      rw (run_one (push_segment_point tolerance room) (flush_segment room) flush d) (flush_ends room d)
  trace_flushed i (x ∷ xs) p d =
      let first = moves_by i (visit_moves g k (visit_of p (marked_point x))) in
      let others = trace_moves g k (i + 1) xs (marked_point x) in
      rw (run_append (push_segment_point tolerance room) (flush_segment room) first others d)
      (follow_ends (draw tolerance room first d) (draw tolerance room others)
      (trace_flushed (i + 1) xs (marked_point x)))

-- lists whose fronts hold these points and starts, zeroed past them
zeroed_is : (l : Lists) (g : Page) (cs : List TracedPoint) (ss : List ℕ) → Sized l g.lists → Fronts g.lists cs ss →
    g.pen.count ≡ length cs → g.pen.lines ≡ length ss → (zeroed_past g).lists ≡ lists_with cs ss l
zeroed_is l g cs ss z h n k =
    let m = g.lists in
    let count = g.pen.count in
    let points =
    zeroed_turn 3 point_of (λ c. refl) zero64 m.points l.points cs (3 * count) z.points h.points
    (omega arith) in
    let starts : zeroed_from 0 g.pen.lines m.starts ≡ filled 0 ss l.starts =
    rw k (zeroed_filled 0 ss m.starts l.starts z.starts h.starts) in
    let sides =
    zeroed_turn 2 side_of (λ c. refl) 0 m.sides l.sides cs (2 * count) z.sides h.sides (omega arith) in
    let fractions =
    zeroed_turn 1 fraction_of (λ c. refl) zero64 m.fractions l.fractions cs count z.fractions h.fractions
    (omega arith) in
    let samples =
    zeroed_turn 1 sample_number_of (λ c. refl) 0 m.samples l.samples cs count z.samples h.samples
    (omega arith) in
    rw (points, starts, sides, fractions, samples)

-- the page that is left, since a walk that is refused draws nothing
abbrev pub page_left : Outcome Page → Page
page_left (on g) = g
page_left (off k g) = first_page g.lists

-- what the open call answers, and its lists, which are zeroed past what is drawn
abbrev pub ended : Outcome Page → Afterwards (Answer Counts) Lists
ended (on g) = afterwards (ok (counts g.pen.count g.pen.lines)) (zeroed_past (page_left (on g))).lists
ended (off k g) = afterwards (refused (number_of k)) (zeroed_past (page_left (off k g))).lists

-- of a page that shows a drawing in which nothing is pending
shown_ends : (l : Lists) {x : Outcome Page} {y : Outcome Drawing} → Related (Shows l) (SizedPage l) x y →
    NonePending y → ended x ≡ finished y l
shown_ends l (both_on {s = g} {t = d} h) e =
    let all_drawn : all d ≡ d.drawn = rw e (append-nil d.drawn) in
    let n : g.pen.count ≡ length d.drawn = omega (arith, h.count, ap length e) in
    rw (zeroed_is l g d.drawn d.starts h.sized (rw all_drawn at h.fronts) n h.lines, n, h.lines)
shown_ends l (both_off {s = g} h) e = rw (zeroed_is l (first_page g.lists) [] [] h (none_held g.lists) refl refl)

-- THE LAW: from what the inner walk ensures to what the open call promises
pub trace_ends : (tolerance : Float) (l : Lists) (g : List Float) (k : Cells) (i : ℕ) (xs : List Sample)
    (p : Option ParamPoint) → ended (on_page tolerance (trace_moves g k i xs p) (first_page l))
    ≡ finished (draw tolerance (room_in l) (trace_moves g k i xs p) nothing_drawn) l
trace_ends tolerance l g k i xs p =
    shown_ends l (moves_related tolerance l (trace_moves g k i xs p))
    (trace_flushed tolerance (room_in l) g k i xs p nothing_drawn)
