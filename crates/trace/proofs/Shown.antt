-- A page shows a drawing where the front of each lent list holds the drawing's points, the pending ones last, and the
-- pen has its counts. Each push and each flush leaves it so: a push writes one point after them, and a flush moves
-- the count where the drawing moves its pending points.
use mathlib.Core.Path.{◌≡◌, refl, sym, ap, ◌∙◌}
use mathlib.Core.Logic.{◌⊎◌, inl, inr}
use mathlib.Core.Bool.{Bool, true, false}
use mathlib.Core.List.{List, [], ◌∷◌, ◌++◌, append_assoc, append-nil}
use Prim.Native.Nat.{ℕ, suc, ◌+◌, ◌-◌, ◌*◌, ◌≤◌, ◌<◌}
use native.Mathlib.Nat.{add-zero}
use native.Mathlib.Numerals.{add-one}
use native.Mathlib.Omega.{arith}
use lib.Dec.{ltb, leb}
use lib.ListN.{length, take, get_or, set, length-append}
use lib.Seq.{take-suc-set, sets}
use lib.Ieee.{Float, nan}
use borrow.Author.Tests.{ltb-true, lt-ltb, le-ltb, leb-true, leb-false, le-leb, lt-leb}
use Rattle.vector.specs.Vectors.{all_close}
use Rattle.grid.specs.Grid.{point_at}
use Rattle.page.specs.declared.TracedPoint.{TracedPoint}
use Rattle.page.specs.Page.{Lists, point_room, write_point, write_side}
use Rattle.page.specs.Page.{Page, has_room, close_to_pending, written, push_page}
use Rattle.page.specs.Page.{write_at, write_start, kept, dropped, flush_page}
use Rattle.page.proofs.Moves.{Related, both_on, both_off, test_related}
use Rattle.page.proofs.Fits.{SizedPage, same_room, written_sized, kept_sized, dropped_sized}
use Rattle.trace.specs.Drawing.{Drawing, drawing, room_in, close_to_last, push_segment_point, flush_segment}
use Rattle.trace.specs.Trace.{point_of, side_of, fraction_of, sample_number_of, in_turn}
use Rattle.trace.proofs.Turns.{Holds, holds_front, holds_more, last_at}

-- the points that stand in the lists: the kept ones and after them the pending ones
abbrev pub all : Drawing → List TracedPoint
all d = d.drawn ++ d.segment

-- the front of each list holds these points, or these starts
pub record Fronts (l : Lists) (cs : List TracedPoint) (ss : List ℕ) : Type 0 where
  pub points : Holds 3 point_of l.points cs
  pub starts : take (length ss) l.starts ≡ ss
  pub sides : Holds 2 side_of l.sides cs
  pub fractions : Holds 1 fraction_of l.fractions cs
  pub samples : Holds 1 sample_number_of l.samples cs

-- nothing, in any lists
pub none_held : (l : Lists) → Fronts l [] []
unfolding in_turn
none_held l = record { points = refl; starts = refl; sides = refl; fractions = refl; samples = refl }

-- the first of them
first_held : (l : Lists) (cs ds : List TracedPoint) (ss : List ℕ) → Fronts l (cs ++ ds) ss → Fronts l cs ss
first_held l cs ds ss h =
    record {
      points = holds_front 3 point_of (λ c. refl) l.points cs ds h.points;
      starts = h.starts;
      sides = holds_front 2 side_of (λ c. refl) l.sides cs ds h.sides;
      fractions = holds_front 1 fraction_of (λ c. refl) l.fractions cs ds h.fractions;
      samples = holds_front 1 sample_number_of (λ c. refl) l.samples cs ds h.samples;
    }

-- the page shows the drawing
pub record Shows (l : Lists) (g : Page) (d : Drawing) : Type 0 where
  pub sized : SizedPage l g
  pub start : g.pen.start ≡ length d.drawn
  pub count : g.pen.count ≡ length d.drawn + length d.segment
  pub lines : g.pen.lines ≡ length d.starts
  pub fronts : Fronts g.lists (all d) d.starts

-- ---- flush

-- two pending points or more, by the pen's counts and by the drawing's
two_same : (s c a b : ℕ) → s ≡ a → c ≡ a + b → leb (s + 2) c ≡ leb 2 b
two_same s c a b p q = go (leb 2 b) refl
  where
    go : (t : Bool) → leb 2 b ≡ t → leb (s + 2) c ≡ t
    go true e = le-leb (s + 2) c (omega (arith, leb-true 2 b e))
    go false e = lt-leb (s + 2) c (omega (arith, leb-false 2 b e))

-- one start more, written at its place
start_more : (ss l : List ℕ) (x : ℕ) {i y : ℕ} → take (length ss) l ≡ ss → i ≡ length ss → y ≡ x → i < length l →
    take (length (ss ++ (x ∷ []))) (set l i y) ≡ ss ++ (x ∷ [])
start_more ss l x {i} {y} h p q k =
    let j : length ss < length l = omega arith in
    rw (p, q, length-append, add-one, take-suc-set l (length ss) x, h)

start_held : (l : Lists) (cs : List TracedPoint) (ss : List ℕ) (x : ℕ) {i y : ℕ} → Fronts l cs ss → i ≡ length ss →
    y ≡ x → i < length l.starts → Fronts (write_start i y l) cs (ss ++ (x ∷ []))
start_held l cs ss x h p q k =
    record {
      points = h.points;
      starts = start_more ss l.starts x h.starts p q k;
      sides = h.sides;
      fractions = h.fractions;
      samples = h.samples;
    }

module _ (l : Lists) (g : Page) (d : Drawing) (h : Shows l g d) where
  -- the pending points stand past the count
  dropped_shows : Shows l (dropped g) (drawing d.drawn d.starts [])
  unfolding dropped
  dropped_shows =
      record {
        sized = dropped_sized l g h.sized;
        start = h.start;
        count = h.start ∙ omega arith;
        lines = h.lines;
        fronts = rw append-nil (first_held g.lists d.drawn d.segment d.starts h.fronts);
      }

  -- the pending points are kept where they stand
  kept_shows : g.pen.lines < length g.lists.starts →
      Shows l (kept g) (drawing (all d) (d.starts ++ (length d.drawn ∷ [])) [])
  unfolding kept
  kept_shows k =
      record {
        sized = kept_sized l g h.sized;
        start = h.count ∙ sym (length-append d.drawn d.segment);
        count = h.count ∙ sym (simp length-append (omega arith));
        lines = rw length-append (omega (arith, h.lines));
        fronts =
            rw append-nil (start_held g.lists (all d) d.starts (length d.drawn) h.fronts h.lines
            h.start k);
      }

  pub flush_related : Related (Shows l) (SizedPage l) (flush_page g) (flush_segment (room_in l) d)
  unfolding flush_page flush_segment
  flush_related =
      test_related (leb (g.pen.start + 2) g.pen.count) (leb 2 (length d.segment))
      (two_same g.pen.start g.pen.count (length d.drawn) (length d.segment) h.start h.count)
      (λ p. test_related (ltb g.pen.lines (length g.lists.starts))
      (ltb (length d.starts) (length l.starts)) (rw (h.lines, h.sized.starts))
      (λ q. both_on (kept_shows
      (omega (arith, h.lines, h.sized.starts, ltb-true (length d.starts) (length l.starts) q))))
      (λ q. both_off h.sized))
      (λ p. both_on dropped_shows)

-- ---- push

abbrev HasLast : List TracedPoint → Type 0
HasLast cs = (ys : List TracedPoint) × (y : TracedPoint) × (cs ≡ ys ++ (y ∷ []))

-- a pending line is empty, or has a last point
last_view : (cs : List TracedPoint) → (cs ≡ []) ⊎ HasLast cs
last_view [] = inl refl
last_view (c ∷ cs) = go (last_view cs)
  where
    go : (cs ≡ []) ⊎ HasLast cs → (c ∷ cs ≡ []) ⊎ HasLast (c ∷ cs)
    go (inl e) = inr ([], c, rw e)
    go (inr w) = inr (c ∷ w.0, w.1, rw w.2)

-- closeness to the last point, where that is known
close_last : (tolerance : Float) (ys : List TracedPoint) (y c : TracedPoint) →
    close_to_last tolerance (ys ++ (y ∷ [])) c ≡ all_close y.crossing.point c.crossing.point tolerance
close_last tolerance [] y c = refl
close_last tolerance (a ∷ []) y c = refl
close_last tolerance (a ∷ (b ∷ ys)) y c = close_last tolerance (b ∷ ys) y c

-- the point that stands last in a list is the last point
last_point : (l : List Float) (cs : List TracedPoint) (c : TracedPoint) → Holds 3 point_of l (cs ++ (c ∷ [])) →
    point_at l (length cs) ≡ c.crossing.point
unfolding point_at
last_point l cs c h =
    let x : get_or l (3 * length cs) nan ≡ c.crossing.point.x =
    simp add-zero at (last_at 3 point_of (λ c. refl) l cs c 0 nan (omega arith) h) in
    let y : get_or l (3 * length cs + 1) nan ≡ c.crossing.point.y =
    last_at 3 point_of (λ c. refl) l cs c 1 nan (omega arith) h in
    let z : get_or l (3 * length cs + 2) nan ≡ c.crossing.point.z =
    last_at 3 point_of (λ c. refl) l cs c 2 nan (omega arith) h in
    rw (x, y, z)

-- the writes of one point, as one run of stores
write_point_lem : (l : List Float) (c : TracedPoint) {i k : ℕ} → i ≡ k →
    write_point l i c.crossing ≡ sets l (3 * k) (point_of c)
write_point_lem l c {i} {k} e =
    let e0 : 3 * i ≡ 3 * k = omega arith in
    let e1 : 3 * i + 1 ≡ suc (3 * k) = omega arith in
    let e2 : 3 * i + 2 ≡ suc (suc (3 * k)) = omega arith in
    rw (e2, e1, e0)

write_side_lem : (l : List ℕ) (c : TracedPoint) {i k : ℕ} → i ≡ k →
    write_side l i c.crossing ≡ sets l (2 * k) (side_of c)
write_side_lem l c {i} {k} e =
    let e0 : 2 * i ≡ 2 * k = omega arith in
    let e1 : 2 * i + 1 ≡ suc (2 * k) = omega arith in
    rw (e1, e0)

-- of one number, as a fraction and the number of a sample are
write_one : {A : Type 0} (l : List A) (x : A) {i k : ℕ} → i ≡ k → set l i x ≡ sets l (1 * k) (x ∷ [])
write_one l x {i} {k} e = let e0 : i ≡ 1 * k = omega arith in rw e0

-- one point more, written at its places
point_held : (l : Lists) (cs : List TracedPoint) (c : TracedPoint) (ss : List ℕ) {i : ℕ} → Fronts l cs ss →
    i ≡ length cs → i < point_room l → Fronts (write_at i c l) (cs ++ (c ∷ [])) ss
point_held l cs c ss {i} h n r =
    record {
      points =
          rw (write_point_lem l.points c n)
          (holds_more 3 point_of (λ c. refl) l.points cs c (omega arith) h.points);
      starts = h.starts;
      sides =
          rw (write_side_lem l.sides c n) (holds_more 2 side_of (λ c. refl) l.sides cs c (omega arith) h.sides);
      fractions =
          rw (write_one l.fractions c.crossing.t n)
          (holds_more 1 fraction_of (λ c. refl) l.fractions cs c (omega arith) h.fractions);
      samples =
          rw (write_one l.samples c.sample n)
          (holds_more 1 sample_number_of (λ c. refl) l.samples cs c (omega arith) h.samples);
    }

module _ (l : Lists) (g : Page) (d : Drawing) (h : Shows l g d) (tolerance : Float) (c : TracedPoint) where
  -- closeness to the last pending point, by the list and by the drawing
  close_same : close_to_pending tolerance c g ≡ close_to_last tolerance d.segment c
  close_same = go (last_view d.segment)
    where
      go : (d.segment ≡ []) ⊎ HasLast d.segment →
          close_to_pending tolerance c g ≡ close_to_last tolerance d.segment c
      go (inl e) =
          let none : g.pen.count ≤ g.pen.start = omega (arith, h.count, h.start, ap length e) in
          rw (le-ltb g.pen.start g.pen.count none, e)
      go (inr w) =
          let ys = w.0 in
          let y = w.1 in
          let more : length d.segment ≡ length ys + 1 = ap length w.2 ∙ length-append ys (y ∷ []) in
          let some : g.pen.start < g.pen.count = omega (arith, h.count, h.start) in
          let at : g.pen.count - 1 ≡ length (d.drawn ++ ys) = omega (arith, h.count, length-append d.drawn ys) in
          let last : Holds 3 point_of g.lists.points ((d.drawn ++ ys) ++ (y ∷ [])) =
          rw append_assoc (rw w.2 at h.fronts.points) in
          rw (
            lt-ltb g.pen.start g.pen.count some,
            at,
            last_point g.lists.points (d.drawn ++ ys) y last,
            w.2,
            close_last tolerance ys y c,
          )

  -- room for one point more, in each list
  room_same : has_room g ≡ ltb (length d.drawn + length d.segment) (room_in l).points
  room_same = rw (h.count, same_room l g.lists h.sized)

  -- one point more, after the others
  written_shows : has_room g ≡ true → Shows l (written c g) (drawing d.drawn d.starts (d.segment ++ (c ∷ [])))
  unfolding written
  written_shows r =
      let n : g.pen.count ≡ length (all d) = h.count ∙ sym (length-append d.drawn d.segment) in
      let room = ltb-true g.pen.count (point_room g.lists) r in
      record {
        sized = written_sized l c g h.sized;
        start = h.start;
        count = rw length-append (omega (arith, h.count));
        lines = h.lines;
        fronts = rw (← append_assoc) (point_held g.lists (all d) c d.starts h.fronts n room);
      }

  pub push_related : Related (Shows l) (SizedPage l) (push_page tolerance c g)
      (push_segment_point tolerance (room_in l) c d)
  unfolding push_page push_segment_point
  push_related =
      test_related (close_to_pending tolerance c g) (close_to_last tolerance d.segment c) close_same
      (λ p. both_on h)
      (λ p. test_related (has_room g) (ltb (length d.drawn + length d.segment) (room_in l).points) room_same
      (λ q. both_on (written_shows (room_same ∙ q)))
      (λ q. both_off h.sized))
