-- Demand 3 for every covered joining. Seen along one of its seams the surface is a strip, in which all is said of
-- halves of cells (Owners, Directions); what is left is to say it of triangle numbers, which are the slots' since no
-- triangle is left out.
--
use Prim.Native.Nat.{ℕ, ◌+◌, ◌-◌, ◌*◌, ◌≤◌, ◌<◌}
use mathlib.Core.Path.{◌≡◌, refl, sym, ap, ◌∙◌}
use mathlib.Core.Logic.{◌⊎◌, inl, inr, ⊎_elim}
use mathlib.Core.Bool.{Bool, true, false}
use mathlib.Core.List.Memᴰ
use mathlib.Core.List.{[], Memᴰ}
use native.Mathlib.Omega.{arith}
use lib.Arith.{digits_div, digits_mod}
use lib.ListN.{length}
use borrow.Author.Tests.{ne_eqb}
use Rattle.basics.proofs.Numbers.{lt_or_le}
use Rattle.param.specs.declared.Axis.{Axis}
use Rattle.surface.specs.Surface.{Seam, unjoined, forward, reverse, reversed, Shape, J, Triangle, slot, proper}
use Rattle.surface.specs.Surface.{slots, triangles, Pair, pair, ordered, triangle_number, step_on, process, flipped}
use Rattle.surface.specs.Surface.{Follows, nth, Owns, OwnedOnce, OwnedTwice, Rim, SameWay, GridEdge, along_u}
use Rattle.surface.specs.Surface.{along_v, number, at, Jₙ, StepsAround, NoneOfTwo, Meets, falls, rises}
use Rattle.surface.specs.Rims.{low_of, high_of}
use Rattle.surface.proofs.Covered.{Covered}
use Rattle.surface.proofs.Steps.{Fits, laid_on, on_below}
use Rattle.surface.proofs.Strip.{Strip, ThreeAround, reversed_joined, straight}
use Rattle.surface.proofs.CellSides.{Cell}
use Rattle.surface.proofs.Owners.{Holds, SameTri, Other, owned}
use Rattle.surface.proofs.Directions.{Runs, Turn, runs_holds, holds_flip, holds_runs, runs_differ, same_way}
use Rattle.surface.proofs.Directions.{turn_shared}
use Rattle.surface.proofs.Axes.{x_of, y_of, turn_x, turn_y, SeenAlong, HasSteps, around_seen, none_seen, strip}
use Rattle.surface.proofs.Axes.{covered_along}
use Rattle.surface.proofs.Seen.{to_runs, from_runs, seen_cell, rim_seen, seen_rim, edge_seen, low_index}
use Rattle.surface.proofs.Seen.{high_index, flipped_seen}
use Rattle.surface.proofs.Triangles.{index, half_at, u_at, v_at, slot_at, u_at_lt, v_at_lt, index_at, index_lt}
use Rattle.surface.proofs.Triangles.{u_at_index, v_at_index, half_at_index, kept_length, kept_at}
use Rattle.surface.proofs.Pairs.{step_on_lem, pair_eq, mem_in, AllLaid, process_to, process_from}

pub proper_of : (t : Triangle) → (t.a ≡ t.b → ⊥) → (t.a ≡ t.c → ⊥) → (t.b ≡ t.c → ⊥) → proper t ≡ true
proper_of t p q r = rw (ne_eqb t.a t.b p, ne_eqb t.a t.c q, ne_eqb t.b t.c r)

-- `process_flipped` finds the step that a reversed seam lays a step on
reversed_step : (m : Seam) (c : Bool) (n y : ℕ) → (n ≡ 2 → ⊥) → Fits m c n → reversed m ≡ true → y < n →
    step_on m n y ≡ laid_on m n y
reversed_step (reverse o) c n y h f e k = step_on_lem o c n y h f k
reversed_step unjoined c n y h f e k = cc
reversed_step (forward o) c n y h f e k = cc

module _ (s : Shape) (steps : HasSteps s) (ax : Axis) (seen : SeenAlong ax s) where
  abbrev S : Strip
  S = strip s steps ax seen

  -- slot i is half `half_at i` of cell (`x_at i`, `y_at i`) of the strip
  abbrev x_at : ℕ → ℕ
  x_at i = x_of ax (u_at s i) (v_at s i)

  abbrev y_at : ℕ → ℕ
  y_at i = y_of ax (u_at s i) (v_at s i)

  -- going around that half, b follows a; it has the side of a and b
  abbrev RunAt : ℕ → ℕ → ℕ → Type 0
  RunAt i a b = Runs S (half_at i) (x_at i) (y_at i) a b

  abbrev HoldAt : ℕ → ℕ → ℕ → Type 0
  HoldAt i a b = Holds S (half_at i) (x_at i) (y_at i) a b

  -- ---- every slot emits its triangle, so triangle i is slot i

  u_lt : (i : ℕ) → i < slots s → u_at s i < s.M
  u_lt i h = u_at_lt s i (omega arith) h

  v_lt : (i : ℕ) → v_at s i < s.N
  v_lt i = v_at_lt s i (omega arith)

  slot_runs : (i : ℕ) {a b : ℕ} → i < slots s → Follows (slot s i) a b → RunAt i a b
  slot_runs i h f =
      to_runs s steps ax seen (half_at i) (u_at s i) (v_at s i) _ _ (u_lt i h) (v_lt i) (rw (slot_at s i) at f)

  runs_slot : (i : ℕ) {a b : ℕ} → i < slots s → RunAt i a b → Follows (slot s i) a b
  runs_slot i h r =
      rw (slot_at s i) (from_runs s steps ax seen (half_at i) (u_at s i) (v_at s i) _ _ (u_lt i h) (v_lt i) r)

  slot_proper : (i : ℕ) → i < slots s → proper (slot s i) ≡ true
  slot_proper i h =
      proper_of (slot s i)
      (differ (inl (refl, refl)))
      (λ e. differ (inr (inr (refl, refl))) (sym e))
      (differ (inr (inl (refl, refl))))
    where
      differ : {a b : ℕ} → Follows (slot s i) a b → a ≡ b → ⊥
      differ f = runs_differ S (slot_runs i h f)

  count : length (triangles s) ≡ slots s
  unfolding triangles
  count = kept_length s (slots s) slot_proper

  nth_is : (i : ℕ) → i < slots s → nth (triangles s) i ≡ slot s i
  unfolding triangles
  nth_is i h = kept_at s (slots s) i slot_proper h

  number_is : (i : ℕ) → i < slots s → triangle_number s i ≡ i
  unfolding triangle_number
  number_is i h = kept_length s i (λ j k. slot_proper j (omega arith))

  -- ---- what a triangle of the list has and runs along, its half has and runs along

  nth_runs : (i : ℕ) {a b : ℕ} → i < length (triangles s) → Follows (nth (triangles s) i) a b → RunAt i a b
  nth_runs i h f = let b : i < slots s = omega (arith, count) in slot_runs i b (rw (nth_is i b) at f)

  owns_holds : (a b i : ℕ) → Owns (triangles s) a b i → HoldAt i a b
  owns_holds a b i o =
      ⊎_elim (λ f. runs_holds S (nth_runs i o.there f)) (λ f. holds_flip S (runs_holds S (nth_runs i o.there f)))
      o.has

  -- ---- and back, by the number of the triangle of half h of cell (x, y)

  index_of : Bool → ℕ → ℕ → ℕ
  index_of h x y = index s h (x_of ax x y) (y_of ax x y)

  index_of_lt : (h : Bool) (x y : ℕ) → Cell S x y → index_of h x y < slots s
  unfolding index_of
  index_of_lt h x y c = let b = seen_cell s steps ax seen x y c in index_lt s h (x_of ax x y) (y_of ax x y) b.0 b.1

  half_index_of : (h : Bool) (x y : ℕ) → half_at (index_of h x y) ≡ h
  unfolding index_of
  half_index_of h x y = half_at_index s h (x_of ax x y) (y_of ax x y)

  x_index_of : (h : Bool) (x y : ℕ) → Cell S x y → x_at (index_of h x y) ≡ x
  unfolding index_of
  x_index_of h x y c =
      let b = (seen_cell s steps ax seen x y c).1 in
      cc (u_at_index s h (x_of ax x y) (y_of ax x y) b, v_at_index s h (x_of ax x y) (y_of ax x y) b, turn_x ax x y)

  y_index_of : (h : Bool) (x y : ℕ) → Cell S x y → y_at (index_of h x y) ≡ y
  unfolding index_of
  y_index_of h x y c =
      let b = (seen_cell s steps ax seen x y c).1 in
      cc (u_at_index s h (x_of ax x y) (y_of ax x y) b, v_at_index s h (x_of ax x y) (y_of ax x y) b, turn_y ax x y)

  index_of_at : (i : ℕ) → index_of (half_at i) (x_at i) (y_at i) ≡ i
  unfolding index_of
  index_of_at i = cc (turn_x ax (u_at s i) (v_at s i), turn_y ax (u_at s i) (v_at s i), index_at s i)

  is_index_of : (k : ℕ) (h : Bool) (x y : ℕ) → SameTri S h x y (half_at k) (x_at k) (y_at k) → k ≡ index_of h x y
  is_index_of k h x y e = cc (index_of_at k, e.0, e.1, e.2)

  same_index : (i k : ℕ) → SameTri S (half_at i) (x_at i) (y_at i) (half_at k) (x_at k) (y_at k) → k ≡ i
  same_index i k e = is_index_of k (half_at i) (x_at i) (y_at i) e ∙ index_of_at i

  runs_index : {h : Bool} {x y a b : ℕ} → Runs S h x y a b → Follows (nth (triangles s) (index_of h x y)) a b
  runs_index {h} {x} {y} r =
      let i = index_of h x y in
      let l = index_of_lt h x y r.cell in
      rw (nth_is i l) (runs_slot i l (rw (half_index_of h x y, x_index_of h x y r.cell, y_index_of h x y r.cell) r))

  holds_index : {h : Bool} {x y a b : ℕ} → Holds S h x y a b → Owns (triangles s) a b (index_of h x y)
  holds_index {h} {x} {y} p =
      record {
        there = omega (arith, count, index_of_lt h x y p.side.cell);
        has = ⊎_elim (λ r. inl (runs_index r)) (λ r. inr (runs_index r)) (holds_runs S p);
      }

  -- ---- sides

  -- on a rim: whoever has the side is triangle i
  owned_once : (a b i : ℕ) → Owns (triangles s) a b i →
      ((h' : Bool) (x' y' : ℕ) → Holds S h' x' y' a b → SameTri S (half_at i) (x_at i) (y_at i) h' x' y') →
      OwnedOnce (triangles s) a b
  owned_once a b i o f =
      record { first = i; owns = o; only = λ k q. same_index i k (f (half_at k) (x_at k) (y_at k) (owns_holds a b k q)) }

  -- elsewhere: whoever has it is triangle i or triangle j
  owned_twice : (a b i : ℕ) → Owns (triangles s) a b i → Other S (half_at i) (x_at i) (y_at i) a b →
      OwnedTwice (triangles s) a b
  owned_twice a b i o t = ⊎_elim in_order out_of_order (lt_or_le i j)
    where
      j : ℕ
      j = index_of t.h₂ t.x₂ t.y₂

      c : Cell S t.x₂ t.y₂
      c = t.holds.side.cell

      o₂ : Owns (triangles s) a b j
      o₂ = holds_index t.holds

      differ : i ≡ j → ⊥
      differ e =
          t.apart (rw e (
            sym (half_index_of t.h₂ t.x₂ t.y₂),
            sym (x_index_of t.h₂ t.x₂ t.y₂ c),
            sym (y_index_of t.h₂ t.x₂ t.y₂ c),
          ))

      either : (k : ℕ) → Owns (triangles s) a b k → (k ≡ i) ⊎ (k ≡ j)
      either k q =
          ⊎_elim
          (λ e. inl (same_index i k e))
          (λ e. inr (is_index_of k t.h₂ t.x₂ t.y₂ e))
          (t.only (half_at k) (x_at k) (y_at k) (owns_holds a b k q))

      in_order : i < j → OwnedTwice (triangles s) a b
      in_order h = record { first = i; second = j; apart = h; owns_first = o; owns_second = o₂; only = either }

      out_of_order : j ≤ i → OwnedTwice (triangles s) a b
      out_of_order h =
          record {
            first = j;
            second = i;
            apart = omega (arith, differ);
            owns_first = o₂;
            owns_second = o;
            only = λ k q. ⊎_elim (λ e. inr e) (λ e. inl e) (either k q);
          }

  three : StepsAround 3 s → ThreeAround S
  unfolding strip
  three around = around_seen 3 ax s around

  sides : StepsAround 3 s → (a b i : ℕ) → Owns (triangles s) a b i →
      (Rim s a b × OwnedOnce (triangles s) a b) ⊎ ((Rim s a b → ⊥) × OwnedTwice (triangles s) a b)
  sides around a b i o =
      ⊎_elim
      (λ w. inl (seen_rim s steps ax seen a b w.0, owned_once a b i o w.1))
      (λ w. inr (λ r. w.0 (rim_seen s steps ax seen a b r), owned_twice a b i o w.1))
      (owned S (three around) (owns_holds a b i o))

  -- each grid edge is a side of a cell, and so of one of its halves
  edges : (u v u' v' : ℕ) → GridEdge s u v u' v' → (i : ℕ) × Owns (triangles s) (J s u v) (J s u' v') i
  edges u v u' v' g =
      let e = edge_seen s steps ax seen u v u' v' g in
      let h = S.half e.side.k e.side.t in
      let p : Holds S h e.x e.y (J s u v) (J s u' v') = record { side = e.side; on = refl } in
      (index_of h e.x e.y, holds_index p)

  -- ---- flipped pairs

  -- the step of the first column on which step y of the last lies
  abbrev on : ℕ → ℕ
  on y = laid_on S.seam S.Y y

  on_lt : (y : ℕ) → y < S.Y → on y < S.Y
  on_lt y h = on_below S.seam S.closed S.Y y S.fits h

  -- the last column of cells
  far : ℕ
  far = S.X - 1

  far_is : far + 1 ≡ S.X
  unfolding far
  far_is = omega (arith, S.X>0)

  -- the triangles that have step y of the first column of points, and of the last
  low_half : Bool
  low_half = S.half straight false

  high_half : Bool
  high_half = S.half straight true

  low_is : (y : ℕ) → low_of ax s y ≡ index_of low_half 0 y
  unfolding index_of low_half strip
  low_is y = low_index s ax y

  high_is : (x y : ℕ) → x + 1 ≡ S.X → high_of ax s y ≡ index_of high_half x y
  unfolding index_of high_half strip
  high_is x y e =
      let last : S.X - 1 ≡ x = omega arith in
      high_index s ax y ∙ ap (λ (z : ℕ). index s (S.half straight true) (x_of ax z y) (y_of ax z y)) last

  low_cell : (y : ℕ) → y < S.Y → Cell S 0 y
  low_cell y h = (S.X>0, h)

  high_cell : (y : ℕ) → y < S.Y → Cell S far y
  high_cell y h = (omega (arith, far_is), h)

  slot_listed : (i : ℕ) → i < slots s → (proper (slot s i) ≡ true) × (triangle_number s i ≡ i)
  slot_listed i h = (slot_proper i h, number_is i h)

  laid : NoneOfTwo s → reversed S.seam ≡ true → AllLaid s S.seam S.Y (low_of ax s) (high_of ax s) on
  unfolding strip
  laid none e =
      record {
        on_is = λ y h. reversed_step S.seam S.closed S.Y y (none_seen ax s none e) S.fits e h;
        on_lt = on_lt;
        low_proper =
            λ y h. slot_listed (low_of ax s y) (omega (arith, low_is y, index_of_lt low_half 0 y (low_cell y h)));
        high_proper =
            λ y h. slot_listed (high_of ax s y)
            (omega (arith, high_is far y far_is, index_of_lt high_half far y (high_cell y h)));
      }

  flipped_reversed : reversed S.seam ≡ true →
      flipped s ≡ process s S.seam S.Y (low_of ax s) (high_of ax s) S.Y []
  unfolding strip
  flipped_reversed e = flipped_seen s ax seen.plain ∙ rw e

  flipped_none : reversed S.seam ≡ false → flipped s ≡ []
  unfolding strip
  flipped_none e = flipped_seen s ax seen.plain ∙ rw e

  -- triangles i and j are at a turn: so they are those of a step of the last column
  abbrev TurnAt : ℕ → ℕ → Type 0
  TurnAt i j = Turn S (half_at i) (x_at i) (y_at i) (half_at j) (x_at j) (y_at j)

  turn_low : (i j : ℕ) → TurnAt i j → i ≡ low_of ax s (on (y_at j))
  unfolding low_half
  turn_low i j t = is_index_of i low_half 0 (on (y_at j)) (t.low_half, t.low_x, t.low_y) ∙ sym (low_is (on (y_at j)))

  turn_high : (i j : ℕ) → TurnAt i j → j ≡ high_of ax s (y_at j)
  unfolding high_half
  turn_high i j t =
      is_index_of j high_half (x_at j) (y_at j) (t.high_half, refl, refl) ∙ sym (high_is (x_at j) (y_at j) t.high_x)

  -- and their pair is in the list
  turn_listed : NoneOfTwo s → (i j : ℕ) → TurnAt i j → Memᴰ (ordered i j) (flipped s)
  turn_listed none i j t =
      mem_in (sym (flipped_reversed t.rev))
      (Memᴰ.cast (cc (turn_low i j t, turn_high i j t))
      (process_from (laid none t.rev) S.Y (omega arith) (y_at j) t.below))

  -- two triangles that run the same way are at a turn, and so a listed pair
  way_flipped : StepsAround 3 s → NoneOfTwo s → (i j : ℕ) → i < j → SameWay (triangles s) i j →
      Memᴰ (pair i j) (flipped s)
  way_flipped around none i j h w =
      ⊎_elim
      (λ t. Memᴰ.cast (pair_eq (pair i j) (ordered i j) (omega arith) (omega arith)) (turn_listed none i j t))
      (λ t. Memᴰ.cast (pair_eq (pair i j) (ordered j i) (omega arith) (omega arith)) (turn_listed none j i t))
      (same_way S (three around) (nth_runs i w.there_i w.along_i) (nth_runs j w.there_j w.along_j)
      (λ e. omega (arith, same_index i j e)))

  way_swap : (i j : ℕ) → SameWay (triangles s) i j → SameWay (triangles s) j i
  way_swap i j w =
      record {
        there_i = w.there_j;
        there_j = w.there_i;
        a = w.a;
        b = w.b;
        along_i = w.along_j;
        along_j = w.along_i;
      }

  -- the two triangles of step y of the last column are at a turn, run the same way, and are two
  step_turn : (y : ℕ) → y < S.Y → reversed S.seam ≡ true → Turn S low_half 0 (on y) high_half far y
  unfolding low_half high_half
  step_turn y h e =
      record { rev = e; below = h; low_half = refl; low_x = refl; low_y = refl; high_half = refl; high_x = far_is }

  step_way : (y : ℕ) → y < S.Y → reversed S.seam ≡ true →
      SameWay (triangles s) (index_of low_half 0 (on y)) (index_of high_half far y)
  step_way y h e =
      let r = turn_shared S (step_turn y h e) in
      record {
        there_i = omega (arith, count, index_of_lt low_half 0 (on y) (low_cell (on y) (on_lt y h)));
        there_j = omega (arith, count, index_of_lt high_half far y (high_cell y h));
        a = r.a;
        b = r.b;
        along_i = runs_index r.one;
        along_j = runs_index r.two;
      }

  step_apart : (y : ℕ) → y < S.Y → reversed S.seam ≡ true → index_of low_half 0 (on y) ≡ index_of high_half far y → ⊥
  step_apart y h r e =
      let first : 0 ≡ far =
      sym (x_index_of low_half 0 (on y) (low_cell (on y) (on_lt y h)))
      ∙ ap x_at e ∙ x_index_of high_half far y (high_cell y h) in
      omega (arith, far_is, S.X≥2 (reversed_joined S.seam r))

  ordered_way : (p : Pair) (i j : ℕ) → p ≡ ordered i j → (i ≡ j → ⊥) → SameWay (triangles s) i j →
      (p.low < p.high) × SameWay (triangles s) p.low p.high
  ordered_way p i j e d w =
      rw e (
        omega (arith, d),
        ⊎_elim (λ (h : i < j). at (omega arith) (omega arith) w)
            (λ (h : j ≤ i). at (omega arith) (omega arith) (way_swap i j w)) (lt_or_le i j),
      )
    where
      at : {a b c d : ℕ} → a ≡ c → b ≡ d → SameWay (triangles s) c d → SameWay (triangles s) a b
      at p q w = rw (p, q) w

  -- so a listed pair, which is that of a step, runs the same way
  flipped_way : NoneOfTwo s → (p : Pair) → Memᴰ p (flipped s) →
      (p.low < p.high) × SameWay (triangles s) p.low p.high
  flipped_way none p q = go (reversed S.seam) refl
    where
      go : (t : Bool) → reversed S.seam ≡ t → (p.low < p.high) × SameWay (triangles s) p.low p.high
      go false e = absurd (Memᴰ.not-nil (mem_in (flipped_none e) q))
      go true e =
          let t = process_to (laid none e) S.Y (omega arith) p (mem_in (flipped_reversed e) q) in
          let y = t.0 in
          let f : p ≡ ordered (index_of low_half 0 (on y)) (index_of high_half far y) =
          t.2 ∙ cc (low_is (on y), high_is far y far_is) in
          ordered_way p (index_of low_half 0 (on y)) (index_of high_half far y) f (step_apart y t.1 e)
          (step_way y t.1 e)

pub covered_meets : (s : Shape) → 0 < s.M → 0 < s.N → Covered s → Meets s
covered_meets s hm hn c =
    let w = covered_along s c in
    record {
      sides = λ around. sides s (steps (two around)) w.0 w.1 around;
      flipped_if = λ around none. way_flipped s (steps (two around)) w.0 w.1 around none;
      flipped_only_if = λ around none. flipped_way s (steps (two around)) w.0 w.1 none;
      edges = λ around. edges s (steps around) w.0 w.1;
    }
  where
    steps : StepsAround 2 s → HasSteps s
    steps around = record { u_some = hm; v_some = hn; around = around }

    two : StepsAround 3 s → StepsAround 2 s
    two around = (λ e. let h = around.0 e in omega arith, λ e. let h = around.1 e in omega arith)

-- J of a point by its number
J-number : (s : Shape) (u v : ℕ) → v ≤ s.N → Jₙ s (u * (s.N + 1) + v) ≡ J s u v
unfolding Jₙ
J-number s u v h = let k : v < s.N + 1 = omega arith in rw (digits_div u k, digits_mod u k)

-- Rules 7.2: p and q, as a trace hands them out: the numbers of the two ends of a grid edge
pub record EdgeNumbers (s : Shape) (p q : ℕ) : Type 0 where
  pub u : ℕ
  pub v : ℕ
  pub u' : ℕ
  pub v' : ℕ
  pub edge : GridEdge s u v u' v'
  pub p_is : p ≡ number s (at u v)
  pub q_is : q ≡ number s (at u' v')

-- what a trace records: J of the two numbers are the ends of a side
pub traced : (s : Shape) → Meets s → StepsAround 2 s → (p q : ℕ) → EdgeNumbers s p q →
    (i : ℕ) × Owns (triangles s) (Jₙ s p) (Jₙ s q) i
traced s m around p q e =
    let r = m.edges around e.u e.v e.u' e.v' e.edge in
    let b = bounds e.u e.v e.u' e.v' e.edge in
    let jp : Jₙ s p ≡ J s e.u e.v = ap (Jₙ s) e.p_is ∙ J-number s e.u e.v b.0 in
    let jq : Jₙ s q ≡ J s e.u' e.v' = ap (Jₙ s) e.q_is ∙ J-number s e.u' e.v' b.1 in
    (r.0, rw (jp, jq) r.1)
  where
    bounds : (u v u' v' : ℕ) → GridEdge s u v u' v' → (v ≤ s.N) × (v' ≤ s.N)
    bounds u v u' v' (along_u h k) = (k, k)
    bounds u v u' v' (along_v h k) = omega arith
    bounds u v u' v' (falls h k d) = omega arith
    bounds u v u' v' (rises h k d) = omega arith
