-- What is left of a search after a comparison, an offset or the last offset: the loops' invariants say that the whole
-- answer is the answer of what is left.
use Rattle.std.specs.Prelude.{Some, None}
use Prim.Native.Nat.{ℕ, zero, suc, ◌+◌, ◌-◌, ◌*◌, ◌≤◌, ◌<◌}
use native.Mathlib.Nat.{eq-or-lt_of_le}
use native.Mathlib.Numerals.{add-one}
use native.Mathlib.Omega.{arith}
use mathlib.Core.Path.{◌≡◌, refl, sym, ◌∙◌}
use mathlib.Core.Logic.{⊎_elim}
use mathlib.Core.Bool.{true, false, cond}
use mathlib.Core.List.{List, [], ◌∷◌}
use lib.Ieee.{Float, le}
use lib.ListN.{length, get_or, drop}
use Rattle.float.specs.Consts.{eps}
use Rattle.vector.proofs.Close.{close_coarser}
use Rattle.cyclic.specs.declared.mapping.CyclicMapping.{CyclicMapping}
use Rattle.cyclic.specs.declared.mapping.CyclicMapping.TheVariants.{Forward, Reverse}
use Rattle.cyclic.specs.declared.seam.SeamSearch.{SeamSearch}
use Rattle.cyclic.specs.declared.seam.Tried.{Tried}
use Rattle.cyclic.specs.Mapping.{image, offset_of, steps_of, HasIndex}
use Rattle.cyclic.specs.Search.{Row, Closeness, close_at, tried, searched, try_from, closed, search_from, search_rows}
use Rattle.cyclic.proofs.Mappings.{image_within, first_image}
use Rattle.cyclic.proofs.Laws.{CloseAt, offsets_most, ends_most}

-- all points tried at m, after c comparisons, give t
abbrev pub Tries : Closeness → Row → Row → CyclicMapping → ℕ → Tried → Type 0
Tries close a b m c t = try_from close a b m (steps_of m + 1) 0 c ≡ t

-- the first r points of a are close to their images
abbrev pub Run : Closeness → Row → Row → CyclicMapping → ℕ → Type 0
Run close a b m r = (j : ℕ) → j < r → CloseAt close a b m j

-- Point j of a is next, with point k of b
pub record Trying (close : Closeness) (a b : Row) (m : CyclicMapping) (j k : ℕ) : Type 0 where
  pub index : HasIndex m j
  pub other : k ≤ steps_of m
  pub mapped : k ≡ image m j
  pub run : Run close a b m j

-- Offset o of those below e is next, after c comparisons
pub record Searching (close : Closeness) (a b : Row) (n e c o : ℕ) : Type 0 where
  pub offset : o ≤ e
  pub ends : e ≤ n
  pub counted : c ≤ 131072 * o + 2
  pub rest : search_rows close a b n ≡ search_from close a b n (e - o) o c

-- what is left of the search where the mappings ms are left at offset o of those below e
pub untried : Closeness → Row → Row → ℕ → ℕ → ℕ → List CyclicMapping → ℕ → SeamSearch
untried close a b n e o [] c = search_from close a b n (e - (o + 1)) (o + 1) c
untried close a b n e o (m ∷ ms) c =
    let t = try_from close a b m (n + 1) 0 c in
    cond t.fits (searched (Some m) t.made) (untried close a b n e o ms t.made)

-- at offset o of those below e the mappings ms are left, after c comparisons
pub record Turning (close : Closeness) (a b : Row) (n e c o : ℕ) (ms : List CyclicMapping) : Type 0 where
  pub offset : o < e
  pub ends : e ≤ n
  pub counted : c + 65536 * length ms ≤ 131072 * (o + 1) + 2
  pub rest : search_rows close a b n ≡ untried close a b n e o ms c

-- both mappings at an offset, in the order of the search
abbrev pub both : ℕ → ℕ → List CyclicMapping
both n o = Forward o n ∷ Reverse o n ∷ []

-- the one that is tried at turn i
abbrev pub turn : ℕ → ℕ → ℕ → CyclicMapping
turn n o i = get_or (both n o) i (Forward 0 0)

turn_is : (n o i : ℕ) → i < 2 → (offset_of (turn n o i) ≡ o) × (steps_of (turn n o i) ≡ n)
turn_is n o zero l = (refl, refl)
turn_is n o (suc zero) l = (refl, refl)
turn_is n o (suc (suc i)) l = absurd (omega arith)

turns_left : (n o i : ℕ) → i < 2 → drop i (both n o) ≡ turn n o i ∷ drop (i + 1) (both n o)
turns_left n o zero l = refl
turns_left n o (suc zero) l = refl
turns_left n o (suc (suc i)) l = absurd (omega arith)

turn_has : (n o i j : ℕ) → i < 2 → n ≤ 65535 → o < n → j ≤ n → HasIndex (turn n o i) j
turn_has n o i j l most below h = let own = turn_is n o i l in (omega arith, omega arith, omega arith)

module _ (close : Closeness) (a b : Row) where
  -- one comparison that holds
  passes : (m : CyclicMapping) (k j c : ℕ) → CloseAt close a b m j →
      try_from close a b m (suc k) j c ≡ try_from close a b m k (j + 1) (c + 1)
  unfolding try_from
  passes m k j c h = rw h

  -- the points that are known to be close, passed over
  known_tried : (m : CyclicMapping) (c k r : ℕ) → Run close a b m r →
      try_from close a b m (r + k) 0 c ≡ try_from close a b m k r (c + r)
  known_tried m c k zero f =
      let x : 0 + k ≡ k = omega arith in
      let y : c + 0 ≡ c = omega arith in
      rw (x, y)
  known_tried m c k (suc r) f =
      let x : suc r + k ≡ r + suc k = omega arith in
      let y : c + suc r ≡ c + r + 1 = omega arith in
      rw (x, y, ← add-one r)
      (known_tried m c (suc k) r (λ j h. f j (omega arith)) ∙ passes m k r (c + r) (f r (omega arith)))

  pub longer_run : (m : CyclicMapping) (r : ℕ) → Run close a b m r → CloseAt close a b m r → Run close a b m (r + 1)
  longer_run m r f h j l = ⊎_elim (λ e. rw e h) (λ g. f j g) (eq-or-lt_of_le {n = j} {m = r} (omega arith))

-- two points more, which are close by EPS, where that is not above the tolerance
pub two_longer : (a b : Row) (m : CyclicMapping) (t : Float) (j k : ℕ) → le eps t ≡ true → Run (close_at t) a b m j →
    CloseAt (close_at eps) a b m j → CloseAt (close_at eps) a b m (j + 1) → k ≤ j + 2 → Run (close_at t) a b m k
two_longer a b m t j k l f g h most i below =
    let coarser = λ (i : ℕ). close_coarser (a i) (b (image m i)) eps t l in
    longer_run (close_at t) a b m (j + 1) (longer_run (close_at t) a b m j f (coarser j g)) (coarser (j + 1) h) i
    (omega arith)

module _ {close : Closeness} {a b : Row} where
  -- all points tried at m, after c comparisons, where point j is the first that is not close, or the last of all
  module _ {m : CyclicMapping} {j k : ℕ} (c : ℕ) (t : Trying close a b m j k) where
    pub far_point : close (a j) (b k) ≡ false → Tries close a b m c (tried false (c + (j + 1)))
    unfolding try_from
    far_point h =
        let x : steps_of m + 1 ≡ j + suc (steps_of m - j) = omega arith in
        let y : c + (j + 1) ≡ c + j + 1 = omega arith in
        let g : close (a j) (b (image m j)) ≡ false = rw t.mapped at h in
        rw x (known_tried close a b m c (suc (steps_of m - j)) j t.run ∙ rw (g, y))

    pub last_point : j ≡ steps_of m → close (a j) (b k) ≡ true → Tries close a b m c (tried true (c + steps_of m + 1))
    unfolding try_from
    last_point l h =
        let g : close (a j) (b (image m j)) ≡ true = rw t.mapped at h in
        rw (← l) (known_tried close a b m c 1 j t.run ∙ rw g)

  -- the point that is compared next
  pub point_after : {m : CyclicMapping} {j k : ℕ} → HasIndex m j → k ≡ image m j → Run close a b m j →
      Trying close a b m j k
  point_after {m} {j} u e f = record { index = u; other = rw e (image_within m j u); mapped = e; run = f }

  -- mapping i of the two at an offset: past the run at offset 0, and point 0 elsewhere
  pub past_run : {n o i j k : ℕ} → i < 2 → n ≤ 65535 → o < n → j ≤ n → k ≡ image (turn n o i) j →
      Run close a b (turn n o i) j → Trying close a b (turn n o i) j k
  past_run {n} {o} {i} {j} l most below h e f = point_after (turn_has n o i j l most below h) e f

  pub first_point : {n o i j k : ℕ} → i < 2 → n ≤ 65535 → o < n → (o ≡ 0 → ⊥) → j ≡ 0 → k ≡ o →
      Trying close a b (turn n o i) j k
  first_point {n} {o} {i} l most below f z e =
      let m = turn n o i in
      let own : offset_of m ≡ o = (turn_is n o i l).0 in
      let has = turn_has n o i 0 l most below (omega arith) in
      rw z (point_after has (e ∙ sym own ∙ first_image m has (omega arith)) (λ j l. absurd (omega arith)))

  -- that point is of the row
  pub within : {n i j k : ℕ} (o : ℕ) → i < 2 → Trying close a b (turn n o i) j k → j ≤ n
  within {n} {i} o l t = omega (arith, t.index, turn_is n o i l)

  -- and the one after it, with the image that follows
  pub next_point : {n i j k h : ℕ} (o : ℕ) → i < 2 → Trying close a b (turn n o i) j k → close (a j) (b k) ≡ true →
      j < n → ((p : ℕ) → p < steps_of (turn n o i) → k ≡ image (turn n o i) p → h ≡ image (turn n o i) (p + 1)) →
      Trying close a b (turn n o i) (j + 1) h
  next_point {n} {i} {j} o l t h f next =
      let m = turn n o i in
      let below : j < steps_of m = omega (arith, turn_is n o i l) in
      point_after (t.index.0, t.index.1, omega arith) (next j below t.mapped)
      (longer_run close a b m j t.run (rw t.mapped at h))

  -- t is the answer of the test of the ends
  pub first_offset : {n e : ℕ} {t : Tried} → 1 ≤ n → t ≡ closed close a b n → e ≡ cond t.fits n 1 →
      Searching close a b n e t.made 0
  unfolding search_rows
  first_offset {n} {e} {t} l h f =
      let z : e - 0 ≡ e = omega arith in
      let most : t.made ≤ 2 = rw h (ends_most close a b n) in
      record {
        offset = omega arith;
        ends = rw f (offsets_most n t.fits l);
        counted = omega arith;
        rest = rw (← h, z, f);
      }

  module _ {n e o c : ℕ} (s : Searching close a b n e c o) where
    pub no_offset : o ≡ e → search_rows close a b n ≡ searched None c
    unfolding search_from
    no_offset l =
        let x : e - o ≡ 0 = omega arith in
        s.rest ∙ rw x

    pub both_left : (o ≡ e → ⊥) → Turning close a b n e c o (both n o)
    unfolding search_from untried
    both_left l =
        let x : e - o ≡ suc (e - (o + 1)) = omega arith in
        record { offset = omega arith; ends = s.ends; counted = omega arith; rest = s.rest ∙ rw x }

  pub none_left : {n e o c : ℕ} → Turning close a b n e c o [] → Searching close a b n e c (o + 1)
  unfolding untried
  none_left t = record { offset = omega arith; ends = t.ends; counted = omega arith; rest = t.rest }

  -- mapping i of the two at an offset, and point j of a with point k of b
  module _ {n end o c i j k : ℕ} (l : i < 2) (s : Turning close a b n end c o (drop i (both n o)))
      (t : Trying close a b (turn n o i) j k) where
    pub next_mapping : close (a j) (b k) ≡ false → Turning close a b n end (c + (j + 1)) o (drop (i + 1) (both n o))
    unfolding untried
    next_mapping h =
        let own = turn_is n o i l in
        let left : Turning close a b n end c o (turn n o i ∷ drop (i + 1) (both n o)) = rw (turns_left n o i l) at s in
        let all : try_from close a b (turn n o i) (n + 1) 0 c ≡ tried false (c + (j + 1)) =
        rw own.1 at (far_point c t h) in
        record {
          offset = s.offset;
          ends = s.ends;
          counted = omega (arith, left.counted, t.index, own.1);
          rest = left.rest ∙ rw all refl;
        }

    pub mapping_fits : j ≡ n → close (a j) (b k) ≡ true →
        search_rows close a b n ≡ searched (Some (turn n o i)) (c + n + 1)
    unfolding untried
    mapping_fits e h =
        let own = turn_is n o i l in
        let left : Turning close a b n end c o (turn n o i ∷ drop (i + 1) (both n o)) = rw (turns_left n o i l) at s in
        let all : try_from close a b (turn n o i) (n + 1) 0 c ≡ tried true (c + n + 1) =
        rw own.1 at (last_point c t (e ∙ sym own.1) h) in
        left.rest ∙ rw all refl
