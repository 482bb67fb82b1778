-- What a list of numbers holds, as numbers; a triangle added, a pair put in, and where a pair belongs.
use Prim.Native.Nat.{ℕ, zero, suc, ◌+◌, ◌*◌, ◌≤◌, ◌<◌}
use mathlib.Core.Path.{◌≡◌, refl, ◌∙◌}
use mathlib.Core.List.{List, [], ◌∷◌, ◌++◌, append_assoc}
use native.Mathlib.Omega.{arith}
use native.Mathlib.Numerals.{add-one}
use lib.ListN.{length, get_or, take, drop, set, length-set, take-append-drop, drop_of_length-le}
use lib.Seq.{take-suc, drop-cons, append_snoc}
use borrow.Rule.Slice.PartMut.{put_mid}
use Rattle.std.proofs.lemmas.List.{places}
use Rattle.std.proofs.lemmas.Bool.Decides.{nat_tests}
use Rattle.std.specs.Ordering.{nat_cmp, ordering_then}
use Rattle.std.specs.declared.cmp.Ordering.{Ordering}
use Rattle.std.specs.declared.cmp.Ordering.TheVariants.{Less, Equal, Greater}
use Rattle.basics.specs.Lists.{put_at}
use Rattle.surface.specs.Surface.{Triangle, tri, Pair, insert, pair}
use Rattle.mesh.specs.Mesh.{triangle_numbers, pair_numbers}
use Rattle.mesh.specs.Held.{firsts, triangle_at, triangles_in, pair_at, pairs_in}
use Rattle.mesh.proofs.Firsts.{length_firsts, firsts_same, get_d_firsts, firsts_put}

-- One, two and three places further

take_one : (l : List ℕ) (i : ℕ) → i < length l → take (i + 1) l ≡ take i l ++ (get_or l i 0 ∷ [])
take_one l i h = rw (add-one, take-suc l i 0)

take_two : (l : List ℕ) (i : ℕ) → i + 2 ≤ length l → take (i + 2) l ≡ take i l ++ (get_or l i 0 ∷ get_or l (i + 1) 0 ∷ [])
take_two l i h =
    let e : i + 2 ≡ i + 1 + 1 = omega arith in
    rw (e, take_one l (i + 1) (omega arith), take_one l i (omega arith), append_assoc)

take_three : (l : List ℕ) (i : ℕ) → i + 3 ≤ length l →
    take (i + 3) l ≡ take i l ++ (get_or l i 0 ∷ get_or l (i + 1) 0 ∷ get_or l (i + 2) 0 ∷ [])
take_three l i h =
    let e : i + 3 ≡ i + 2 + 1 = omega arith in
    rw (e, take_one l (i + 2) (omega arith), take_two l i (omega arith), append_assoc)

-- Triangles

triangles_last : (ts : List Triangle) (t : Triangle) →
    triangle_numbers (ts ++ (t ∷ [])) ≡ triangle_numbers ts ++ (t.a ∷ t.b ∷ t.c ∷ [])
unfolding triangle_numbers
triangles_last [] t = refl
triangles_last (x ∷ ts) t = rw (triangles_last ts t)

-- the numbers of the first k triangles are the first 3·k numbers
pub triangles_held : (k : ℕ) (l : List ℕ) → 3 * k ≤ length l → triangle_numbers (triangles_in k l) ≡ take (3 * k) l
unfolding firsts triangle_numbers
triangles_held zero l h = refl
triangles_held (suc k) l h =
    let e : 3 * suc k ≡ 3 * k + 3 = omega arith in
    rw (
      e,
      take_three l (3 * k) (omega arith),
      triangles_last (triangles_in k l) (triangle_at l k),
      triangles_held k l (omega arith),
    )

-- k numbers, those of ys, written into l from place i on

module _ (i k : ℕ) (l ys : List ℕ) (n : length ys ≡ k) (room : i + k ≤ length l) where
  put_below : (j : ℕ) → j < i → get_or (put_mid i k l ys) j 0 ≡ get_or l j 0
  put_below j h = grind (arith, places)

  put_here : (j p : ℕ) → p ≡ i + j → j < k → get_or (put_mid i k l ys) p 0 ≡ get_or ys j 0
  put_here j p e h = grind (arith, places)

  put_past : (j : ℕ) → i + k ≤ j → get_or (put_mid i k l ys) j 0 ≡ get_or l j 0
  put_past j h = grind (arith, places)

-- a triangle written after the first k
pub triangle_added : (k w : ℕ) (l ys : List ℕ) (a b c : ℕ) → w ≡ 3 → ys ≡ a ∷ b ∷ c ∷ [] → 3 * k + 3 ≤ length l →
    triangles_in (k + 1) (put_mid (3 * k) w l ys) ≡ triangles_in k l ++ (tri a b c ∷ [])
unfolding firsts
triangle_added k w l ys a b c p q h = rw (p, q) (rw (add-one k, init, first, second, third))
  where
    t : List ℕ
    t = a ∷ b ∷ c ∷ []

    l' : List ℕ
    l' = put_mid (3 * k) 3 l t

    below : (j : ℕ) → j < 3 * k → get_or l' j 0 ≡ get_or l j 0
    below = put_below (3 * k) 3 l t refl h

    init : triangles_in k l' ≡ triangles_in k l
    init =
        firsts_same (triangle_at l') (triangle_at l) k
        (λ i q. rw (below (3 * i) (omega arith), below (3 * i + 1) (omega arith), below (3 * i + 2) (omega arith)))

    first : get_or l' (3 * k) 0 ≡ a
    first = put_here (3 * k) 3 l t refl h 0 (3 * k) (omega arith) (omega arith)

    second : get_or l' (3 * k + 1) 0 ≡ b
    second = put_here (3 * k) 3 l t refl h 1 (3 * k + 1) refl (omega arith)

    third : get_or l' (3 * k + 2) 0 ≡ c
    third = put_here (3 * k) 3 l t refl h 2 (3 * k + 2) refl (omega arith)

-- Pairs

pairs_last : (ps : List Pair) (p : Pair) → pair_numbers (ps ++ (p ∷ [])) ≡ pair_numbers ps ++ (p.low ∷ p.high ∷ [])
unfolding pair_numbers
pairs_last [] p = refl
pairs_last (x ∷ ps) p = rw (pairs_last ps p)

-- the numbers of the first k pairs are the first 2·k numbers
pub pairs_held : (k : ℕ) (l : List ℕ) → 2 * k ≤ length l → pair_numbers (pairs_in k l) ≡ take (2 * k) l
unfolding firsts pair_numbers
pairs_held zero l h = refl
pairs_held (suc k) l h =
    let e : 2 * suc k ≡ 2 * k + 2 = omega arith in
    rw (e, take_two l (2 * k) (omega arith), pairs_last (pairs_in k l) (pair_at l k), pairs_held k l (omega arith))

-- how p stands to q, as the code compares them
abbrev pub order : Pair → Pair → Ordering
order p q = ordering_then (nat_cmp p.low q.low) (nat_cmp p.high q.high)

insert_front : (p q : Pair) (qs : List Pair) → order p q ≡ Less → insert p (q ∷ qs) ≡ p ∷ q ∷ qs
insert_front p q qs h = grind (arith, nat_tests)

insert_alike : (p q : Pair) (qs : List Pair) → order p q ≡ Equal → insert p (q ∷ qs) ≡ q ∷ qs
insert_alike p q qs h = grind (arith, nat_tests)

insert_behind : (p q : Pair) (qs : List Pair) → order p q ≡ Greater → insert p (q ∷ qs) ≡ q ∷ insert p qs
insert_behind p q qs h = grind (arith, nat_tests)

-- the pairs before index i stand before p
abbrev pub PassedTo : ℕ → Pair → List Pair → Type 0
PassedTo i p ps = insert p ps ≡ take i ps ++ insert p (drop i ps)

module _ (f : ℕ → Pair) (k i : ℕ) (p : Pair) (h : i < k) (passed : PassedTo i p (firsts f k)) where
  here : drop i (firsts f k) ≡ f i ∷ drop (suc i) (firsts f k)
  here = rw (drop-cons (firsts f k) i (f i) (omega (arith, length_firsts f k)), get_d_firsts f k i (f i) h)

  so_far : take (suc i) (firsts f k) ≡ take i (firsts f k) ++ (f i ∷ [])
  so_far = rw (take-suc (firsts f k) i (f i) (omega (arith, length_firsts f k)), get_d_firsts f k i (f i) h)

  pub spot_before : order p (f i) ≡ Less → insert p (firsts f k) ≡ put_at i p (firsts f k)
  spot_before e = rw (passed, here, insert_front p (f i) (drop (suc i) (firsts f k)) e)

  pub spot_there : order p (f i) ≡ Equal → insert p (firsts f k) ≡ firsts f k
  spot_there e =
      rw (passed, here, insert_alike p (f i) (drop (suc i) (firsts f k)) e, ← here) (take-append-drop i (firsts f k))

  pub spot_on : order p (f i) ≡ Greater → PassedTo (i + 1) p (firsts f k)
  spot_on e = rw (add-one, so_far, append_snoc, passed, here, insert_behind p (f i) (drop (suc i) (firsts f k)) e)

pub spot_end : (f : ℕ → Pair) (k : ℕ) (p : Pair) → PassedTo k p (firsts f k) →
    insert p (firsts f k) ≡ put_at k p (firsts f k)
spot_end f k p passed =
    let none = drop_of_length-le (firsts f k) {i = k} (omega (arith, length_firsts f k)) in
    passed ∙ rw none

pub ruleset spots = (length_firsts, spot_before, spot_there, spot_on, spot_end)

-- A pair written into the gap before index i
module _ (l l₀ ys : List ℕ) (k i w low high : ℕ) (within : i ≤ k) (room : 2 * k + 2 ≤ length l)
    (below : (j : ℕ) → j < 2 * i → get_or l j 0 ≡ get_or l₀ j 0)
    (moved : (j : ℕ) → 2 * i ≤ j → j < 2 * k → get_or l (j + 2) 0 ≡ get_or l₀ j 0) where
  abbrev l' : List ℕ
  l' = put_mid (2 * i) 2 l (low ∷ high ∷ [])

  fits : 2 * i + 2 ≤ length l
  fits = omega arith

  -- the numbers below the gap, and past it
  stays : (j : ℕ) → j < 2 * i → get_or l' j 0 ≡ get_or l₀ j 0
  stays j h = put_below (2 * i) 2 l (low ∷ high ∷ []) refl fits j h ∙ below j h

  moves : (j p : ℕ) → p ≡ j + 2 → 2 * i ≤ j → j < 2 * k → get_or l' p 0 ≡ get_or l₀ j 0
  moves j p e h q = rw e (put_past (2 * i) 2 l (low ∷ high ∷ []) refl fits (j + 2) (omega arith) ∙ moved j h q)

  before_it : (j : ℕ) → j < i → pair_at l' j ≡ pair_at l₀ j
  before_it j h = rw (stays (2 * j) (omega arith), stays (2 * j + 1) (omega arith))

  itself : pair_at l' i ≡ pair low high
  itself =
      rw (
        put_here (2 * i) 2 l (low ∷ high ∷ []) refl fits 0 (2 * i) (omega arith) (omega arith),
        put_here (2 * i) 2 l (low ∷ high ∷ []) refl fits 1 (2 * i + 1) refl (omega arith),
      )

  after_it : (j : ℕ) → i ≤ j → j < k → pair_at l' (suc j) ≡ pair_at l₀ j
  after_it j h q =
      rw (
        moves (2 * j) (2 * suc j) (omega arith) (omega arith) (omega arith),
        moves (2 * j + 1) (2 * suc j + 1) (omega arith) (omega arith) (omega arith),
      )

  pub pair_put : w ≡ 2 → ys ≡ low ∷ high ∷ [] →
      pairs_in (k + 1) (put_mid (2 * i) w l ys) ≡ put_at i (pair low high) (pairs_in k l₀)
  pair_put p q =
      rw (p, q, add-one k)
      (firsts_put (pair_at l₀) (pair_at l') k i (pair low high) within before_it itself after_it)

pub ruleset puts = (length_firsts, length-set, pair_put)
