-- The list of triangles: a slot emits one at most; slot 2·(u·N + v) + h is half h of cell (u, v) and no other; and
-- where every slot emits its triangle, slot i is triangle i.
use Prim.Native.Nat.{ℕ, zero, suc, ◌+◌, ◌*◌, ◌/◌, ◌%◌, ◌≤◌, ◌<◌}
use mathlib.Core.Path.{◌≡◌, refl, sym, ◌∙◌}
use mathlib.Core.Logic.{⊎_elim}
use mathlib.Core.Bool.{Bool, true, false, cond}
use mathlib.Core.List.{[], ◌∷◌, ◌++◌}
use native.Mathlib.Numerals.{add-one}
use native.Mathlib.Omega.{arith}
use native.Mathlib.Nat.{mod-lt, div-add-mod', div-lt_iff_lt-mul, eq-or-lt_of_le}
use lib.Dec.{eqb}
use lib.Arith.{digits_div, digits_mod, digits_lt}
use lib.Seq.{get_or_at}
use lib.ListN.{length, length-append, get_or-append}
use borrow.Author.Tests.{eq-eqb, ne_eqb}
use Rattle.basics.proofs.Tests.{cond_keeps}
use Rattle.basics.proofs.Numbers.{eqb_cases, lt_or_le}
use Rattle.surface.specs.Surface.{Shape, tri, half_of, slot, slots, proper, kept, triangles, triangle_number, nth}

-- ---- of any shape

-- what one slot adds
kept_more : (s : Shape) (n : ℕ) → length (kept s (suc n)) ≡ length (kept s n) + cond (proper (slot s n)) 1 0
unfolding kept
kept_more s n = length-append (kept s n) _ ∙ rw (go (proper (slot s n)))
  where
    go : (t : Bool) → length (cond t (slot s n ∷ []) []) ≡ cond t 1 0
    go true = refl
    go false = refl

one_at_most : (t : Bool) → cond t 1 0 ≤ 1
one_at_most t = cond_keeps (λ (z : ℕ). z ≤ 1) t 1 0 (omega arith) (omega arith)

pub kept_at_most : (s : Shape) (n : ℕ) → length (kept s n) ≤ n
unfolding kept
kept_at_most s zero = omega arith
kept_at_most s (suc n) = omega (arith, kept_more s n, one_at_most (proper (slot s n)), kept_at_most s n)

-- numbers of triangles, as counts of the slots before
pub number_most : (s : Shape) (k : ℕ) → triangle_number s k ≤ k
unfolding triangle_number
number_most s k = kept_at_most s k

pub number_more : (s : Shape) (k : ℕ) → triangle_number s (k + 1) ≡ triangle_number s k + cond (proper (slot s k)) 1 0
unfolding triangle_number
number_more s k = rw add-one (kept_more s k)

-- the number of a triangle from the count after it
pub number_before : (s : Shape) (k x : ℕ) → x ≡ triangle_number s (k + 1) → proper (slot s k) ≡ true →
    x ≡ triangle_number s k + 1
number_before s k x e p = e ∙ number_more s k ∙ rw p

pub triangles_at_most : (s : Shape) → length (triangles s) ≤ 2 * (s.M * s.N)
unfolding triangles slots
triangles_at_most s = kept_at_most s (2 * (s.M * s.N))

kept_grows : (s : Shape) (i n : ℕ) → i ≤ n → length (kept s i) ≤ length (kept s n)
kept_grows s i zero h = let e : i ≡ 0 = omega arith in rw e (omega arith)
kept_grows s i (suc n) h =
    ⊎_elim
    (λ (e : i ≡ suc n). rw e (omega arith))
    (λ (l : i < suc n). omega (arith, kept_more s n, kept_grows s i n (omega arith)))
    (eq-or-lt_of_le h)

-- a slot that emits its triangle has a number of the list
pub number_below : (s : Shape) (i : ℕ) → i < slots s → proper (slot s i) ≡ true →
    triangle_number s i < length (triangles s)
unfolding triangle_number triangles
number_below s i h e =
    let more : length (kept s (suc i)) ≡ length (kept s i) + 1 = kept_more s i ∙ rw e in
    let up : suc i ≤ slots s = omega arith in
    omega (arith, kept_grows s (suc i) (slots s) up)

-- ---- where every slot emits its triangle

kept_step : (s : Shape) (n : ℕ) → proper (slot s n) ≡ true → kept s (suc n) ≡ kept s n ++ (slot s n ∷ [])
unfolding kept
kept_step s n e = rw e

pub kept_length : (s : Shape) (n : ℕ) → ((i : ℕ) → i < n → proper (slot s i) ≡ true) → length (kept s n) ≡ n
unfolding kept
kept_length s zero h = refl
kept_length s (suc n) h =
    let more : length (kept s (suc n)) ≡ length (kept s n) + 1 = kept_more s n ∙ rw (h n (omega arith)) in
    omega (arith, kept_length s n (λ i k. h i (omega arith)))

pub kept_at : (s : Shape) (n i : ℕ) → ((i : ℕ) → i < n → proper (slot s i) ≡ true) → i < n → nth (kept s n) i ≡ slot s i
unfolding kept
kept_at s zero i h k = absurd (omega arith)
kept_at s (suc n) i h k =
    let len : length (kept s n) ≡ n = kept_length s n (λ j q. h j (omega arith)) in
    rw (kept_step s n (h n (omega arith)))
    (⊎_elim
    (λ (l : i < n). get_or-append (kept s n) (slot s n ∷ []) (tri 0 0 0) i (omega arith)
    ∙ kept_at s n i (λ j q. h j (omega arith)) l)
    (λ (l : n ≤ i). let e : i ≡ n = omega arith in rw e (get_or_at (kept s n) (slot s n) [] (tri 0 0 0) n len))
    (lt_or_le i n))

-- ---- slots, halves and cells

abbrev pub half_num : Bool → ℕ
half_num false = 0
half_num true = 1

-- the slot of half h of cell (u, v)
unfoldable pub index : Shape → Bool → ℕ → ℕ → ℕ
index s h u v = 2 * (u * s.N + v) + half_num h

-- and back: the half, the u and the v of slot i
pub half_at : ℕ → Bool
half_at i = eqb (i % 2) 1

pub u_at : Shape → ℕ → ℕ
u_at s i = i / 2 / s.N

pub v_at : Shape → ℕ → ℕ
v_at s i = i / 2 % s.N

half_num_at : (i : ℕ) → half_num (half_at i) ≡ i % 2
unfolding half_at
half_num_at i = ⊎_elim (λ w. rw w.0 (sym w.1)) (λ w. let n = w.1 in rw w.0 (omega arith)) (eqb_cases (i % 2) 1)

pub slot_at : (s : Shape) (i : ℕ) → slot s i ≡ half_of s s.split (half_num (half_at i)) (u_at s i) (v_at s i)
unfolding slot u_at v_at
slot_at s i = rw (half_num_at i)

pub u_at_lt : (s : Shape) (i : ℕ) → 0 < s.N → i < slots s → u_at s i < s.M
unfolding u_at slots
u_at_lt s i z h = (div-lt_iff_lt-mul z).1 (omega arith)

pub v_at_lt : (s : Shape) (i : ℕ) → 0 < s.N → v_at s i < s.N
unfolding v_at
v_at_lt s i z = mod-lt (i / 2) z

pub index_at : (s : Shape) (i : ℕ) → index s (half_at i) (u_at s i) (v_at s i) ≡ i
unfolding index u_at v_at
index_at s i = omega (arith, half_num_at i, div-add-mod' (i / 2) s.N)

pub index_lt : (s : Shape) (h : Bool) (u v : ℕ) → u < s.M → v < s.N → index s h u v < slots s
unfolding index slots
index_lt s h u v p q = omega (arith, digits_lt p q, le h)
  where
    le : (h : Bool) → half_num h ≤ 1
    le true = omega arith
    le false = omega arith

index_half : (s : Shape) (h : Bool) (u v : ℕ) → index s h u v / 2 ≡ u * s.N + v
unfolding index
index_half s true u v = omega arith
index_half s false u v = omega arith

pub u_at_index : (s : Shape) (h : Bool) (u v : ℕ) → v < s.N → u_at s (index s h u v) ≡ u
unfolding u_at
u_at_index s h u v q = rw (index_half s h u v) (digits_div u q)

pub v_at_index : (s : Shape) (h : Bool) (u v : ℕ) → v < s.N → v_at s (index s h u v) ≡ v
unfolding v_at
v_at_index s h u v q = rw (index_half s h u v) (digits_mod u q)

pub half_at_index : (s : Shape) (h : Bool) (u v : ℕ) → half_at (index s h u v) ≡ h
unfolding half_at index
half_at_index s true u v = eq-eqb ((2 * (u * s.N + v) + 1) % 2) 1 (omega arith)
half_at_index s false u v = ne_eqb ((2 * (u * s.N + v) + 0) % 2) 1 (λ e. omega arith)
