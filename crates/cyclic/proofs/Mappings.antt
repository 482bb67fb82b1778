-- Where a mapping takes an index, said without `%`; that `image` and `inverse` undo each other; and the image of
-- the next index. An index is at most steps and an offset below them, so each sum passes steps at most once; the
-- rest is arithmetic modulo steps.
use Prim.Native.Nat.{ℕ, ◌+◌, ◌-◌, ◌%◌, ◌≤◌, ◌<◌}
use native.Mathlib.Nat.{eq-zero-or-pos, eq-or-lt_of_le, mod-lt, mod_self, mod-eq_of_lt, mod-eq-sub-mod, mod-add-mod}
use native.Mathlib.Nat.{add-mod-mod, add-mod_right}
use native.Mathlib.Omega.{arith}
use mathlib.Core.Path.{◌≡◌, refl, ◌∙◌}
use mathlib.Core.Logic.{◌⊎◌, inl, inr, ⊎_elim}
use mathlib.Core.Bool.{Bool, true, false, not, ◌&&◌, and-false, cond}
use lib.Dec.{eqb, ltb, leb}
use borrow.Author.Tests.{ltb-true, ltb-false, leb-true, eq-eqb, ne_eqb}
use Rattle.basics.proofs.Tests.{and_both}
use Rattle.cyclic.specs.declared.mapping.CyclicMapping.{CyclicMapping}
use Rattle.cyclic.specs.declared.mapping.CyclicMapping.TheVariants.{Forward, Reverse}
use Rattle.cyclic.specs.Mapping.{image, inverse, offset_of, steps_of, is_reverse, usable, HasIndex}

-- one of three
abbrev OneOf : Type 0 → Type 0 → Type 0 → Type 0
OneOf a b c = a ⊎ (b ⊎ c)

pub three : {A B C P : Type 0} → OneOf A B C → (A → P) → (B → P) → (C → P) → P
three (inl a) f g h = f a
three (inr (inl b)) f g h = g b
three (inr (inr c)) f g h = h c

-- a number below twice n, modulo n
wrapped : (x n : ℕ) → x < n + n → ((x < n) × (x % n ≡ x)) ⊎ ((n ≤ x) × (x % n + n ≡ x))
wrapped x n h = go (ltb x n) refl
  where
    go : (t : Bool) → ltb x n ≡ t → ((x < n) × (x % n ≡ x)) ⊎ ((n ≤ x) × (x % n + n ≡ x))
    go true e = inl (ltb-true x n e, mod-eq_of_lt (ltb-true x n e))
    go false e =
        let l : n ≤ x = ltb-false x n e in
        let s : x % n ≡ x - n = mod-eq-sub-mod l ∙ mod-eq_of_lt (omega arith) in
        inr (l, omega arith)

-- The definitions, at offset 0 and at others

pub forward_zero : (o n j : ℕ) → o ≡ 0 → image (Forward o n) j ≡ j
unfolding image
forward_zero o n j z = rw (eq-eqb o 0 z)

pub forward_other : (o n j : ℕ) → (o ≡ 0 → ⊥) → image (Forward o n) j ≡ (o + j) % n
unfolding image
forward_other o n j f = rw (ne_eqb o 0 f)

pub reverse_zero : (o n j : ℕ) → o ≡ 0 → image (Reverse o n) j ≡ n - j
unfolding image
reverse_zero o n j z = rw (eq-eqb o 0 z)

-- at another offset an index needs no remainder of its own: steps itself is 0 modulo steps
reverse_minus : (o n j : ℕ) → j ≤ n → (o ≡ 0 → ⊥) → image (Reverse o n) j ≡ (o + n - j) % n
unfolding image
reverse_minus o n j l f = rw (ne_eqb o 0 f) (⊎_elim last below (eq-or-lt_of_le l))
  where
    below : j < n → (o + n - j % n) % n ≡ (o + n - j) % n
    below b = let s : j % n ≡ j = mod-eq_of_lt b in rw s

    last : j ≡ n → (o + n - j % n) % n ≡ (o + n - j) % n
    last e =
        let s : j % n ≡ 0 = rw e (mod_self n) in
        let x : o + n - j % n ≡ o + n = omega arith in
        let y : o + n - j ≡ o = omega arith in
        rw (x, y, add-mod_right)

pub inverse_zero : (o n j : ℕ) → o ≡ 0 → inverse (Forward o n) j ≡ j
unfolding inverse
inverse_zero o n j z = rw (eq-eqb o 0 z)

pub inverse_other : (o n j : ℕ) → (o ≡ 0 → ⊥) → inverse (Forward o n) j ≡ (j + n - o % n) % n
unfolding inverse
inverse_other o n j f = rw (ne_eqb o 0 f)

-- an offset below steps is its own remainder
inverse_minus : (o n j : ℕ) → o < n → (o ≡ 0 → ⊥) → inverse (Forward o n) j ≡ (j + n - o) % n
inverse_minus o n j h f = inverse_other o n j f ∙ rw (mod-eq_of_lt h)

-- in reverse, both ways are one
pub reverse_same : (o n j : ℕ) → inverse (Reverse o n) j ≡ image (Reverse o n) j
unfolding image inverse
reverse_same o n j = refl

-- Where an index goes, by cases and without a remainder

-- forward at offset o of n steps, from j to k
abbrev pub ForwardAt : ℕ → ℕ → ℕ → ℕ → Type 0
ForwardAt o n j k =
    OneOf ((o ≡ 0) × (k ≡ j)) ((0 < o) × (o + j < n) × (k ≡ o + j)) ((0 < o) × (n ≤ o + j) × (k + n ≡ o + j))

-- in reverse, from a to b and from b to a
abbrev pub ReverseAt : ℕ → ℕ → ℕ → ℕ → Type 0
ReverseAt o n j k =
    OneOf ((o ≡ 0) × (k + j ≡ n)) ((0 < o) × (j ≤ o) × (k + j ≡ o)) ((0 < o) × (o < j) × (k + j ≡ o + n))

-- forward, from b to a
abbrev pub InverseAt : ℕ → ℕ → ℕ → ℕ → Type 0
InverseAt o n j k = OneOf ((o ≡ 0) × (k ≡ j)) ((0 < o) × (o ≤ j) × (k + o ≡ j)) ((0 < o) × (j < o) × (k + o ≡ j + n))

-- offset 0, or another, at which k is x modulo n
by_offset : (o n x k : ℕ) {A : Type 0} → (0 < o → x < n + n) → (o ≡ 0 → A) → ((o ≡ 0 → ⊥) → k ≡ x % n) →
    OneOf ((o ≡ 0) × A) ((0 < o) × (x < n) × (k ≡ x)) ((0 < o) × (n ≤ x) × (k + n ≡ x))
by_offset o n x k h f g =
    ⊎_elim (λ z. inl (z, f z))
    (λ p. let e = g (omega arith) in inr
    (⊎_elim (λ w. inl (p, w.0, omega arith)) (λ w. inr (p, w.0, omega arith)) (wrapped x n (h p))))
    (eq-zero-or-pos o)

pub forward_at : (o n j : ℕ) → o < n → j ≤ n → ForwardAt o n j (image (Forward o n) j)
forward_at o n j h l =
    by_offset o n (o + j) (image (Forward o n) j) (omega arith) (forward_zero o n j) (forward_other o n j)

pub reverse_at : (o n j : ℕ) → o < n → j ≤ n → ReverseAt o n j (image (Reverse o n) j)
reverse_at o n j h l =
    three (by_offset o n (o + n - j) (image (Reverse o n) j) (omega arith) (reverse_zero o n j) (reverse_minus o n j l))
    (λ w. inl (w.0, omega arith))
    (λ w. inr (inr (w.0, omega arith, omega arith)))
    (λ w. inr (inl (w.0, omega arith, omega arith)))

pub inverse_at : (o n j : ℕ) → o < n → j ≤ n → InverseAt o n j (inverse (Forward o n) j)
inverse_at o n j h l =
    three (by_offset o n (j + n - o) (inverse (Forward o n) j) (omega arith) (inverse_zero o n j)
    (inverse_minus o n j h))
    inl
    (λ w. inr (inr (w.0, omega arith, omega arith)))
    (λ w. inr (inl (w.0, omega arith, omega arith)))

-- Within the row

pub image_within : (m : CyclicMapping) (j : ℕ) → HasIndex m j → image m j ≤ steps_of m
image_within (Forward o n) j u =
    three (forward_at o n j u.1 u.2) (λ w. omega arith) (λ w. omega arith) (λ w. omega arith)
image_within (Reverse o n) j u =
    three (reverse_at o n j u.1 u.2) (λ w. omega arith) (λ w. omega arith) (λ w. omega arith)

pub inverse_within : (m : CyclicMapping) (j : ℕ) → HasIndex m j → inverse m j ≤ steps_of m
inverse_within (Forward o n) j u =
    three (inverse_at o n j u.1 u.2) (λ w. omega arith) (λ w. omega arith) (λ w. omega arith)
inverse_within (Reverse o n) j u = rw reverse_same (image_within (Reverse o n) j u)

-- Offset 0, forward or reverse

pub image_zero : (m : CyclicMapping) (j : ℕ) → offset_of m ≡ 0 → image m j ≡ cond (is_reverse m) (steps_of m - j) j
image_zero (Forward o n) j z = forward_zero o n j z
image_zero (Reverse o n) j z = reverse_zero o n j z

-- There and back

-- at offset 0 both ways are one, and an index comes back
zero_same : (m : CyclicMapping) (j : ℕ) → offset_of m ≡ 0 → inverse m j ≡ image m j
zero_same (Forward o n) j z = rw (inverse_zero o n j z, forward_zero o n j z)
zero_same (Reverse o n) j z = reverse_same o n j

zero_twice : (m : CyclicMapping) (j : ℕ) → j ≤ steps_of m → offset_of m ≡ 0 → image m (image m j) ≡ j
zero_twice (Forward o n) j l z = forward_zero o n (image (Forward o n) j) z ∙ forward_zero o n j z
zero_twice (Reverse o n) j l z = rw (reverse_zero o n j z, reverse_zero o n (n - j) z) (omega arith)

-- at another it comes back modulo steps
there_and_back : (m : CyclicMapping) (j : ℕ) → HasIndex m j → (offset_of m ≡ 0 → ⊥) →
    inverse m (image m j) ≡ j % steps_of m
there_and_back (Forward o n) j u f =
    let x : (o + j) % n + n - o ≡ (o + j) % n + (n - o) = omega arith in
    let y : o + j + (n - o) ≡ j + n = omega arith in
    rw (inverse_minus o n _ u.1 f, forward_other o n j f, x, mod-add-mod, y, add-mod_right)
there_and_back (Reverse o n) j u f =
    let k = image (Reverse o n) j in
    rw (reverse_same, reverse_minus o n k (image_within (Reverse o n) j u) f)
    (three (reverse_at o n j u.1 u.2)
    (λ w. absurd (f w.0))
    (λ w. let x : o + n - k ≡ j + n = omega arith in rw (x, add-mod_right))
    (λ w. let x : o + n - k ≡ j = omega arith in rw x))

back_and_there : (m : CyclicMapping) (j : ℕ) → HasIndex m j → (offset_of m ≡ 0 → ⊥) →
    image m (inverse m j) ≡ j % steps_of m
back_and_there (Forward o n) j u f =
    let x : o + (j + n - o) ≡ j + n = omega arith in
    rw (forward_other o n _ f, inverse_minus o n j u.1 f, add-mod-mod, x, add-mod_right)
back_and_there (Reverse o n) j u f = rw reverse_same (rw reverse_same at (there_and_back (Reverse o n) j u f))

-- `map_index_inv` undoes `map_index`: at offset 0 at every index from 0 to steps, at another offset
-- at every index below steps
pub inverse_image : (m : CyclicMapping) (j : ℕ) → HasIndex m j → (0 < offset_of m → j < steps_of m) →
    inverse m (image m j) ≡ j
inverse_image m j u f =
    ⊎_elim (λ z. zero_same m (image m j) z ∙ zero_twice m j u.2 z)
    (λ p. there_and_back m j u (omega arith) ∙ mod-eq_of_lt (f p))
    (eq-zero-or-pos (offset_of m))

-- and `map_index` undoes `map_index_inv` there
pub image_inverse : (m : CyclicMapping) (j : ℕ) → HasIndex m j → (0 < offset_of m → j < steps_of m) →
    image m (inverse m j) ≡ j
image_inverse m j u f =
    ⊎_elim (λ z. rw (zero_same m j z) (zero_twice m j u.2 z))
    (λ p. back_and_there m j u (omega arith) ∙ mod-eq_of_lt (f p))
    (eq-zero-or-pos (offset_of m))

-- at an offset other than 0 the index steps comes back as 0, which it equals modulo steps
pub inverse_image_end : (m : CyclicMapping) → HasIndex m (steps_of m) → 0 < offset_of m →
    inverse m (image m (steps_of m)) ≡ 0
inverse_image_end m u p = there_and_back m (steps_of m) u (omega arith) ∙ mod_self (steps_of m)

pub image_inverse_end : (m : CyclicMapping) → HasIndex m (steps_of m) → 0 < offset_of m →
    image m (inverse m (steps_of m)) ≡ 0
image_inverse_end m u p = back_and_there m (steps_of m) u (omega arith) ∙ mod_self (steps_of m)

-- The image of the next index: forward one more, in reverse one less

-- from k to l, one more: at an offset other than 0 modulo steps
abbrev pub OneMore : ℕ → ℕ → ℕ → ℕ → Type 0
OneMore o n k l = OneOf ((o ≡ 0) × (l ≡ k + 1)) ((0 < o) × (k + 1 < n) × (l ≡ k + 1)) ((0 < o) × (k + 1 ≡ n) × (l ≡ 0))

one_more : (o n k l : ℕ) → (o ≡ 0 → l ≡ k + 1) → ((o ≡ 0 → ⊥) → (k < n) × (l ≡ (k + 1) % n)) → OneMore o n k l
one_more o n k l f g =
    three (by_offset o n (k + 1) l (λ p. omega (arith, g (omega arith))) f (λ z. (g z).1))
    inl
    (λ w. inr (inl w))
    (λ w. let b = g (omega arith) in inr (inr (w.0, omega arith, omega arith)))

pub forward_next : (o n j : ℕ) → o < n → OneMore o n (image (Forward o n) j) (image (Forward o n) (j + 1))
forward_next o n j h =
    let x : o + j + 1 ≡ o + (j + 1) = omega arith in
    one_more o n _ _ (λ z. rw (forward_zero o n j z) (forward_zero o n (j + 1) z))
    (λ f. rw (forward_other o n j f) (mod-lt (o + j) (omega arith), rw (mod-add-mod, x) (forward_other o n (j + 1) f)))

pub reverse_next : (o n j : ℕ) → o < n → j < n → OneMore o n (image (Reverse o n) (j + 1)) (image (Reverse o n) j)
reverse_next o n j h l =
    let x : o + n - (j + 1) + 1 ≡ o + n - j = omega arith in
    one_more o n _ _ (λ z. omega (arith, reverse_zero o n j z, reverse_zero o n (j + 1) z))
    (λ f. rw (reverse_minus o n (j + 1) (omega arith) f)
    (mod-lt (o + n - (j + 1)) (omega arith), rw (mod-add-mod, x) (reverse_minus o n j (omega arith) f)))

-- the index that follows an image, by the direction
abbrev pub after : CyclicMapping → ℕ → ℕ
after (Forward o n) k = cond (not (eqb o 0) && eqb (k + 1) n) 0 (k + 1)
after (Reverse o n) k = cond (eqb k 0) (n - 1) (k - 1)

pub image_next : (m : CyclicMapping) (j : ℕ) → offset_of m < steps_of m → j < steps_of m →
    image m (j + 1) ≡ after m (image m j)
image_next (Forward o n) j h l =
    three (forward_next o n j h)
    (λ w. rw (eq-eqb o 0 w.0) w.1)
    (λ w. rw (ne_eqb (image (Forward o n) j + 1) n (omega arith), and-false) w.2)
    (λ w. rw (ne_eqb o 0 (omega arith), eq-eqb (image (Forward o n) j + 1) n w.1) w.2)
image_next (Reverse o n) j h l =
    three (reverse_next o n j h l)
    (λ w. rw (ne_eqb (image (Reverse o n) j) 0 (omega arith)) (omega arith))
    (λ w. rw (ne_eqb (image (Reverse o n) j) 0 (omega arith)) (omega arith))
    (λ w. rw (eq-eqb (image (Reverse o n) j) 0 w.2) (omega arith))

-- the image of index 0, where the offset is not 0
pub first_image : (m : CyclicMapping) → HasIndex m 0 → (offset_of m ≡ 0 → ⊥) → offset_of m ≡ image m 0
first_image (Forward o n) u f =
    three (forward_at o n 0 u.1 u.2) (λ w. absurd (f w.0)) (λ w. omega arith) (λ w. absurd (omega arith))
first_image (Reverse o n) u f =
    three (reverse_at o n 0 u.1 u.2) (λ w. absurd (f w.0)) (λ w. omega arith) (λ w. absurd (omega arith))

-- What the test of an index shows

pub usable_known : (m : CyclicMapping) (i : ℕ) → usable m i ≡ true → HasIndex m i
usable_known m i h =
    let b = and_both (leb 1 (steps_of m) && leb (steps_of m) 65535)
    (ltb (offset_of m) (steps_of m) && leb i (steps_of m)) h in
    let s = and_both (leb 1 (steps_of m)) (leb (steps_of m) 65535) b.0 in
    let t = and_both (ltb (offset_of m) (steps_of m)) (leb i (steps_of m)) b.1 in
    (leb-true (steps_of m) 65535 s.1, ltb-true (offset_of m) (steps_of m) t.0, leb-true i (steps_of m) t.1)
