-- The first values of a function as a list: its length, its values, and what it is after a value is put in; and as a
-- list that they are written into one by one.
use Prim.Native.Nat.{ℕ, zero, suc, ◌+◌, ◌≤◌, ◌<◌}
use mathlib.Core.Path.{◌≡◌, refl, sym, ap, ◌∙◌}
use mathlib.Core.Logic.{⊎_elim}
use mathlib.Core.List.{List, [], ◌∷◌, ◌++◌, append_assoc}
use native.Mathlib.Omega.{arith}
use lib.ListN.{length, get_or, take, drop, set, length-append, drop_of_length-le, get_or-append}
use lib.Seq.{take_all, take-append-le, drop-append-le, get_or_at, get_or-set_same, get_or-set_other}
use Rattle.basics.proofs.Numbers.{lt_or_le}
use Rattle.mesh.specs.Held.{firsts}

module _ {A : Type 0} where
  pub length_firsts : (f : ℕ → A) (k : ℕ) → length (firsts f k) ≡ k
  unfolding firsts
  length_firsts f zero = refl
  length_firsts f (suc k) = length-append (firsts f k) (f k ∷ []) ∙ omega (arith, length_firsts f k)

  pub firsts_same : (f g : ℕ → A) (k : ℕ) → ((i : ℕ) → i < k → f i ≡ g i) → firsts f k ≡ firsts g k
  unfolding firsts
  firsts_same f g zero h = refl
  firsts_same f g (suc k) h =
      let init = firsts_same f g k (λ i l. h i (omega arith)) in
      let last = h k (omega arith) in
      cc

  pub get_d_firsts : (f : ℕ → A) (k i : ℕ) (d : A) → i < k → get_or (firsts f k) i d ≡ f i
  unfolding firsts
  get_d_firsts f zero i d h = absurd (omega arith)
  get_d_firsts f (suc k) i d h =
      ⊎_elim
      (λ l. get_or-append (firsts f k) (f k ∷ []) d i (omega (arith, length_firsts f k)) ∙ get_d_firsts f k i d l)
      (λ l. get_or_at (firsts f k) (f k) [] d i (omega (arith, length_firsts f k)) ∙ ap f (omega arith))
      (lt_or_le i k)

  -- p in front of value i, the values from there on one place further
  pub firsts_put : (f g : ℕ → A) (k i : ℕ) (p : A) → i ≤ k →
      ((j : ℕ) → j < i → g j ≡ f j) → g i ≡ p → ((j : ℕ) → i ≤ j → j < k → g (suc j) ≡ f j) →
      firsts g (suc k) ≡ take i (firsts f k) ++ (p ∷ drop i (firsts f k))
  unfolding firsts
  firsts_put f g zero i p h low here high =
      let z : i ≡ 0 = omega arith in
      rw (z, rw z at here)
  firsts_put f g (suc k) i p h low here high =
      ⊎_elim
      (λ l. inside l (firsts_put f g k i p (omega arith) low here (λ j q r. high j q (omega arith))))
      end
      (lt_or_le i (suc k))
    where
      end : suc k ≤ i → firsts g (suc (suc k)) ≡ take i (firsts f (suc k)) ++ (p ∷ drop i (firsts f (suc k)))
      end l =
          let e : i ≡ suc k = omega arith in
          let n = length_firsts f (suc k) in
          let same = firsts_same g f (suc k) (λ j q. low j (omega arith)) in
          let all = take_all i (firsts f (suc k)) (omega arith) in
          let none = drop_of_length-le (firsts f (suc k)) {i = i} (omega arith) in
          let last : g (suc k) ≡ p = ap g (sym e) ∙ here in
          rw (all, none, same, last)

      inside : i < suc k →
          firsts g (suc k) ≡ take i (firsts f k) ++ (p ∷ drop i (firsts f k)) →
          firsts g (suc (suc k)) ≡ take i (firsts f (suc k)) ++ (p ∷ drop i (firsts f (suc k)))
      inside l init =
          let n = length_firsts f k in
          let front = take-append-le i (firsts f k) (f k ∷ []) (omega arith) in
          let back = drop-append-le i (firsts f k) (f k ∷ []) (omega arith) in
          let last = high k (omega arith) (omega arith) in
          rw (front, back, init, last, append_assoc)

-- the first value of f written into a list
pub value_first : (f : ℕ → ℕ) (l : List ℕ) (x : ℕ) → 0 < length l → x ≡ f 0 →
    (i : ℕ) → i ≤ 0 → get_or (set l 0 x) i 0 ≡ f i
value_first f l x h z i q =
    let e : i ≡ 0 = omega arith in
    rw (e, get_or-set_same l 0 x 0 h) z

-- one more value of f written into a list that has those up to u
pub values_more : (f : ℕ → ℕ) (l : List ℕ) (u x : ℕ) → u + 1 < length l →
    ((i : ℕ) → i ≤ u → get_or l i 0 ≡ f i) → x ≡ f (u + 1) →
    (i : ℕ) → i ≤ u + 1 → get_or (set l (u + 1) x) i 0 ≡ f i
values_more f l u x h known e i q =
    ⊎_elim
    (λ m. get_or-set_other l (u + 1) i x 0 (λ z. omega arith) ∙ known i (omega arith))
    (λ m. let z : i ≡ u + 1 = omega arith in rw (z, get_or-set_same l (u + 1) x 0 h) e)
    (lt_or_le i (u + 1))
