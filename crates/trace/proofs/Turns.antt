-- Elements one after another in a list, w places each: the front of the list is unmoved by a drop, and grows by one
-- element with a write. Over the width w and the type of the elements.
use mathlib.Core.Path.{◌≡◌, refl, sym, ◌∙◌}
use mathlib.Core.List.{List, [], ◌∷◌, ◌++◌, append_assoc, append-nil}
use Prim.Native.Nat.{ℕ, zero, suc, ◌+◌, ◌*◌, ◌≤◌, ◌<◌}
use native.Mathlib.Nat.{mul-suc, mul-zero, mul-le-mul_left}
use native.Mathlib.Numerals.{add-one}
use native.Mathlib.Omega.{arith}
use lib.ListN.{length, take, get_or, length-append, get_or-append}
use lib.Seq.{take_at, take-take, sets, get_or-take, get_or-append-add}
use Rattle.basics.proofs.Lists.{take_sets}
use Rattle.lent.specs.Lent.{filled, zeroed_from}
use Rattle.lent.proofs.Laws.{zeroed_filled}
use Rattle.trace.specs.Trace.{in_turn}

-- one after another, the first and then the others
turn_append : {A B : Type 0} (f : B → List A) (cs ds : List B) →
    in_turn f (cs ++ ds) ≡ in_turn f cs ++ in_turn f ds
unfolding in_turn
turn_append f [] ds = refl
turn_append f (c ∷ cs) ds = rw (turn_append f cs ds, append_assoc)

turn_one : {A B : Type 0} (f : B → List A) (c : B) → in_turn f (c ∷ []) ≡ f c
unfolding in_turn
turn_one f c = append-nil (f c)

-- the list's front holds these, w places each
abbrev pub Holds : {A B : Type 0} → ℕ → (B → List A) → List A → List B → Type 0
Holds w f l cs = take (w * length cs) l ≡ in_turn f cs

-- the places of one more
one_more : {B : Type 0} (w : ℕ) (cs : List B) (c : B) → w * length (cs ++ (c ∷ [])) ≡ w * length cs + w
one_more w cs c = rw (length-append, add-one, mul-suc)

module _ {A B : Type 0} (w : ℕ) (f : B → List A) (wide : (c : B) → length (f c) ≡ w) where
  length_turn : (cs : List B) → length (in_turn f cs) ≡ w * length cs
  unfolding in_turn
  length_turn [] = sym (mul-zero w)
  length_turn (c ∷ cs) = rw (length-append, wide c, length_turn cs, mul-suc) (omega arith)

  -- so it holds the first of them
  pub holds_front : (l : List A) (cs ds : List B) → Holds w f l (cs ++ ds) → Holds w f l cs
  holds_front l cs ds h =
      let k : w * length cs ≤ w * length (cs ++ ds) = mul-le-mul_left w (simp length-append (omega arith)) in
      rw (← take-take (w * length cs) (w * length (cs ++ ds)) l k, h, turn_append f cs ds)
      (take_at (in_turn f cs) (in_turn f ds) (w * length cs) (length_turn cs))

  last_turn : (cs : List B) (c : B) → in_turn f (cs ++ (c ∷ [])) ≡ in_turn f cs ++ f c
  last_turn cs c = rw (turn_append f cs (c ∷ []), turn_one f c)

  -- one more, written at its place
  pub holds_more : (l : List A) (cs : List B) (c : B) → w * length cs + w ≤ length l → Holds w f l cs →
      Holds w f (sets l (w * length cs) (f c)) (cs ++ (c ∷ []))
  holds_more l cs c r h =
      let n : w * length cs + w ≡ w * length cs + length (f c) = rw (wide c) in
      rw (one_more w cs c, n, last_turn cs c, ← h) (take_sets (f c) l (w * length cs) (rw (wide c) r))

  -- a place of the last
  pub last_at : (l : List A) (cs : List B) (c : B) (i : ℕ) (z : A) → i < w →
      Holds w f l (cs ++ (c ∷ [])) → get_or l (w * length cs + i) z ≡ get_or (f c) i z
  last_at l cs c i z k h =
      let below : w * length cs + i < w * length (cs ++ (c ∷ [])) = rw (one_more w cs c) (omega arith) in
      rw (
        ← get_or-take (w * length (cs ++ (c ∷ []))) l (w * length cs + i) z below,
        h,
        last_turn cs c,
        ← length_turn cs,
        get_or-append-add (in_turn f cs) (f c) i z,
      )

  -- a place of element i
  pub turn_at : (cs : List B) (i j : ℕ) (z : A) (c₀ : B) → i < length cs → j < w →
      get_or (in_turn f cs) (w * i + j) z ≡ get_or (f (get_or cs i c₀)) j z
  unfolding in_turn
  turn_at [] i j z c₀ h k = absurd (omega arith)
  turn_at (c ∷ cs) zero j z c₀ h k =
      let e : w * 0 + j ≡ j = rw mul-zero (omega arith) in
      let s : j < length (f c) = rw (wide c) k in
      rw e (get_or-append (f c) (in_turn f cs) z j s)
  turn_at (c ∷ cs) (suc i) j z c₀ h k =
      let e : w * suc i + j ≡ length (f c) + (w * i + j) = rw (wide c, mul-suc) (omega arith) in
      rw (e, get_or-append-add (f c) (in_turn f cs) (w * i + j) z) (turn_at cs i j z c₀ (omega arith) k)

  -- the same, in a lent list that was filled with them
  pub filled_at : (cs : List B) (lent : List A) (pad : A) (i j : ℕ) (z : A) (c₀ : B) → i < length cs →
      j < w
      → get_or (filled pad (in_turn f cs) lent) (w * i + j) z ≡ get_or (f (get_or cs i c₀)) j z
  filled_at cs lent pad i j z c₀ h k =
      let most : w * suc i ≤ w * length cs = mul-le-mul_left w (omega arith) in
      let below : w * i + j < length (in_turn f cs) = rw (length_turn cs) (omega (arith, mul-suc w i)) in
      get_or-append (in_turn f cs) _ z (w * i + j) below ∙ turn_at cs i j z c₀ h k

  -- a list whose front holds them, zeroed past them
  pub zeroed_turn : (z : A) (l lent : List A) (cs : List B) (k : ℕ) → length l ≡ length lent → Holds w f l cs →
      k ≡ w * length cs → zeroed_from z k l ≡ filled z (in_turn f cs) lent
  zeroed_turn z l lent cs k s h e =
      let n : length (in_turn f cs) ≡ w * length cs = length_turn cs in
      rw (e, ← n) (zeroed_filled z (in_turn f cs) l lent s (rw n h))
