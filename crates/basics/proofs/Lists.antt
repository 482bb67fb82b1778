-- What holds of each element of a list: of two lists joined, at a place, and by implication. And the front of a list
-- into which others were stored.
use mathlib.Core.Path.{◌≡◌, ap, ◌∙◌}
use mathlib.Core.List.{List, [], ◌∷◌, ◌++◌}
use Prim.Native.Nat.{ℕ, zero, suc, ◌+◌, ◌≤◌, ◌<◌}
use native.Mathlib.Omega.{arith}
use lib.ListN.{length, take, drop, get_or, length-append, length-take}
use lib.Seq.{take_at, sets, sets-eq}
use Rattle.basics.specs.Lists.{Each}

module _ {A : Type 0} (P : A → Type 0) where
  pub each_append : (xs ys : List A) → Each P xs → Each P ys → Each P (xs ++ ys)
  each_append [] ys h k = k
  each_append (x ∷ xs) ys h k = (h.0, each_append xs ys h.1 k)

  pub each_at : (xs : List A) (i : ℕ) (z : A) → Each P xs → i < length xs → P (get_or xs i z)
  each_at [] i z h l = absurd (omega arith)
  each_at (x ∷ xs) zero z h l = h.0
  each_at (x ∷ xs) (suc i) z h l = each_at xs i z h.1 (omega arith)

  pub each_implies : (Q : A → Type 0) → ((x : A) → P x → Q x) → (xs : List A) → Each P xs → Each Q xs
  each_implies Q f [] h = tt
  each_implies Q f (x ∷ xs) h = (f x h.0, each_implies Q f xs h.1)

-- `sets` from a place on, and no further
pub take_sets : {A : Type 0} (vs l : List A) (i : ℕ) → i + length vs ≤ length l →
    take (i + length vs) (sets l i vs) ≡ take i l ++ vs
take_sets vs l i h =
    ap (take (i + length vs)) (sets-eq vs l i h)
    ∙ take_at (take i l ++ vs) (drop (i + length vs) l) (i + length vs) front
  where
    front : length (take i l ++ vs) ≡ i + length vs
    front = simp (length-append, length-take) (omega arith)
