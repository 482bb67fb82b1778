-- A few numbers copied into a list at once, as code writes them, are those numbers put in one by one, as definitions
-- have them.
use Rattle.std.proofs.Common.{◌≡◌, ℕ, ◌+◌, ◌≤◌, List, [], ◌∷◌, length, suc, arith}
use mathlib.Core.List.{append_assoc}
use lib.ListN.{set}
use borrow.Rule.Slice.PartMut.{put_mid}
use Rattle.std.proofs.lemmas.List.{drop-drop}
use Rattle.std.proofs.lemmas.List.Edits.{sets, sets-eq}

module _ {A : Type 0} (l : List A) (i : ℕ) where
  copied : (ys : List A) → i + length ys ≤ length l → put_mid i (length ys) l ys ≡ sets l i ys
  copied ys h = rw (drop-drop (length ys) i l, sets-eq ys l i h, append_assoc)

  pub two_written : (k : ℕ) (ys : List A) (a b : A) → k ≡ 2 → ys ≡ a ∷ b ∷ [] → i + 2 ≤ length l →
      put_mid i k l ys ≡ set (set l i a) (i + 1) b
  two_written k ys a b e w h =
      let one : i + 1 ≡ suc i = omega arith in
      rw (e, w, one) (copied (a ∷ b ∷ []) h)

  pub three_written : (k : ℕ) (ys : List A) (a b c : A) → k ≡ 3 → ys ≡ a ∷ b ∷ c ∷ [] → i + 3 ≤ length l →
      put_mid i k l ys ≡ set (set (set l i a) (i + 1) b) (i + 2) c
  three_written k ys a b c e w h =
      let one : i + 1 ≡ suc i = omega arith in
      let two : i + 2 ≡ suc (suc i) = omega arith in
      rw (e, w, one, two) (copied (a ∷ b ∷ c ∷ []) h)
