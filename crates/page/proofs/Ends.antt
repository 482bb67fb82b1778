-- An index that is cut off where no list is longer stands for what it was cut off from: past the end, each reads the
-- default, and neither leaves a place to be zeroed.
use Rattle.std.proofs.Common.{◌≡◌, ℕ, ◌<◌, ◌≤◌, List, length, get_or, arith}
use Rattle.std.proofs.lemmas.List.{get_or_past}
use Rattle.std.proofs.lemmas.Grind.{common_steps}
use Rattle.lent.specs.Lent.{zeroed_from}

-- j is k, or both lie past the end
module _ {A : Type 0} (l : List A) where
  pub same_read : (d : A) (j k : ℕ) → (k < length l → j ≡ k) → (length l ≤ k → length l ≤ j) →
      get_or l j d ≡ get_or l k d
  same_read d j k here past = grind (arith, common_steps, get_or_past)

  pub same_zeroes : (z : A) (j k : ℕ) → (k < length l → j ≡ k) → (length l ≤ k → length l ≤ j) →
      zeroed_from z j l ≡ zeroed_from z k l
  same_zeroes z j k here past = grind (arith, common_steps)
