-- A part of a list that is written over with zeros, to its end.
use Rattle.std.proofs.Common.{◌≡◌, ℕ, ◌-◌, List, length, arith}
use Prim.Native.Nat.{min}
use lib.ListN.{replicate}
use borrow.Rule.Slice.PartMut.{put_mid}
use Rattle.std.proofs.lemmas.Grind.{common_steps}
use Rattle.lent.specs.Lent.{zeroed_from}

-- the places from j on, where j is k, or the end and k lies past it
pub zeroed_past_end : {A : Type 0} (l : List A) (z : A) (j k : ℕ) (rest : List A) → j ≡ min k (length l) →
    rest ≡ replicate (length l - j) z → put_mid j (length l - j) l rest ≡ zeroed_from z k l
zeroed_past_end l z j k rest e w = rw w (grind (arith, common_steps))
