-- Zero stands in the places up to the one at hand.
use Rattle.std.proofs.Common.{◌≡◌, take}
use lib.ListN.{replicate}
use Rattle.lent.proofs.zero_from.Given as goal

abbrev pub invariant-loop-place : goal.invariant-loop-place
invariant-loop-place g l = take l.place-index l.place-items ≡ replicate l.place-index l.zero
