use Prim.Native.Nat.{◌*◌}
use mathlib.Core.Path.{◌≡◌}
use lib.ListN.{length, take}
use Rattle.records.specs.Records.{pairs_of, marks_of}
use Rattle.records.proofs.flatten.Given as goal

abbrev pub invariant-loop-i : goal.invariant-loop-i
invariant-loop-i l =
    (length l.pairs ≡ 131074) × (length l.marks ≡ 65537)
    × (take (2 * l.i) l.pairs ≡ pairs_of (take l.i l.records)) × (take l.i l.marks ≡ marks_of (take l.i l.records))
