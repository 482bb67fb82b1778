-- Rules 12.3 and 12.2: the larger of two values, a value between two ends, and IEEE 754's totalOrder.
use Rattle.std.specs.Prelude.{Bool, true, false, cond, Float}
use Rattle.std.specs.Float.{nan, inf, fin}
use Rattle.std.specs.Float.Ieee.{lt}
use Rattle.float.specs.Sign.{negative}
use Rattle.std.specs.declared.cmp.Ordering.{Ordering}
use Rattle.std.specs.declared.cmp.Ordering.TheVariants.{Less, Equal, Greater}

-- `max`: the larger; where one is `nan` the other; the first of two that are equal, which fixes the sign of a zero
unfoldable pub larger : Float → Float → Float
larger nan y = y
larger (inf s) y = cond (lt (inf s) y) y (inf s)
larger (fin s m e) y = cond (lt (fin s m e) y) y (fin s m e)

-- `clamp`: x where it is neither below lo nor above hi, so that -0 stays -0 between 0 and 1, and `nan` stays `nan`
unfoldable pub clamped : Float → Float → Float → Float
clamped x lo hi =
    let y = cond (lt x lo) lo x in
    cond (lt hi y) hi y

-- clause c of totalOrder, two values neither of which is less, by their signs: -0 comes before +0
abbrev pub sign_order : Bool → Bool → Ordering
sign_order true true = Equal
sign_order true false = Less
sign_order false true = Greater
sign_order false false = Equal

-- `total_cmp`, clause by clause: a, x is less; b, x is greater; c, neither is. Clause d, on NaNs, is not taken:
-- lib.Ieee has one `nan`, without sign or payload, and what c says of it is no order
unfoldable pub total_order : Float → Float → Ordering
total_order x y = cond (lt x y) Less (cond (lt y x) Greater (sign_order (negative x) (negative y)))
