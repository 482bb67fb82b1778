-- Rules 12.1: the sign and the magnitude of a value of lib.Ieee, which is `nan`, an infinity or `fin s m e`.
use Rattle.std.specs.Prelude.{Bool, true, false, Float}
use Rattle.std.specs.Float.{nan, inf, fin}
use Rattle.std.specs.Float.Ieee.{le}

-- whether the sign is negative: of -0 it is, and of the one `nan` of the model it is not
unfoldable pub negative : Float → Bool
negative nan = false
negative (inf s) = s
negative (fin s m e) = s

-- `abs`: the value without its sign
unfoldable pub absolute : Float → Float
absolute nan = nan
absolute (inf s) = inf false
absolute (fin s m e) = fin false m e

-- `is_finite`: neither `nan` nor an infinity
unfoldable pub is_finite : Float → Bool
is_finite nan = false
is_finite (inf s) = false
is_finite (fin s m e) = true

-- `at_most`: no `nan`, and in magnitude not above `top`
abbrev pub at_most : Float → Float → Bool
at_most x top = le (absolute x) top
