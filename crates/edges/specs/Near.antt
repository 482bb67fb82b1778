-- Rules 6.2: whether a value is at a whole step of its axis, and whether a lambda counts.
-- Original: `integer_step`, `normalize_lambda`.
use Rattle.std.specs.Prelude.{◌&&◌, cond, Option, Some, None, ℕ, Float}
use Rattle.std.specs.Float.{binary64}
use Rattle.std.specs.Float.Ieee.{lt, le, sub, to_unsigned}
use Rattle.float.specs.Consts.{eps, zero64, one64}
use Rattle.float.specs.Sign.{absolute}
use Rattle.float.specs.Order.{clamped}
use Rattle.float.specs.Whole.{rounded}
use Rattle.float.specs.Cast.{nat_float}
use Rattle.param.specs.Param.{within}

-- the whole number from 0 to n that x is less than EPS from: `round` of x, where that is one
unfoldable pub integer_step : Float → ℕ → Option ℕ
integer_step x n =
    cond (lt (absolute (sub binary64 x (rounded x))) eps && (le zero64 (rounded x) && le (rounded x) (nat_float n)))
    (Some (to_unsigned 64 (rounded x)))
    None

-- a lambda from −EPS to 1 + EPS counts, and is clamped to 0 to 1
unfoldable pub normalize_lambda : Float → Option Float
normalize_lambda l = cond (within l one64) (Some (clamped l zero64 one64)) None
