-- Rules 12.4: a whole number as an f64. (An f64 as a whole number, `to_usize`, is `to_unsigned 64` of lib.Ieee.)
use Rattle.std.specs.Prelude.{ℕ, ℤ, pos, negsuc}
use lib.Ieee.{Float, binary64, of_int}

-- `to_f64`: the f64 nearest to n
unfoldable pub nat_float : ℕ → Float
nat_float n = of_int binary64 (pos n)

-- a signed whole number as a count: one below 0 is 0
abbrev pub count : ℤ → ℕ
count (pos n) = n
count (negsuc n) = 0
