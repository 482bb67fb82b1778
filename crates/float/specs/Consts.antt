-- Rules 1.3: EPS, TAU and SQRT_2 by their bits, and after them three values that other definitions use.
use Rattle.std.specs.Prelude.{from_bits, Float}
use Rattle.std.specs.Float.{binary64}

-- EPS: no f64 is nearer to 10^-9
unfoldable pub eps : Float
eps = from_bits binary64 0x3E112E0BE826D695

-- TAU, a full turn
unfoldable pub tau : Float
tau = from_bits binary64 0x401921FB54442D18

-- SQRT_2, the root of 2
unfoldable pub sqrt2 : Float
sqrt2 = from_bits binary64 0x3FF6A09E667F3BCD

-- +0
abbrev pub zero64 : Float
zero64 = from_bits binary64 0

-- 1
abbrev pub one64 : Float
one64 = from_bits binary64 0x3FF0000000000000

-- 1/2
abbrev pub half64 : Float
half64 = from_bits binary64 0x3FE0000000000000
