-- Rules 12 on single values, by computation.
use Rattle.std.specs.Prelude.{◌≡◌, Bool, true, false, pos, negsuc, from_bits, refl}
use Rattle.std.specs.Float.{nan, inf, binary64}
use lib.Ieee.{of_bits}
use Rattle.std.specs.Float.Ieee.{of_int, neg, lt, le, eq, add, sub, round, to_unsigned}
use Rattle.float.specs.Consts.{eps, tau, sqrt2, zero64, one64}
use Rattle.float.specs.Sign.{negative, absolute}
use Rattle.float.specs.Order.{larger, clamped, total_order}
use Rattle.float.specs.Whole.{floor_z, ceil_z, rounded, ceiled}
use Rattle.float.specs.Cast.{nat_float}
use Rattle.std.specs.declared.cmp.Ordering.TheVariants.{Less, Equal, Greater}

-- `unfolding computed` opens every definition of this crate and of lib.Ieee that a closed result needs
unfoldable pub computed : Bool
unfolding rounded ceiled floor_z ceil_z clamped absolute total_order negative larger eps tau sqrt2 nat_float
    of_bits of_int to_unsigned neg lt le eq add sub round
computed = true

-- the floor of −0.25 is −1 (Rules 6.3), and its ceiling is 0
floor_quarter : floor_z (from_bits binary64 0xBFD0000000000000) ≡ negsuc 0
unfolding computed
floor_quarter = refl

ceil_quarter : ceil_z (from_bits binary64 0xBFD0000000000000) ≡ pos 0
unfolding computed
ceil_quarter = refl

-- 12.2: −0 comes before +0, and +0 after −0
zeros : total_order (from_bits binary64 0x8000000000000000) (from_bits binary64 0) ≡ Less
unfolding computed
zeros = refl

zeros_back : total_order (from_bits binary64 0) (from_bits binary64 0x8000000000000000) ≡ Greater
unfolding computed
zeros_back = refl

zeros_alike : (total_order zero64 zero64 ≡ Equal) × (total_order (neg zero64) (neg zero64) ≡ Equal)
unfolding computed
zeros_alike = (refl, refl)

-- 12.2: the least subnormals are on either side of both zeros
subnormals : (total_order (from_bits binary64 0x8000000000000001) (neg zero64) ≡ Less)
    × (total_order (from_bits binary64 1) zero64 ≡ Greater)
unfolding computed
subnormals = (refl, refl)

-- 12.2: the infinities are beyond the largest values, and equal to themselves
infinities : (total_order (inf true) (from_bits binary64 0xFFEFFFFFFFFFFFFF) ≡ Less)
    × (total_order (inf false) (from_bits binary64 0x7FEFFFFFFFFFFFFF) ≡ Greater)
    × (total_order (inf true) (inf true) ≡ Equal)
unfolding computed
infinities = (refl, refl, refl)

-- 12.2: a NaN is equal to 1 and to 0, so that with NaNs it is no order; it is greater than −1
nans : (total_order one64 nan ≡ Equal) × (total_order nan zero64 ≡ Equal) × (total_order one64 zero64 ≡ Greater)
    × (total_order nan (neg one64) ≡ Greater)
unfolding computed
nans = (refl, refl, refl, refl)

-- 12.3: between 0 and 1, −0 stays as it is
keeps : clamped (from_bits binary64 0x8000000000000000) (from_bits binary64 0) (from_bits binary64 0x3FF0000000000000)
    ≡ from_bits binary64 0x8000000000000000
unfolding computed
keeps = refl

-- 12.4: a half goes away from zero, and a zero keeps its sign
round_half : rounded (from_bits binary64 0xBFE0000000000000) ≡ from_bits binary64 0xBFF0000000000000
unfolding computed
round_half = refl

round_quarter : rounded (from_bits binary64 0xBFD0000000000000) ≡ from_bits binary64 0x8000000000000000
unfolding computed
round_quarter = refl
