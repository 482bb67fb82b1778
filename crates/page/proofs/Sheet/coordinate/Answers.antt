-- `page::Sheet::coordinate` meets its contract: the constant NaN is the one NaN of the definitions.
use Rattle.std.proofs.Common.{rules, ◌≡◌, refl}
use lib.Ieee.{nan, of_bits, binary64}
use Rattle.page.proofs.Sheet.coordinate.Goals as goal

the_nan : of_bits binary64 9221120237041090560 ≡ nan
the_nan = unfold of_bits in refl

pub returns : goal.returns
returns c = rw (← the_nan) (search rules)
