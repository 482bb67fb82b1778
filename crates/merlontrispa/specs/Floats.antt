-- Rules 12.2 and 11.3, for C: the three answers of `total_cmp` as numbers.
use Rattle.std.specs.Prelude.{ℤ, pos, negsuc}
use Rattle.std.specs.declared.cmp.Ordering.{Ordering}
use Rattle.std.specs.declared.cmp.Ordering.TheVariants.{Less, Equal, Greater}

abbrev pub ordering_number : Ordering → ℤ
ordering_number Less = negsuc 0
ordering_number Equal = pos 0
ordering_number Greater = pos 1
