-- The known results of Rules 2.3, by computation: the tolerances at which 13 begins and ends.
use Rattle.std.specs.Prelude.{◌≡◌, refl, Bool, true, false}
use Rattle.std.specs.Float.{nan, inf, binary64}
use Rattle.std.specs.Float.Ieee.{of_bits, lt, le, neg}
use Rattle.float.specs.Consts.{eps, zero64, one64}
use Rattle.float.specs.Sign.{is_finite}
use Rattle.tolerance.specs.Tolerance.{tolerance_fits}

-- `unfolding computed` opens every definition that a closed result of this file needs
unfoldable pub computed : Bool
unfolding is_finite eps of_bits lt le neg
computed = true

-- the least f64 above zero, EPS and 1
pub least_fits : tolerance_fits (of_bits binary64 1) ≡ true
unfolding computed
least_fits = refl

pub eps_fits : tolerance_fits eps ≡ true
unfolding computed
eps_fits = refl

pub one_fits : tolerance_fits one64 ≡ true
unfolding computed
one_fits = refl

-- +0, −0, −1, the f64 after 1, infinity and NaN
pub zero_refused : (tolerance_fits zero64 ≡ false) × (tolerance_fits (neg zero64) ≡ false)
unfolding computed
zero_refused = (refl, refl)

pub negative_refused : tolerance_fits (neg one64) ≡ false
unfolding computed
negative_refused = refl

pub above_one_refused : tolerance_fits (of_bits binary64 0x3FF0000000000001) ≡ false
unfolding computed
above_one_refused = refl

pub not_finite_refused : (tolerance_fits (inf false) ≡ false) × (tolerance_fits nan ≡ false)
unfolding computed
not_finite_refused = (refl, refl)
