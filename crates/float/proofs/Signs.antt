-- `negative`, `absolute` and `is_finite` are std's, told by cases.
use Rattle.std.proofs.Common.{◌≡◌, ℕ, false, not, ◌&&◌, ℤ, refl, zero-mul}
use Rattle.std.specs.Float.{is_sign_negative, float_with_sign, float_is_finite}
use lib.Dec.{leb-suc-zero}
use lib.Ieee.{Float, nan, inf, fin, down, lt, of_bits, is_nan}
use Rattle.float.specs.Sign.{negative, absolute, is_finite}
use Rattle.float.specs.Consts.{zero64}

-- what has no minus sign is not below 0
pub plus_not_below : (m : ℕ) (e : ℤ) → lt (fin false m e) zero64 ≡ false
unfolding lt of_bits
plus_not_below m e = simp (zero-mul (down e), leb-suc-zero)

pub negative_is : (x : Float) → negative x ≡ not (is_nan x) && is_sign_negative x
unfolding negative is_nan is_sign_negative
negative_is nan = refl
negative_is (inf s) = refl
negative_is (fin s m e) = refl

pub absolute_is : (x : Float) → float_with_sign false x ≡ absolute x
unfolding float_with_sign absolute
absolute_is nan = refl
absolute_is (inf s) = refl
absolute_is (fin s m e) = refl

pub finite_is : (x : Float) → float_is_finite x ≡ is_finite x
unfolding float_is_finite is_finite
finite_is nan = refl
finite_is (inf s) = refl
finite_is (fin s m e) = refl
