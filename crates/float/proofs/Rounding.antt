-- What `round` of lib.Ieee gives has the sign it was handed and, with another sign, the same size:
-- the sign is only passed on.
use Rattle.std.proofs.Common.{◌≡◌, ℕ, zero, suc, ◌+◌, ◌*◌, ◌^◌, Bool, true, false, cond, ltb, ℤ, pos, refl}
use lib.Ieee.{Float, inf, fin, Format, prec, emax, low, odd, units, round, is_nan}
use lib.Ieee.Fits.{round_is}
use Rattle.float.specs.Sign.{absolute}

-- P holds of the two results where it holds of any two values of one size, and of the two infinities
module _ (P : Float → Float → Type 0) (s t : Bool) (same : (m : ℕ) (e : ℤ) → P (fin s m e) (fin t m e))
    (ends : P (inf s) (inf t)) where
  odd_both : (d q k l : ℕ) → P (odd d s q k l) (odd d t q k l)
  unfolding odd
  odd_both d zero k l = same zero (pos zero)
  odd_both d (suc q) k l = same _ _

  units_both : (f : Format) (q k : ℕ) → P (units f s q k) (units f t q k)
  unfolding units
  units_both f q k = go (ltb (q * 2 ^ k) (2 ^ (low f + suc (emax f))))
    where
      go : (b : Bool) →
          P (cond b (odd (suc (prec f)) s q k (low f)) (inf s)) (cond b (odd (suc (prec f)) t q k (low f)) (inf t))
      go true = odd_both (suc (prec f)) q k (low f)
      go false = ends

  pub round_both : (f : Format) (n d : ℕ) → P (round f s n d) (round f t n d)
  round_both f n d = rw (round_is f s n d, round_is f t n d) (units_both f _ _)

pub abs_round : (f : Format) (s : Bool) (n d : ℕ) → absolute (round f s n d) ≡ round f false n d
abs_round f s = round_both (λ x y. absolute x ≡ y) s false (λ m e. unfold absolute in refl) (unfold absolute in refl) f

pub round_not_nan : (f : Format) (s : Bool) (n d : ℕ) → is_nan (round f s n d) ≡ false
round_not_nan f s = round_both (λ x y. is_nan x ≡ false) s s (λ m e. unfold is_nan in refl) (unfold is_nan in refl) f
