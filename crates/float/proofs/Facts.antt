-- Facts of floats that no proof asks for: of the sign, by a comparison with 0 and a division by a zero; of floor and
-- ceiling out of the range of 64 bits; and of `round` and `ceil` from 2^52 on.
use Rattle.std.proofs.Common.{◌≡◌, ℕ, zero, suc, ◌+◌, ◌-◌, ◌*◌, ◌/◌, ◌^◌, ◌<◌, ◌≤◌, Bool, true, false, not, ◌&&◌, ◌||◌, T, eqb, ltb, ◌⊎◌, ℤ, pos, negsuc, neg_ℤ, sym, refl, ap, ◌∙◌, inl, inr, true≢false, le_trans, le_of_eq, le_of_lt, lt_of_lt_of_le, eq-or-lt_of_le, add_comm, zero-lt-suc, mul-pos, zero-mul, mul-one, div-one, le-div_iff_mul-le, pow-suc, pow_pos, arith, lit<, ltb-false, ltb-true, le-ltb, lt-ltb, eqb-true, eq-eqb, ne_eqb}
use native.Mathlib.Nat.{min-eq_right}
use mathlib.Core.Bool.{and-false, or-not_self}
use lib.Dec.{eqb-zero-suc, eqb-suc-zero}
use lib.Pow.{ones_lt}
use lib.Ieee.{Float, nan, inf, fin, Format, binary64, up, down, below, level, lt, le, eq, ne, div, neg, round, of_bits, is_nan, fits}
use lib.Ieee.Fits.{up_pos, down_pos, round-fits}
use lib.Ieee.Back.{whole_unique}
use lib.Ieee.Compare.{differs_from_itself}
use borrow.Author.Tests.{not-false, eqb-false}
use Rattle.basics.proofs.Tests.{and_both}
use Rattle.float.specs.Consts.{zero64, one64}
use Rattle.float.specs.Sign.{negative, absolute}
use Rattle.float.specs.Whole.{near, over, under, int64, floor_z, ceil_z, rounded, ceiled}
use Rattle.float.proofs.Value.{lt_value, lt_whole, minus_below, fits_says, cut_exact}
use Rattle.float.proofs.Less.{le_is}
use Rattle.float.proofs.Rounding.{round_both}
use Rattle.float.proofs.Signs.{plus_not_below}
use Rattle.float.proofs.Floors.{over_same, over_ge}

-- ---- the sign
pub below_zero : (x : Float) → lt x zero64 ≡ true → negative x ≡ true
unfolding negative
below_zero nan h = absurd (true≢false (sym (unfold lt in h)))
below_zero (inf s) h = unfold lt of_bits in h
below_zero (fin false m e) h = absurd (true≢false (sym h ∙ plus_not_below m e))
below_zero (fin true m e) h = refl

-- a size that equals a zero's is zero, and that of a value with digits is not
level_zero : (a b : ℕ) (q : Bool) → b ≡ 0 → eqb a b && q ≡ true → a ≡ 0
level_zero a b q z h = eqb-true a b (and_both (eqb a b) q h).0 ∙ z

not_zero : (m : ℕ) (e : ℤ) → suc m * up e * 1 ≡ 0 → ⊥
not_zero m e h = omega (arith, mul-pos (mul-pos (zero-lt-suc m) (up_pos e)) (zero-lt-suc 0))

pub zero_sign : (x : Float) → eq x zero64 ≡ true → lt (div binary64 one64 x) zero64 ≡ negative x
unfolding lt eq div negative of_bits
zero_sign nan h = refl
zero_sign (inf s) h = absurd (true≢false (sym h))
zero_sign (fin true zero e) h = refl
zero_sign (fin false zero e) h = refl
zero_sign (fin s (suc m) e) h =
    absurd (not_zero m e (level_zero (suc m * up e * 1) (0 * down e) _ (zero-mul (down e)) h))

pub not_below : (x : Float) → lt x zero64 ≡ false → eq x zero64 ≡ false → negative x ≡ false
unfolding lt eq le negative of_bits is_nan
not_below nan h k = refl
not_below (inf s) h k = h
not_below (fin false m e) h k = refl
not_below (fin true m e) h k = absurd (true≢false (sym (le_is (fin true m e) zero64 refl refl) ∙ simp (h, k)))

-- `absolute` by the sign
pub abs_neg : (x : Float) → negative x ≡ true → neg x ≡ absolute x
unfolding negative neg absolute
abs_neg nan h = refl
abs_neg (inf true) h = refl
abs_neg (inf false) h = absurd (true≢false (sym h))
abs_neg (fin true m e) h = refl
abs_neg (fin false m e) h = absurd (true≢false (sym h))

pub abs_same : (x : Float) → negative x ≡ false → x ≡ absolute x
unfolding negative absolute
abs_same nan h = refl
abs_same (inf true) h = absurd (true≢false h)
abs_same (inf false) h = refl
abs_same (fin true m e) h = absurd (true≢false h)
abs_same (fin false m e) h = refl

-- ---- at most, of two sizes with their signs
le_sizes : (a b : ℕ) → ltb a b || (eqb a b && true) ≡ not (ltb b a)
le_sizes a b = go (ltb b a) refl
  where
    upto : (a ≡ b) ⊎ (a < b) → ltb a b || (eqb a b && true) ≡ true
    upto (inl h) = simp (le-ltb a b (le_of_eq (sym h)), eq-eqb a b h)
    upto (inr h) = simp (lt-ltb a b h)

    go : (t : Bool) → ltb b a ≡ t → ltb a b || (eqb a b && true) ≡ not t
    go true h =
        let above : b < a = ltb-true b a h in
        simp (le-ltb a b (le_of_lt above), ne_eqb a b (λ (e : a ≡ b). omega arith))
    go false h = upto (eq-or-lt_of_le (ltb-false b a h))

eqb_swap : (a b : ℕ) → eqb a b ≡ eqb b a
eqb_swap a b = go (eqb b a) refl
  where
    go : (t : Bool) → eqb b a ≡ t → eqb a b ≡ t
    go true p = eq-eqb a b (sym (eqb-true b a p))
    go false p = ne_eqb a b (λ (e : a ≡ b). eqb-false b a p (sym e))

-- of two unlike signs only zeros are level
level_zeros : (a b : ℕ) → eqb a b && (false || eqb a 0) ≡ not (ltb 0 (a + b))
level_zeros zero zero = refl
level_zeros zero (suc b) = simp (eqb-zero-suc b, lt-ltb 0 (0 + suc b) (omega arith))
level_zeros (suc a) b = simp (eqb-suc-zero a, lt-ltb 0 (suc a + b) (omega arith), and-false)

pub le_signed : (s : Bool) (a : ℕ) (t : Bool) (b : ℕ) → below s a t b || level s a t b ≡ not (below t b s a)
le_signed false a false b = le_sizes a b
le_signed false a true b = level_zeros a b ∙ simp (add_comm a b)
le_signed true a false b = rw (level_zeros a b) (or-not_self (ltb 0 (a + b)))
le_signed true a true b = rw (eqb_swap a b) (le_sizes b a)

-- ---- a rounding, with the other sign
pub neg_round : (f : Format) (n d : ℕ) → neg (round f false n d) ≡ round f true n d
neg_round = round_both (λ x y. neg x ≡ y) false true (λ m e. unfold neg in refl) (unfold neg in refl)

-- ---- the range of 64 bits
abbrev pub lowest : Float
lowest = fin true 1 (pos 63)

abbrev pub highest : Float
highest = fin false 1 (pos 63)

capped : (s : Bool) (q : ℕ) → 2 ^ 63 ≤ q → int64 s q ≡ int64 s (2 ^ 63)
capped true q h = ap (λ (k : ℕ). neg_ℤ (pos k)) (min-eq_right h)
capped false q h = ap pos (min-eq_right (le_of_lt (lt_of_lt_of_le (ones_lt 63) h)))

-- from 2^63 on in size, floor and ceiling are the end of the range
end : (s : Bool) (m : ℕ) (e : ℤ) → 2 ^ 63 * down e ≤ m * up e →
    (int64 s (2 ^ 63) ≡ floor_z (fin s m e)) × (int64 s (2 ^ 63) ≡ ceil_z (fin s m e))
unfolding floor_z ceil_z
end true m e h =
    let big : 2 ^ 63 ≤ m * up e / down e = (le-div_iff_mul-le (down_pos e)).1 h in (
      sym (capped true (over (m * up e) (down e)) (le_trans big (over_ge (m * up e) (down e)))),
      sym (capped true (m * up e / down e) big),
    )
end false m e h =
    let big : 2 ^ 63 ≤ m * up e / down e = (le-div_iff_mul-le (down_pos e)).1 h in (
      sym (capped false (m * up e / down e) big),
      sym (capped false (over (m * up e) (down e)) (le_trans big (over_ge (m * up e) (down e)))),
    )

pub high_end : (x : Float) → le lowest x ≡ true → lt x highest ≡ false →
    (pos (2 ^ 63 - 1) ≡ floor_z x) × (pos (2 ^ 63 - 1) ≡ ceil_z x)
high_end nan lo hi = absurd (true≢false (sym (unfold le in lo)))
high_end (inf true) lo hi = absurd (true≢false (sym (unfold le in lo)))
high_end (inf false) lo hi = unfold floor_z ceil_z in (refl, refl)
high_end (fin true m e) lo hi = absurd (true≢false (sym (minus_below m e (2 ^ 63) highest (lit< tt) (refl, refl)) ∙ hi))
high_end (fin false m e) lo hi =
    end false m e (ltb-false (m * up e) (2 ^ 63 * down e) (sym (lt_whole m e (2 ^ 63) highest (refl, refl)) ∙ hi))

low_lt : (s : Bool) (m : ℕ) (e : ℤ) → le lowest (fin s m e) ≡ false → lt (fin s m e) lowest ≡ true
low_lt s m e lo =
    not-false (lt (fin s m e) lowest)
    (sym (le_is lowest (fin s m e) (unfold is_nan in refl) (unfold is_nan in refl)) ∙ lo)

pub low_end : (x : Float) → le lowest x ≡ false → ne x x ≡ false →
    (negsuc (2 ^ 63 - 1) ≡ floor_z x) × (negsuc (2 ^ 63 - 1) ≡ ceil_z x)
low_end nan lo n = absurd (true≢false (unfold ne in n))
low_end (inf true) lo n = unfold floor_z ceil_z in (refl, refl)
low_end (inf false) lo n = absurd (true≢false (unfold le in lo))
low_end (fin true m e) lo n =
    end true m e
    (le_of_lt
    (ltb-true (2 ^ 63 * down e) (m * up e)
    (sym (lt_value true m e true (2 ^ 63) lowest (refl, refl)) ∙ low_lt true m e lo)))
low_end (fin false m e) lo n =
    absurd (true≢false (sym (low_lt false m e lo) ∙ lt_value false m e true (2 ^ 63) lowest (refl, refl)))

pub nan_end : (x : Float) → ne x x ≡ true → (pos 0 ≡ floor_z x) × (pos 0 ≡ ceil_z x)
nan_end x h = rw (differs_from_itself x (rw h tt)) (unfold floor_z ceil_z in (refl, refl))

-- ---- against 2 ^ 52
abbrev pub p52 : Float
p52 = of_bits binary64 0x4330000000000000

below_p52 : (m : ℕ) (e : ℤ) → lt (fin false m e) p52 ≡ ltb (m * up e) (2 ^ 52 * down e)
below_p52 m e = lt_whole m e (2 ^ 52) p52 (unfold of_bits in (refl, refl))

from_p52 : (m : ℕ) (e : ℤ) → lt (fin false m e) p52 ≡ false → 2 ^ 52 * down e ≤ m * up e
from_p52 m e h = ltb-false (m * up e) (2 ^ 52 * down e) (sym (below_p52 m e) ∙ h)

-- from there on a value is whole, and so it is a rounding of K, which is the value where that is whole
large : (s : Bool) (m : ℕ) (e : ℤ) (K : ℕ) → T (fits binary64 (fin s m e)) → 2 ^ 52 * down e ≤ m * up e →
    (down e ≡ 1 → K ≡ m * up e) → fin s m e ≡ round binary64 s K 1
large s m (pos k) K f h is =
    whole_unique binary64 (fin s m (pos k)) (round binary64 s K 1) s (m * 2 ^ k) f
    (round-fits binary64 s K 1) (refl, refl)
    (rw (is refl) (rw div-one at (cut_exact s s m (pos k) f)))
large s m (negsuc k) K f h is =
    absurd (clash (2 ^ k) (pow_pos k) (rw (pow-suc 2 k) at h) (fits_says s m (negsuc k) f).0)
  where
    clash : (p : ℕ) → 0 < p → 4503599627370496 * (p * 2) ≤ m * 1 → m < 9007199254740992 → ⊥
    clash p P l g = omega arith

-- where the value is whole
whole_near : (a b : ℕ) → b ≡ 1 → near a b ≡ a
whole_near a b h = rw h (omega arith)

large_rounded : (x : Float) → T (fits binary64 x) → lt (absolute x) p52 ≡ false → x ≡ rounded x
unfolding absolute rounded
large_rounded nan f h = refl
large_rounded (inf s) f h = refl
large_rounded (fin s m e) f h =
    large s m e (near (m * up e) (down e)) f (from_p52 m e h) (whole_near (m * up e) (down e))

pub round_large : (x : Float) {a : Float} → fits binary64 x ≡ true → a ≡ absolute x → lt a p52 ≡ false → x ≡ rounded x
round_large x f p h = large_rounded x (rw f tt) (rw p at h)

-- where the value is whole
over_one : (a d : ℕ) → d ≡ 1 → over a d ≡ a
over_one a d h = rw h (over_same a 1 (le_of_eq (sym (mul-one (a / 1) ∙ div-one a))) ∙ div-one a)

under_one : (a d : ℕ) → d ≡ 1 → under a d ≡ a
under_one a d h = rw h (div-one a)

large_ceiled : (x : Float) → T (fits binary64 x) → lt (absolute x) p52 ≡ false → x ≡ ceiled x
unfolding absolute ceiled
large_ceiled nan f h = refl
large_ceiled (inf s) f h = refl
large_ceiled (fin true m e) f h =
    large true m e (under (m * up e) (down e)) f (from_p52 m e h) (under_one (m * up e) (down e))
large_ceiled (fin false m e) f h =
    large false m e (over (m * up e) (down e)) f (from_p52 m e h) (over_one (m * up e) (down e))

pub ceil_large : (x : Float) {a : Float} → fits binary64 x ≡ true → a ≡ absolute x → lt a p52 ≡ false → x ≡ ceiled x
ceil_large x f p h = large_ceiled x (rw f tt) (rw p at h)
