-- `rounded` and `ceiled` are std's rounding and ceiling, which write a quotient rounded up in another way; and `floor_z`
-- and `ceil_z` are the cut toward zero, or one step from it where the value is beyond the cut as a float.
use Rattle.std.proofs.Common.{◌≡◌, ℕ, zero, suc, ◌+◌, ◌-◌, ◌*◌, ◌/◌, ◌%◌, ◌^◌, ◌<◌, ◌≤◌, min, Bool, true, false, cond, T, eqb, ltb, ◌⊎◌, ℤ, pos, negsuc, ◌+ℤ◌, ◌-ℤ◌, neg_ℤ, sym, refl, ap, ◌∙◌, inl, inr, true≢false, le_of_eq, le_of_lt, le_trans, lt_of_lt_of_le, le-add_right, add-zero, add-one, mul_comm, mul-le-mul_right, lt_of_mul-lt-mul_right, div-mul-le_self, div-add-mod', eq-or-lt_of_le, mod-lt, arith, lit<, ltb-false, ltb-true, le-ltb, eq-eqb, ne_eqb}
use Rattle.std.proofs.Math.Nat.{div-eq_of_lt-le}
use Rattle.std.specs.Float.{ratio_ceil, round_with, float_round, ceil}
use Rattle.std.specs.Int.{saturate_to_bits}
use native.Mathlib.Nat.{min-eq_left, min-eq_right, min-le_left}
use lib.IntN.{pred_ℤ, -ℤ_one}
use lib.Pow.{le_ones, ones_lt}
use lib.Ieee.{Float, nan, inf, fin, binary64, up, down, lt, round, of_int, to_signed, fits}
use lib.Ieee.Fits.{down_pos}
use lib.Ieee.Exact.{HasValue}
use Rattle.basics.proofs.Numbers.{lt_or_le}
use Rattle.float.specs.Whole.{over, int64, floor_z, ceil_z, rounded, ceiled}
use Rattle.float.proofs.Value.{Minus, lt_minus, minus_lt, lt_whole, whole_lt, back_pos, back_neg}

-- ---- quotients rounded up
module _ (n d : ℕ) where
  pub over_more : n / d * d < n → over n d ≡ suc (n / d)
  over_more h = rw (ne_eqb (n % d) 0 (λ (z : n % d ≡ 0). omega (arith, div-add-mod' n d))) (add-one (n / d))

  pub over_same : n ≤ n / d * d → over n d ≡ n / d
  over_same h = rw (eq-eqb (n % d) 0 (omega (arith, div-add-mod' n d))) (add-zero (n / d))

  pub over_ge : n / d ≤ over n d
  over_ge = le-add_right (n / d) (cond (eqb (n % d) 0) 0 1)

-- as std writes it
over_is : (n d : ℕ) → 0 < d → ratio_ceil n d ≡ over n d
over_is n d D = go (eq-or-lt_of_le (div-mul-le_self n d))
  where
    -- between two multiples of d
    quotient : (q r : ℕ) → n ≡ q * d + r → r < d → (q * d ≡ n → ratio_ceil n d ≡ q) × (q * d < n → ratio_ceil n d ≡ suc q)
    quotient q r p h = (
      λ e. div-eq_of_lt-le d (omega arith) (omega arith),
      λ l. div-eq_of_lt-le d (omega arith) (omega arith),
    )

    here : (n / d * d ≡ n → ratio_ceil n d ≡ n / d) × (n / d * d < n → ratio_ceil n d ≡ suc (n / d))
    here = quotient (n / d) (n % d) (sym (div-add-mod' n d)) (mod-lt n D)

    go : (n / d * d ≡ n) ⊎ (n / d * d < n) → ratio_ceil n d ≡ over n d
    go (inl p) = here.0 p ∙ sym (over_same n d (le_of_eq (sym p)))
    go (inr p) = here.1 p ∙ sym (over_more n d p)

-- ---- as floats
pub rounded_is : (x : Float) → float_round binary64 x ≡ rounded x
unfolding round_with rounded
rounded_is nan = refl
rounded_is (inf s) = refl
rounded_is (fin true m e) = rw (mul_comm 2 (m * up e), mul_comm 2 (down e)) refl
rounded_is (fin false m e) = rw (mul_comm 2 (m * up e), mul_comm 2 (down e)) refl

pub ceiled_is : (x : Float) → ceil binary64 x ≡ ceiled x
unfolding round_with ceiled
ceiled_is nan = refl
ceiled_is (inf s) = refl
ceiled_is (fin true m e) = refl
ceiled_is (fin false m e) = ap (λ (q : ℕ). round binary64 false q 1) (over_is (m * up e) (down e) (down_pos e))

-- ---- as whole numbers of 64 bits: the cut toward zero, or one step from it
-- one further from zero, where the range has room
down_step : (q : ℕ) → saturate_to_bits 63 (int64 true q -ℤ pos 1) ≡ int64 true (suc q)
down_step q =
    rw (-ℤ_one, next (min q (2 ^ 63))) (ap (λ (k : ℕ). neg_ℤ (pos k)) (sym (room q (2 ^ 63) (lit< tt))))
  where
    next : (k : ℕ) → pred_ℤ (neg_ℤ (pos k)) ≡ negsuc k
    next zero = refl
    next (suc k) = refl

    room : (q h : ℕ) → 0 < h → min (suc q) h ≡ suc (min (min q h) (h - 1))
    room q h H = omega arith

up_step : (q : ℕ) → saturate_to_bits 63 (int64 false q +ℤ pos 1) ≡ int64 false (suc q)
up_step q = ap pos (room q (2 ^ 63 - 1))
  where
    room : (q h : ℕ) → min (min q h + 1) h ≡ min (suc q) h
    room q h = omega arith

-- there is none from 2^63 on
no_room : (s : Bool) (q : ℕ) → 2 ^ 63 ≤ q → int64 s (suc q) ≡ int64 s q
no_room true q h = ap (λ (k : ℕ). neg_ℤ (pos k)) (end q (2 ^ 63) h)
  where
    end : (q h : ℕ) → h ≤ q → min (suc q) h ≡ min q h
    end q h l = omega arith
no_room false q h = ap pos (end q (2 ^ 63) h)
  where
    end : (q h : ℕ) → h ≤ q → min (suc q) (h - 1) ≡ min q (h - 1)
    end q h l = omega arith

-- n / d is cut to q, and as a float that is p in size
p_le : (n d : ℕ) → min (n / d) (2 ^ 63) * d ≤ n
p_le n d = le_trans (mul-le-mul_right d (min-le_left (n / d) (2 ^ 63))) (div-mul-le_self n d)

module _ (s : Bool) (n d : ℕ) where
  abbrev q : ℕ
  q = n / d

  abbrev p : ℕ
  p = min q (2 ^ 63)

  more : ltb (p * d) n ≡ true → int64 s (suc q) ≡ int64 s (over n d)
  more h = go (lt_or_le (q * d) n)
    where
      far : n ≤ q * d → 2 ^ 63 ≤ q
      far l = most q (2 ^ 63) (lt_of_mul-lt-mul_right d (lt_of_lt_of_le (ltb-true (p * d) n h) l))
        where
          most : (k h : ℕ) → min k h < k → h ≤ k
          most k h l = omega arith

      go : (q * d < n) ⊎ (n ≤ q * d) → int64 s (suc q) ≡ int64 s (over n d)
      go (inl l) = ap (int64 s) (sym (over_more n d l))
      go (inr l) = no_room s q (far l) ∙ ap (int64 s) (sym (over_same n d l))

  same : ltb (p * d) n ≡ false → int64 s q ≡ int64 s (over n d)
  same h =
      ap (int64 s)
      (sym (over_same n d (le_trans (ltb-false (p * d) n h) (mul-le-mul_right d (min-le_left q (2 ^ 63))))))

-- ---- the cut as a float
-- a cut from 2^63 on is the end of the range, and that as a float is 2^63
below_end : (q : ℕ) → q < 2 ^ 63 → (int64 true q ≡ neg_ℤ (pos q)) × (int64 false q ≡ pos q) × (min q (2 ^ 63) ≡ q)
below_end q h = let m : min q (2 ^ 63) ≡ q = min-eq_left (le_of_lt h) in
    (ap (λ (k : ℕ). neg_ℤ (pos k)) m, ap pos (min-eq_left (le_ones 63 h)), m)

from_end : (q : ℕ) → 2 ^ 63 ≤ q →
    (int64 true q ≡ neg_ℤ (pos (2 ^ 63))) × (int64 false q ≡ pos (2 ^ 63 - 1)) × (min q (2 ^ 63) ≡ 2 ^ 63)
from_end q h = let m : min q (2 ^ 63) ≡ 2 ^ 63 = min-eq_right h in (
  ap (λ (k : ℕ). neg_ℤ (pos k)) m,
  ap pos (min-eq_right (le_of_lt (lt_of_lt_of_le (ones_lt 63) h))),
  m,
)

module _ (m : ℕ) (e : ℤ) where
  abbrev cut : ℕ
  cut = m * up e / down e

  float_down : T (fits binary64 (fin true m e)) → Minus (of_int binary64 (int64 true cut)) (min cut (2 ^ 63))
  float_down f = go (lt_or_le cut (2 ^ 63))
    where
      go : (cut < 2 ^ 63) ⊎ (2 ^ 63 ≤ cut) → Minus (of_int binary64 (int64 true cut)) (min cut (2 ^ 63))
      go (inl h) = let r = below_end cut h in rw (r.0, r.2) (back_neg true m e f)
      go (inr h) = let r = from_end cut h in rw (r.0, r.2) (inl (unfold of_int round in (refl, refl)))

  float_up : T (fits binary64 (fin false m e)) → HasValue (of_int binary64 (int64 false cut)) false (min cut (2 ^ 63)) 1
  float_up f = go (lt_or_le cut (2 ^ 63))
    where
      go : (cut < 2 ^ 63) ⊎ (2 ^ 63 ≤ cut) → HasValue (of_int binary64 (int64 false cut)) false (min cut (2 ^ 63)) 1
      go (inl h) = let r = below_end cut h in rw (r.1, r.2) (back_pos false m e f)
      go (inr h) = let r = from_end cut h in rw (r.1, r.2) (unfold of_int round in (refl, refl))

-- ---- floor and ceiling: c is the cut
-- the ends of the range are not beyond the infinities
not_above : (y : Float) → lt (inf false) y ≡ false
unfolding lt
not_above nan = refl
not_above (inf t) = refl
not_above (fin t n d) = refl

not_below : (y : Float) → lt y (inf true) ≡ false
unfolding lt
not_below nan = refl
not_below (inf true) = refl
not_below (inf false) = refl
not_below (fin t n d) = refl

not_nan_above : (y : Float) → lt y nan ≡ false
unfolding lt
not_nan_above nan = refl
not_nan_above (inf t) = refl
not_nan_above (fin t n d) = refl

module _ (m : ℕ) (e : ℤ) where
  abbrev n : ℕ
  n = m * up e

  abbrev d : ℕ
  d = down e

  under_cut : T (fits binary64 (fin true m e)) →
      lt (fin true m e) (of_int binary64 (int64 true (n / d))) ≡ ltb (min (n / d) (2 ^ 63) * d) n
  under_cut f = lt_minus m e (min (n / d) (2 ^ 63)) (of_int binary64 (int64 true (n / d))) (float_down m e f)

  over_cut : T (fits binary64 (fin false m e)) →
      lt (of_int binary64 (int64 false (n / d))) (fin false m e) ≡ ltb (min (n / d) (2 ^ 63) * d) n
  over_cut f = whole_lt m e (min (n / d) (2 ^ 63)) (of_int binary64 (int64 false (n / d))) (float_up m e f)

  not_under : T (fits binary64 (fin false m e)) → lt (fin false m e) (of_int binary64 (int64 false (n / d))) ≡ false
  not_under f =
      lt_whole m e (min (n / d) (2 ^ 63)) (of_int binary64 (int64 false (n / d))) (float_up m e f)
      ∙ le-ltb n (min (n / d) (2 ^ 63) * d) (p_le n d)

  not_over : T (fits binary64 (fin true m e)) → lt (of_int binary64 (int64 true (n / d))) (fin true m e) ≡ false
  not_over f =
      minus_lt m e (min (n / d) (2 ^ 63)) (of_int binary64 (int64 true (n / d))) (float_down m e f)
      ∙ le-ltb n (min (n / d) (2 ^ 63) * d) (p_le n d)

pub floor_step : (x : Float) (c : ℤ) → fits binary64 x ≡ true → c ≡ to_signed 63 x →
    lt x (of_int binary64 c) ≡ true → saturate_to_bits 63 (c -ℤ pos 1) ≡ floor_z x
unfolding to_signed floor_z
floor_step nan c f e h = absurd (true≢false (sym (unfold lt in h)))
floor_step (inf true) c f e h = rw e refl
floor_step (inf false) c f e h = absurd (true≢false (sym h ∙ not_above (of_int binary64 c)))
floor_step (fin true m e) c f p h =
    rw (p, down_step (m * up e / down e)) (more true (m * up e) (down e) (sym (under_cut m e (rw f tt)) ∙ (rw p at h)))
floor_step (fin false m e) c f p h = absurd (true≢false (sym (rw p at h) ∙ not_under m e (rw f tt)))

pub floor_same : (x : Float) (c : ℤ) → fits binary64 x ≡ true → c ≡ to_signed 63 x →
    lt x (of_int binary64 c) ≡ false → c ≡ floor_z x
unfolding to_signed floor_z
floor_same nan c f p h = p
floor_same (inf true) c f p h = p
floor_same (inf false) c f p h = p
floor_same (fin true m e) c f p h =
    p ∙ same true (m * up e) (down e) (sym (under_cut m e (rw f tt)) ∙ (rw p at h))
floor_same (fin false m e) c f p h = p

pub ceil_step : (x : Float) (c : ℤ) → fits binary64 x ≡ true → c ≡ to_signed 63 x →
    lt (of_int binary64 c) x ≡ true → saturate_to_bits 63 (c +ℤ pos 1) ≡ ceil_z x
unfolding to_signed ceil_z
ceil_step nan c f e h = absurd (true≢false (sym h ∙ not_nan_above (of_int binary64 c)))
ceil_step (inf true) c f e h = absurd (true≢false (sym h ∙ not_below (of_int binary64 c)))
ceil_step (inf false) c f e h = rw e refl
ceil_step (fin true m e) c f p h = absurd (true≢false (sym (rw p at h) ∙ not_over m e (rw f tt)))
ceil_step (fin false m e) c f p h =
    rw (p, up_step (m * up e / down e)) (more false (m * up e) (down e) (sym (over_cut m e (rw f tt)) ∙ (rw p at h)))

pub ceil_same : (x : Float) (c : ℤ) → fits binary64 x ≡ true → c ≡ to_signed 63 x →
    lt (of_int binary64 c) x ≡ false → c ≡ ceil_z x
unfolding to_signed ceil_z
ceil_same nan c f p h = p
ceil_same (inf true) c f p h = p
ceil_same (inf false) c f p h = p
ceil_same (fin true m e) c f p h = p
ceil_same (fin false m e) c f p h =
    p ∙ same false (m * up e) (down e) (sym (over_cut m e (rw f tt)) ∙ (rw p at h))
