-- A value between 0 and a count n can be cut to a whole number, which is at most n: it lies above -1 and below 2^64.
-- And one that is at least a count is so when it is cut.
use Rattle.std.proofs.Common.{◌≡◌, ℕ, zero, suc, ◌-◌, ◌*◌, ◌/◌, ◌^◌, ◌<◌, ◌≤◌, min, true, false, T, pos, neg_ℤ, sym, refl, ◌∙◌, true≢false, le_trans, le_of_eq, le_refl, mul_comm, arith, lit≤, lt-ltb}
use native.Mathlib.Nat.{div-le_of_le-mul, min-le_left}
use lib.Ieee.{Float, nan, inf, fin, up, down, lt, le, of_bits, is_nan, to_unsigned}
use Rattle.float.specs.Consts.{zero64}
use Rattle.float.specs.Whole.{over, floor_z}
use Rattle.float.specs.Cast.{nat_float, count}
use Rattle.float.proofs.Value.{whole_lt}
use Rattle.float.proofs.Less.{le_of_not_lt, not_lt_of_le, le_transitive, lt_le_trans, le_lt_trans}
use Rattle.float.proofs.Bounds.{nat_value, nat_finite, nat_not_nan, nat_nonneg, inside, most, floor_at_least}

-- what `std::num::truncating_f64_to_u64` asks of y
abbrev pub Asked : Float → Type 0
Asked y = T (lt (fin true 1 (pos 0)) y) × T (lt y (fin false 1 (pos 64)))

-- and a bound on what it gives
abbrev pub Counted : Float → ℕ → Type 0
Counted y n = Asked y × (to_unsigned 64 y ≤ n)

-- cut toward zero, a value that is not above n is at most n
cut_at_most : (y : Float) (n : ℕ) → n ≤ 2 ^ 53 → lt (nat_float n) y ≡ false → to_unsigned 64 y ≤ n
unfolding to_unsigned
cut_at_most nan n h l = omega arith
cut_at_most (inf true) n h l = omega arith
cut_at_most (inf false) n h l = absurd (true≢false (sym (inside (nat_float n) (nat_finite n h)).0 ∙ l))
cut_at_most (fin true m e) n h l = omega arith
cut_at_most (fin false m e) n h l =
    le_trans (min-le_left (m * up e / down e) (2 ^ 64 - 1))
    (div-le_of_le-mul (down e) (le_trans (most m e n h l) (le_of_eq (mul_comm n (down e)))))

pub counted : (y : Float) (n : ℕ) → n ≤ 2 ^ 53 → le zero64 y ≡ true → le y (nat_float n) ≡ true → Counted y n
counted y n h lo hi =
    let above : lt (fin true 1 (pos 0)) y ≡ true =
    lt_le_trans (fin true 1 (pos 0)) zero64 y (unfold lt of_bits in refl) lo in
    let few : lt (nat_float n) (fin false 1 (pos 64)) ≡ true =
    whole_lt 1 (pos 64) n (nat_float n) (nat_value n h) ∙ lt-ltb (n * 1) (1 * 2 ^ 64) (small n h) in (
      (rw above tt, rw (le_lt_trans y (nat_float n) (fin false 1 (pos 64)) hi few) tt),
      cut_at_most y n h (not_lt_of_le y (nat_float n) hi),
    )
  where
    small : (k : ℕ) → k ≤ 9007199254740992 → k * 1 < 18446744073709551616
    small k l = omega arith

-- a value cut toward zero is no less than its floor
floor_cut : (y : Float) → count (floor_z y) ≤ to_unsigned 64 y
unfolding floor_z to_unsigned
floor_cut nan = le_refl 0
floor_cut (inf true) = le_refl 0
floor_cut (inf false) = lit≤ tt
floor_cut (fin true m e) = none (min (over (m * up e) (down e)) (2 ^ 63))
  where
    none : (k : ℕ) → count (neg_ℤ (pos k)) ≤ 0
    none zero = le_refl 0
    none (suc k) = le_refl 0
floor_cut (fin false m e) = wider (m * up e / down e)
  where
    wider : (q : ℕ) → min q 9223372036854775807 ≤ min q 18446744073709551615
    wider q = omega arith

-- a value from k to n, cut toward zero, is from k to n
pub cut_between : (x : Float) (k n : ℕ) → k ≤ 2 ^ 53 → n ≤ 2 ^ 53 → le (nat_float k) x ≡ true →
    le x (nat_float n) ≡ true → (k ≤ to_unsigned 64 x) × (to_unsigned 64 x ≤ n)
cut_between x k n hk hn lo hi =
    let from_zero =
    le_of_not_lt zero64 (nat_float k) (unfold is_nan of_bits in refl) (nat_not_nan k hk) (nat_nonneg k) in (
      le_trans (floor_at_least x k lo hk) (floor_cut x),
      (counted x n hn (le_transitive zero64 (nat_float k) x from_zero lo) hi).1,
    )
