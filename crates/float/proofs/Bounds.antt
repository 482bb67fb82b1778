-- A count as a float is exact and stands to others as the counts do; `clamped` lies between its ends; and a value
-- between counts has its floor and its ceiling between them.
use Rattle.std.proofs.Common.{◌≡◌, ℕ, zero, suc, ◌+◌, ◌-◌, ◌*◌, ◌/◌, ◌^◌, ◌<◌, ◌≤◌, Bool, true, false, cond, not, T, ltb, leb, ◌⊎◌, ℤ, pos, negsuc, neg_ℤ, nat_abs, sym, refl, ap, ◌∙◌, inl, inr, true≢false, zero-le, le_trans, le_of_eq, lt_of_lt_of_le, lt_of_le_of_lt, mod-eq_of_lt, zero-lt-suc, mul_comm, div-lt_iff_lt-mul, lt_of_mul-lt-mul_right, eq-or-lt_of_le, le-div_iff_mul-le, mul-one, div-mul-le_self, arith, lit≤, ltb-false}
use native.Mathlib.Nat.{div-le_of_le-mul, div-eq_of_lt}
use native.Mathlib.Nat.{le-min, min-le_left}
use lib.Signed.{non_neg}
use lib.Ieee.{Float, nan, inf, fin, binary64, up, down, lt, le, sub, of_int, of_bits, is_nan, fits}
use lib.Ieee.Fits.{down_pos, of_int-fits}
use lib.Ieee.Exact.{HasValue}
use lib.Ieee.Back.{round_whole}
use lib.Ieee.Positive.{positive, positive_of_value}
use Rattle.float.specs.Sign.{absolute, is_finite, at_most}
use Rattle.float.specs.Order.{clamped}
use Rattle.float.specs.Whole.{over, floor_z, ceil_z}
use Rattle.float.specs.Consts.{eps, zero64, one64}
use Rattle.float.specs.Cast.{nat_float, count}
use Rattle.basics.proofs.Tests.{cond_keeps}
use Rattle.float.proofs.Rounding.{round_both}
use Rattle.float.proofs.Signs.{plus_not_below}
use Rattle.float.proofs.Value.{lt_values, lt_whole, whole_lt, minus_below}
use Rattle.float.proofs.Less.{lt_irreflexive, not_ltb, le_is, le_not_nan, le_of_not_lt, not_lt_of_le}
use Rattle.float.proofs.Less.{finite_not_nan}
use Rattle.float.proofs.Differences.{sub_level}
use Rattle.float.proofs.Floors.{over_more, over_same, over_ge}

-- ---- a count as a float

-- up to 2^53 nothing is rounded
pub nat_value : (n : ℕ) → n ≤ 2 ^ 53 → HasValue (nat_float n) false n 1
unfolding nat_float of_int
nat_value n h = round_whole binary64 false n h

-- the format holds it
pub nat_fits : (n : ℕ) → T (fits binary64 (nat_float n))
unfolding nat_float
nat_fits n = of_int-fits binary64 (pos n)

value_finite : (x : Float) (s : Bool) (a c : ℕ) → HasValue x s a c → is_finite x ≡ true
unfolding is_finite
value_finite nan s a c v = absurd v
value_finite (inf t) s a c v = absurd v
value_finite (fin t m e) s a c v = refl

pub nat_finite : (n : ℕ) → n ≤ 2 ^ 53 → is_finite (nat_float n) ≡ true
nat_finite n h = value_finite (nat_float n) false n 1 (nat_value n h)

pub nat_positive : (n : ℕ) → 1 ≤ n → n ≤ 2 ^ 53 → T (positive (nat_float n))
nat_positive n h k = positive_of_value (nat_float n) n 1 (nat_value n k) h

pub nat_zero : nat_float 0 ≡ fin false 0 (pos 0)
nat_zero = unfold nat_float of_int in refl

pub nat_one : nat_float 1 ≡ one64
nat_one = unfold nat_float of_int of_bits in refl

pub nat_not_nan : (n : ℕ) → n ≤ 2 ^ 53 → is_nan (nat_float n) ≡ false
nat_not_nan n h = finite_not_nan (nat_float n) (nat_finite n h)

-- counts as floats compare as the counts
pub nat_lt : (a b : ℕ) → a ≤ 2 ^ 53 → b ≤ 2 ^ 53 → lt (nat_float a) (nat_float b) ≡ ltb a b
nat_lt a b h k =
    lt_values (nat_float a) (nat_float b) false a 1 false b 1 (zero-lt-suc 0) (zero-lt-suc 0) (nat_value a h)
    (nat_value b k) ∙ simp mul-one

pub nat_le : (a b : ℕ) → a ≤ 2 ^ 53 → b ≤ 2 ^ 53 → le (nat_float a) (nat_float b) ≡ leb a b
nat_le a b h k =
    le_is (nat_float a) (nat_float b) (nat_not_nan a h) (nat_not_nan b k) ∙ ap not (nat_lt b a k h) ∙ not_ltb a b

-- a count as a float is not negative, however large
pub nat_nonneg : (n : ℕ) → lt (nat_float n) zero64 ≡ false
unfolding nat_float of_int
nat_nonneg n =
    round_both (λ x y. lt x zero64 ≡ false) false false plus_not_below (unfold lt of_bits in refl) binary64 n 1

-- what is at most a finite bound in magnitude is finite
pub at_most_finite : (x top : Float) → is_finite top ≡ true → at_most x top ≡ true → is_finite x ≡ true
unfolding is_finite absolute le
at_most_finite nan top f h = absurd (true≢false (sym h))
at_most_finite (inf s) nan f h = absurd (true≢false (sym f))
at_most_finite (inf s) (inf t) f h = absurd (true≢false (sym f))
at_most_finite (inf s) (fin t n d) f h = absurd (true≢false (sym h))
at_most_finite (fin s m e) top f h = refl

-- ---- clamp

-- a value between the ends stays as it is, -0 between 0 and 1 too
pub clamp_between : (x lo hi : Float) → lt x lo ≡ false → lt hi x ≡ false → clamped x lo hi ≡ x
unfolding clamped
clamp_between x lo hi h k = simp (h, k)

-- the result is the value or an end: what holds of all three holds of it
pub clamp_keeps : (P : Float → Type 0) (x lo hi : Float) → P x → P lo → P hi → P (clamped x lo hi)
unfolding clamped
clamp_keeps P x lo hi p l h =
    cond_keeps P (lt hi (cond (lt x lo) lo x)) hi (cond (lt x lo) lo x) h (cond_keeps P (lt x lo) lo x l p)

pub clamp_finite : (x lo hi : Float) → is_finite x ≡ true → is_finite lo ≡ true → is_finite hi ≡ true →
    is_finite (clamped x lo hi) ≡ true
clamp_finite = clamp_keeps (λ y. is_finite y ≡ true)

pub clamp_fits : (x lo hi : Float) → T (fits binary64 x) → T (fits binary64 lo) → T (fits binary64 hi) →
    T (fits binary64 (clamped x lo hi))
clamp_fits = clamp_keeps (λ y. T (fits binary64 y))

-- the result is not above the upper end, nor, where the ends are in order, below the lower one
pub clamp_not_above : (x lo hi : Float) → lt hi (clamped x lo hi) ≡ false
unfolding clamped
clamp_not_above x lo hi = go (cond (lt x lo) lo x)
  where
    at : (y : Float) (t : Bool) → lt hi y ≡ t → lt hi (cond t hi y) ≡ false
    at y true p = lt_irreflexive hi
    at y false p = p

    go : (y : Float) → lt hi (cond (lt hi y) hi y) ≡ false
    go y = at y (lt hi y) refl

pub clamp_not_below : (x lo hi : Float) → lt hi lo ≡ false → lt (clamped x lo hi) lo ≡ false
unfolding clamped
clamp_not_below x lo hi h = first (lt x lo) refl
  where
    second : (y : Float) → lt y lo ≡ false → (t : Bool) → lt (cond t hi y) lo ≡ false
    second y p true = h
    second y p false = p

    first : (t : Bool) → lt x lo ≡ t → lt (cond (lt hi (cond t lo x)) hi (cond t lo x)) lo ≡ false
    first true p = second lo (lt_irreflexive lo) (lt hi lo)
    first false p = second x p (lt hi x)

-- of a value that is no NaN and ends in order, the result lies between the ends
module _ (x lo hi : Float) (n : is_nan x ≡ false) (h : le lo hi ≡ true) where
  clamp_not_nan : is_nan (clamped x lo hi) ≡ false
  clamp_not_nan = clamp_keeps (λ y. is_nan y ≡ false) x lo hi n (le_not_nan lo hi h).0 (le_not_nan lo hi h).1

  pub clamp_above : le lo (clamped x lo hi) ≡ true
  clamp_above =
      le_of_not_lt lo (clamped x lo hi) (le_not_nan lo hi h).0 clamp_not_nan
      (clamp_not_below x lo hi (not_lt_of_le lo hi h))

  pub clamp_below : le (clamped x lo hi) hi ≡ true
  clamp_below = le_of_not_lt (clamped x lo hi) hi clamp_not_nan (le_not_nan lo hi h).1 (clamp_not_above x lo hi)

-- what is clamped to 0 and a count is not negative
pub clamped_nonneg : (v : Float) (n : ℕ) → lt (clamped v zero64 (nat_float n)) zero64 ≡ false
clamped_nonneg v n = clamp_not_below v zero64 (nat_float n) (nat_nonneg n)

-- ---- floors and ceilings

-- a finite value lies between the infinities
pub inside : (y : Float) → is_finite y ≡ true → (lt y (inf false) ≡ true) × (lt (inf true) y ≡ true)
unfolding is_finite lt
inside nan h = absurd (true≢false (sym h))
inside (inf t) h = absurd (true≢false (sym h))
inside (fin t m e) h = (refl, refl)

-- a finite value not above n is at most n as a fraction
pub most : (m : ℕ) (e : ℤ) (n : ℕ) → n ≤ 2 ^ 53 → lt (nat_float n) (fin false m e) ≡ false → m * up e ≤ n * down e
most m e n h l = ltb-false (n * down e) (m * up e) (sym (whole_lt m e n (nat_float n) (nat_value n h)) ∙ l)

-- a whole number that is not above 0 counts as 0
count_neg : (k : ℕ) → count (neg_ℤ (pos k)) ≡ 0
count_neg zero = refl
count_neg (suc k) = refl

-- a value that is n is within EPS of n
same_close : (m : ℕ) (e : ℤ) (y : Float) (n : ℕ) → HasValue y false n 1 → m * up e ≡ n * down e →
    lt (absolute (sub binary64 (fin false m e) y)) eps ≡ true
same_close m e nan n v h = absurd v
same_close m e (inf s) n v h = absurd v
same_close m e (fin true k d) n v h = absurd (true≢false v.0)
same_close m e (fin false k d) n v h =
    rw (sub_level false m e k d (cross (m * up e) (down e) (k * up d) (down d) h v.1))
    (unfold lt absolute eps of_bits in refl)
  where
    cross : (a b c d : ℕ) → a ≡ n * b → c * 1 ≡ n * d → a * d ≡ c * b
    cross a b c d p q = omega (arith, ap (λ (x : ℕ). x * d) p, ap (λ (x : ℕ). x * b) q)

-- the floor of what is not above n, and not within EPS of n, is a count below n
pub floor_below : (v : Float) (n : ℕ) → 0 < n → n ≤ 2 ^ 53 → lt (nat_float n) v ≡ false →
    lt (absolute (sub binary64 v (nat_float n))) eps ≡ false → count (floor_z v) < n
unfolding floor_z
floor_below nan n N h l c = N
floor_below (inf true) n N h l c = N
floor_below (inf false) n N h l c = absurd (true≢false (sym (inside (nat_float n) (nat_finite n h)).0 ∙ l))
floor_below (fin true m e) n N h l c = rw count_neg N
floor_below (fin false m e) n N h l c =
    lt_of_le_of_lt (min-le_left (m * up e / down e) (2 ^ 63 - 1))
    ((div-lt_iff_lt-mul (down_pos e)).1 (strict (eq-or-lt_of_le (most m e n h l))))
  where
    strict : (m * up e ≡ n * down e) ⊎ (m * up e < n * down e) → m * up e < n * down e
    strict (inl p) = absurd (true≢false (sym (same_close m e (nat_float n) n (nat_value n h) p) ∙ c))
    strict (inr q) = q

-- the floor of a value clamped to 0 and n, and not within EPS of n, is a count below n
pub floor_count : (v : Float) (n : ℕ) → 0 < n → n ≤ 2 ^ 53 →
    lt (absolute (sub binary64 (clamped v zero64 (nat_float n)) (nat_float n))) eps ≡ false →
    count (floor_z (clamped v zero64 (nat_float n))) < n
floor_count v n N h c = floor_below (clamped v zero64 (nat_float n)) n N h (clamp_not_above v zero64 (nat_float n)) c

-- the floor of what is not below 0 is not negative
pub floor_nonneg : (v : Float) → lt v zero64 ≡ false → T (non_neg (floor_z v))
unfolding floor_z lt of_bits
floor_nonneg nan h = tt
floor_nonneg (inf true) h = absurd (true≢false h)
floor_nonneg (inf false) h = tt
floor_nonneg (fin false m e) h = tt
floor_nonneg (fin true m e) h =
    let z : m * up e ≡ 0 = gone (m * up e) (0 * down e) (ltb-false 0 (m * up e * 1 + 0 * down e) h) in
    rw (z, div-eq_of_lt (down_pos e), mod-eq_of_lt (down_pos e)) tt
  where
    gone : (a b : ℕ) → a * 1 + b ≤ 0 → a ≡ 0
    gone a b l = omega arith

-- where a whole number is not negative, its count is its magnitude
pub abs_count : (z : ℤ) → T (non_neg z) → nat_abs z ≡ count z
abs_count (pos n) h = refl
abs_count (negsuc n) h = absurd h

-- where a / d is at most n, so it is rounded up
over_le : (a d n : ℕ) → a ≤ n * d → over a d ≤ n
over_le a d n h = go (eq-or-lt_of_le (div-mul-le_self a d))
  where
    go : (a / d * d ≡ a) ⊎ (a / d * d < a) → over a d ≤ n
    go (inl p) =
        le_trans (le_of_eq (over_same a d (le_of_eq (sym p))))
        (div-le_of_le-mul d (le_trans h (le_of_eq (mul_comm n d))))
    go (inr p) = le_trans (le_of_eq (over_more a d p)) (lt_of_mul-lt-mul_right d (lt_of_lt_of_le p h))

-- a value that is not above n has its floor and its ceiling at most n
pub whole_at_most : (v : Float) (n : ℕ) → n ≤ 2 ^ 53 → lt (nat_float n) v ≡ false →
    (count (floor_z v) ≤ n) × (count (ceil_z v) ≤ n)
unfolding floor_z ceil_z
whole_at_most nan n h l = (zero-le, zero-le)
whole_at_most (inf true) n h l = (zero-le, zero-le)
whole_at_most (inf false) n h l = absurd (true≢false (sym (inside (nat_float n) (nat_finite n h)).0 ∙ l))
whole_at_most (fin true m e) n h l = (rw count_neg zero-le, rw count_neg zero-le)
whole_at_most (fin false m e) n h l =
    let up_to_lem = over_le (m * up e) (down e) n (most m e n h l) in (
      le_trans (min-le_left (m * up e / down e) _) (le_trans (over_ge (m * up e) (down e)) up_to_lem),
      le_trans (min-le_left (over (m * up e) (down e)) _) up_to_lem,
    )

pub floor_at_most : (v : Float) (n : ℕ) → le v (nat_float n) ≡ true → n ≤ 2 ^ 53 → count (floor_z v) ≤ n
floor_at_most v n l h = (whole_at_most v n h (not_lt_of_le v (nat_float n) l)).0

pub ceil_at_most : (v : Float) (n : ℕ) → le v (nat_float n) ≡ true → n ≤ 2 ^ 53 → count (ceil_z v) ≤ n
ceil_at_most v n l h = (whole_at_most v n h (not_lt_of_le v (nat_float n) l)).1

-- a value at least n has its floor and its ceiling at least n
pub whole_at_least : (v : Float) (n : ℕ) → n ≤ 2 ^ 53 → le (nat_float n) v ≡ true →
    (n ≤ count (floor_z v)) × (n ≤ count (ceil_z v))
unfolding floor_z ceil_z
whole_at_least nan n h l = absurd (true≢false (unfold is_nan in (le_not_nan (nat_float n) nan l).1))
whole_at_least (inf true) n h l =
    absurd (true≢false (sym (inside (nat_float n) (nat_finite n h)).1 ∙ not_lt_of_le (nat_float n) (inf true) l))
whole_at_least (inf false) n h l = (le_trans h (lit≤ tt), le_trans h (lit≤ tt))
whole_at_least (fin true m e) zero h l = (zero-le, zero-le)
whole_at_least (fin true m e) (suc n) h l =
    let less = minus_below m e (suc n) (nat_float (suc n)) (zero-lt-suc n) (nat_value (suc n) h) in
    absurd (true≢false (sym less ∙ not_lt_of_le (nat_float (suc n)) (fin true m e) l))
whole_at_least (fin false m e) n h l =
    let least : n * down e ≤ m * up e =
    ltb-false (m * up e) (n * down e)
    (sym (lt_whole m e n (nat_float n) (nat_value n h)) ∙ not_lt_of_le (nat_float n) (fin false m e) l) in
    let down_to : n ≤ m * up e / down e = (le-div_iff_mul-le (down_pos e)).1 least in
    let few : n ≤ 2 ^ 63 - 1 = le_trans h (lit≤ tt) in
    (le-min down_to few, le-min (le_trans down_to (over_ge (m * up e) (down e))) few)

pub floor_at_least : (v : Float) (n : ℕ) → le (nat_float n) v ≡ true → n ≤ 2 ^ 53 → n ≤ count (floor_z v)
floor_at_least v n l h = (whole_at_least v n h l).0

pub ceil_at_least : (v : Float) (n : ℕ) → le (nat_float n) v ≡ true → n ≤ 2 ^ 53 → n ≤ count (ceil_z v)
ceil_at_least v n l h = (whole_at_least v n h l).1
