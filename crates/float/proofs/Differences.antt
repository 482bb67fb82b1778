-- Differences: x - x is +0, |x - y| is |y - x|, and a difference of finite values is no NaN.
use Rattle.std.proofs.Common.{◌≡◌, ℕ, ◌+◌, ◌-◌, ◌*◌, ◌<◌, Bool, true, false, cond, not, ◌&&◌, ltb, ℤ, pos, sym, refl, ap, ◌∙◌, true≢false, le_of_eq, mul_comm, add_comm, mul-pos, zero-mul, arith, lit<, ltb-false, ltb-true, le-ltb}
use mathlib.Core.Bool.{beq}
use lib.Ieee.{Float, nan, inf, fin, binary64, up, down, round, sum, sub, is_nan}
use lib.Ieee.Fits.{down_pos}
use lib.Ieee.Scale.{round_same}
use Rattle.float.specs.Sign.{absolute, is_finite}
use Rattle.float.proofs.Rounding.{abs_round, round_not_nan}
use Rattle.float.proofs.Larger.{abs_nan}

-- ---- a difference is a sum over one denominator, and a sum is a rounding
sub_is : (s : Bool) (m : ℕ) (e : ℤ) (t : Bool) (n : ℕ) (d : ℤ) →
    sub binary64 (fin s m e) (fin t n d) ≡ sum binary64 s (m * up e * down d) (not t) (n * up d * down e)
    (down e * down d)
unfolding sub
sub_is s m e t n d = refl

sum_is : (s : Bool) (a : ℕ) (t : Bool) (b c : ℕ) →
    sum binary64 s a t b c
    ≡ cond (beq s t) (round binary64 s (a + b) c)
    (cond (ltb a b) (round binary64 t (b - a) c) (round binary64 (s && ltb b a) (a - b) c))
unfolding sum
sum_is s a t b c = refl

-- ---- of values of one size and sign the difference is +0
zero_round : (c : ℕ) → 0 < c → round binary64 false 0 c ≡ fin false 0 (pos 0)
zero_round c C = round_same binary64 false 0 c 0 1 C (lit< tt) (sym (zero-mul c)) ∙ unfold round in refl

sum_level : (s : Bool) (a c : ℕ) → 0 < c → sum binary64 s a (not s) a c ≡ fin false 0 (pos 0)
sum_level s a c C = go s
  where
    level : ltb a a ≡ false
    level = le-ltb a a (le_of_eq refl)

    none : a - a ≡ 0
    none = omega arith

    go : (s : Bool) → sum binary64 s a (not s) a c ≡ fin false 0 (pos 0)
    go true = sum_is true a false a c ∙ simp (level, none) (zero_round c C)
    go false = sum_is false a true a c ∙ simp (level, none) (zero_round c C)

pub sub_level : (s : Bool) (m : ℕ) (e : ℤ) (n : ℕ) (d : ℤ) → m * up e * down d ≡ n * up d * down e →
    sub binary64 (fin s m e) (fin s n d) ≡ fin false 0 (pos 0)
sub_level s m e n d h =
    sub_is s m e s n d ∙ rw h (sum_level s (n * up d * down e) (down e * down d) (mul-pos (down_pos e) (down_pos d)))

pub sub_self : (x : Float) → is_finite x ≡ true → sub binary64 x x ≡ fin false 0 (pos 0)
unfolding is_finite
sub_self nan h = absurd (true≢false (sym h))
sub_self (inf s) h = absurd (true≢false (sym h))
sub_self (fin s m e) h = sub_level s m e m e refl

-- ---- |x - y| is |y - x|
-- how far two sizes lie apart
abbrev gap : ℕ → ℕ → ℕ
gap a b = cond (ltb a b) (b - a) (a - b)

gap_swap : (a b : ℕ) → gap a b ≡ gap b a
gap_swap a b = go (ltb a b) (ltb b a) refl refl
  where
    go : (p q : Bool) → ltb a b ≡ p → ltb b a ≡ q → cond p (b - a) (a - b) ≡ cond q (a - b) (b - a)
    go true true x y = omega (arith, ltb-true a b x, ltb-true b a y)
    go true false x y = refl
    go false true x y = refl
    go false false x y = omega (arith, ltb-false a b x, ltb-false b a y)

abs_sum : (s : Bool) (a : ℕ) (t : Bool) (b c : ℕ) →
    absolute (sum binary64 s a t b c) ≡ round binary64 false (cond (beq s t) (a + b) (gap a b)) c
abs_sum s a t b c = ap absolute (sum_is s a t b c) ∙ go (beq s t) (ltb a b)
  where
    go : (p q : Bool) →
        absolute
        (cond p (round binary64 s (a + b) c)
        (cond q (round binary64 t (b - a) c) (round binary64 (s && ltb b a) (a - b) c)))
        ≡ round binary64 false (cond p (a + b) (cond q (b - a) (a - b))) c
    go true q = abs_round binary64 s (a + b) c
    go false true = abs_round binary64 t (b - a) c
    go false false = abs_round binary64 (s && ltb b a) (a - b) c

sum_swap : (s : Bool) (a : ℕ) (t : Bool) (b : ℕ) →
    cond (beq s (not t)) (a + b) (gap a b) ≡ cond (beq t (not s)) (b + a) (gap b a)
sum_swap true a true b = gap_swap a b
sum_swap true a false b = add_comm a b
sum_swap false a true b = add_comm a b
sum_swap false a false b = gap_swap a b

pub sub_swap : (x y : Float) → absolute (sub binary64 x y) ≡ absolute (sub binary64 y x)
unfolding sub absolute
sub_swap nan nan = refl
sub_swap nan (inf t) = refl
sub_swap nan (fin t n d) = refl
sub_swap (inf s) nan = refl
sub_swap (inf true) (inf true) = refl
sub_swap (inf true) (inf false) = refl
sub_swap (inf false) (inf true) = refl
sub_swap (inf false) (inf false) = refl
sub_swap (inf s) (fin t n d) = refl
sub_swap (fin s m e) nan = refl
sub_swap (fin s m e) (inf t) = refl
sub_swap (fin s m e) (fin t n d) =
    let a = m * up e * down d in
    let b = n * up d * down e in
    abs_sum s a (not t) b (down e * down d)
    ∙ rw (sum_swap s a t b, mul_comm (down e) (down d)) (sym (abs_sum t b (not s) a (down d * down e)))

-- ---- a difference of finite values is no NaN
sum_not_nan : (s : Bool) (a : ℕ) (t : Bool) (b c : ℕ) → is_nan (sum binary64 s a t b c) ≡ false
sum_not_nan s a t b c =
    sym (abs_nan (sum binary64 s a t b c)) ∙ rw (abs_sum s a t b c) (round_not_nan binary64 false _ c)

pub sub_not_nan : (x y : Float) → is_finite x ≡ true → is_finite y ≡ true → is_nan (sub binary64 x y) ≡ false
unfolding is_finite
sub_not_nan nan y h k = absurd (true≢false (sym h))
sub_not_nan (inf s) y h k = absurd (true≢false (sym h))
sub_not_nan (fin s m e) nan h k = absurd (true≢false (sym k))
sub_not_nan (fin s m e) (inf t) h k = absurd (true≢false (sym k))
sub_not_nan (fin s m e) (fin t n d) h k =
    ap is_nan (sub_is s m e t n d) ∙ sum_not_nan s (m * up e * down d) (not t) (n * up d * down e) (down e * down d)
