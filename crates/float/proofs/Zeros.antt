-- Zeros: a finite value times 0 is a zero of its sign, 0 over what is above 0 is 0, what is above 0 over itself is 1,
-- and a value that its rounding keeps exactly stays when a zero is added.
use Rattle.std.proofs.Common.{◌≡◌, ℕ, ◌+◌, ◌-◌, ◌*◌, ◌<◌, Bool, true, false, T, eqb, ltb, pos, sym, refl, ◌∙◌, true≢false, mul_comm, mul-pos, mul-zero, zero-mul, mul-one, arith, lit<, ltb→lt, le-ltb, ne_eqb}
use lib.Ieee.{Float, nan, inf, fin, binary64, up, down, round, sum, add, mul, div, of_bits}
use lib.Ieee.Fits.{up_pos, down_pos}
use lib.Ieee.Exact.{HasValue}
use lib.Ieee.Scale.{round_same}
use lib.Ieee.Positive.{positive}
use Rattle.float.specs.Consts.{zero64, one64}
use Rattle.float.specs.Sign.{is_finite, negative}

pub zero_is : fin false 0 (pos 0) ≡ zero64
zero_is = unfold of_bits in refl

round_zero : (s : Bool) {a : ℕ} (c : ℕ) → a ≡ 0 → 0 < c → round binary64 s a c ≡ fin s 0 (pos 0)
round_zero s {a} c z C = round_same binary64 s a c 0 1 C (lit< tt) (mul-one a ∙ z ∙ sym (zero-mul c)) ∙ go s
  where
    go : (t : Bool) → round binary64 t 0 1 ≡ fin t 0 (pos 0)
    go true = unfold round in refl
    go false = unfold round in refl

-- a finite value times 0
pub times_zero : (x : Float) → is_finite x ≡ true → mul binary64 x (fin false 0 (pos 0)) ≡ fin (negative x) 0 (pos 0)
unfolding is_finite mul negative
times_zero nan h = absurd (true≢false (sym h))
times_zero (inf s) h = absurd (true≢false (sym h))
times_zero (fin true m e) h = round_zero true (down e * 1) (mul-zero (m * up e)) (mul-pos (down_pos e) (lit< tt))
times_zero (fin false m e) h = round_zero false (down e * 1) (mul-zero (m * up e)) (mul-pos (down_pos e) (lit< tt))

-- a value above 0 times 0
pub positive_times_zero : (x : Float) → T (positive x) → mul binary64 x (fin false 0 (pos 0)) ≡ fin false 0 (pos 0)
unfolding is_finite negative
positive_times_zero nan p = absurd p
positive_times_zero (inf s) p = absurd p
positive_times_zero (fin true m e) p = absurd p
positive_times_zero (fin false m e) p = times_zero (fin false m e) refl

not_zero : (n : ℕ) → T (ltb 0 n) → eqb n 0 ≡ false
not_zero n p = ne_eqb n 0 (λ (e : n ≡ 0). omega (arith, ltb→lt 0 n p))

-- 0 over what is above 0
pub zero_over : (y : Float) → T (positive y) → div binary64 (fin false 0 (pos 0)) y ≡ fin false 0 (pos 0)
unfolding div
zero_over nan p = absurd p
zero_over (inf s) p = absurd p
zero_over (fin true n d) p = absurd p
zero_over (fin false n d) p =
    rw (not_zero n p) (round_zero false (n * up d * 1) (zero-mul (down d))
    (mul-pos (mul-pos (ltb→lt 0 n p) (up_pos d)) (lit< tt)))

-- what is above 0 over itself
pub over_self : (y : Float) → T (positive y) → div binary64 y y ≡ one64
unfolding div
over_self nan p = absurd p
over_self (inf s) p = absurd p
over_self (fin true n d) p = absurd p
over_self (fin false n d) p =
    let a = n * up d * down d in
    rw (not_zero n p)
    (round_same binary64 false a a 1 1 (mul-pos (mul-pos (ltb→lt 0 n p) (up_pos d)) (down_pos d)) (lit< tt)
    (mul_comm a 1) ∙ unfold round of_bits in refl)

sum_zero : (z : Bool) (a b c : ℕ) → b ≡ 0 → sum binary64 false a z b c ≡ round binary64 false a c
unfolding sum
sum_zero true a b c h =
    let l : ltb a b ≡ false = le-ltb a b (omega arith) in
    let k : a - b ≡ a = omega arith in
    simp (l, k)
sum_zero false a b c h = let k : a + b ≡ a = omega arith in simp k

-- a zero, of either sign, added to a rounded value that is exact
pub plus_zero : (x : Float) (z : Bool) (a c : ℕ) → 0 < c → x ≡ round binary64 false a c → HasValue x false a c →
    add binary64 x (fin z 0 (pos 0)) ≡ x
unfolding add
plus_zero nan z a c C r v = absurd v
plus_zero (inf s) z a c C r v = absurd v
plus_zero (fin true m e) z a c C r v = absurd (true≢false v.0)
plus_zero (fin false m e) z a c C r v =
    sum_zero z (m * up e * 1) (0 * 1 * down e) (down e * 1) (zero-mul (down e))
    ∙ round_same binary64 false (m * up e * 1) (down e * 1) a c (mul-pos (down_pos e) (lit< tt)) C (simp mul-one v.1)
    ∙ sym r
