-- `larger` by the tests of `max`, and its laws: it is one of the two and at least the second, it is below e where both
-- are, a NaN left out, and a NaN only where both are.
use Rattle.std.proofs.Common.{◌≡◌, Bool, true, false, cond, ◌&&◌, ◌||◌, sym, refl, ◌∙◌, true≢false}
use mathlib.Core.Bool.{and-true, or-false}
use lib.Ieee.{Float, nan, inf, fin, lt, le, is_nan}
use Rattle.float.specs.Sign.{absolute}
use Rattle.float.specs.Order.{larger}
use Rattle.basics.proofs.Tests.{cond_keeps, cond_case}
use Rattle.float.proofs.Less.{lt_transitive, not_lt_trans, le_of_not_lt, le_reflexive}

pub abs_nan : (x : Float) → is_nan (absolute x) ≡ is_nan x
unfolding is_nan absolute
abs_nan nan = refl
abs_nan (inf s) = refl
abs_nan (fin s m e) = refl

-- by the two tests of `max`
pub larger_is : (x y : Float) → larger x y ≡ cond (lt x y) y (cond (is_nan x) y x)
unfolding larger lt is_nan
larger_is nan y = refl
larger_is (inf s) y = refl
larger_is (fin s m e) y = refl

-- what holds of both holds of the larger
pub larger_keeps : (P : Float → Type 0) (x y : Float) → P x → P y → P (larger x y)
larger_keeps P x y p q = rw (larger_is x y) (cond_keeps P (lt x y) y _ q (cond_keeps P (is_nan x) y x q p))

-- it is at least the second
pub larger_least : (x y : Float) → is_nan y ≡ false → le y (larger x y) ≡ true
larger_least x y n =
    let same = le_reflexive y n in
    rw (larger_is x y)
    (cond_case (λ z. le y z ≡ true) (lt x y) y _ (λ a. same)
    (λ a. cond_case (λ z. le y z ≡ true) (is_nan x) y x (λ b. same) (λ b. le_of_not_lt y x n b a)))

-- of two that are no NaN
pub larger_below : (x y e : Float) → is_nan x ≡ false → is_nan y ≡ false → lt (larger x y) e ≡ lt x e && lt y e
larger_below x y e m n = rw (larger_is x y, m) (go (lt x y) (lt x e) (lt y e) refl refl refl)
  where
    go : (p q r : Bool) → lt x y ≡ p → lt x e ≡ q → lt y e ≡ r → lt (cond p y x) e ≡ q && r
    go true true r a b c = c
    go true false true a b c = absurd (true≢false (sym (lt_transitive x y e a c) ∙ b))
    go true false false a b c = c
    go false false r a b c = b
    go false true true a b c = b
    go false true false a b c = absurd (true≢false (sym b ∙ not_lt_trans x y e n a c))

larger_no_nan : (x y : Float) → is_nan x ≡ false → is_nan y ≡ false → is_nan (larger x y) ≡ false
larger_no_nan x y m n = larger_keeps (λ z. is_nan z ≡ false) x y m n

both_under : (x y e : Float) → is_nan x ≡ false → is_nan y ≡ false →
    lt (larger x y) e || is_nan (larger x y) ≡ (lt x e || is_nan x) && (lt y e || is_nan y)
both_under x y e m n = simp (larger_below x y e m n, larger_no_nan x y m n, m, n, or-false)

-- of any two
pub larger_nan : (x y : Float) → is_nan (larger x y) ≡ is_nan x && is_nan y
unfolding larger lt is_nan
larger_nan nan y = refl
larger_nan (inf s) nan = refl
larger_nan (inf s) (inf t) = larger_no_nan (inf s) (inf t) refl refl
larger_nan (inf s) (fin t n d) = larger_no_nan (inf s) (fin t n d) refl refl
larger_nan (fin s m g) nan = refl
larger_nan (fin s m g) (inf t) = larger_no_nan (fin s m g) (inf t) refl refl
larger_nan (fin s m g) (fin t n d) = larger_no_nan (fin s m g) (fin t n d) refl refl

-- below e or a NaN
pub larger_under : (x y e : Float) →
    lt (larger x y) e || is_nan (larger x y) ≡ (lt x e || is_nan x) && (lt y e || is_nan y)
unfolding larger lt is_nan
larger_under nan y e = refl
larger_under (inf s) nan e = sym (and-true (lt (inf s) e || false))
larger_under (inf s) (inf t) e = both_under (inf s) (inf t) e refl refl
larger_under (inf s) (fin t n d) e = both_under (inf s) (fin t n d) e refl refl
larger_under (fin s m g) nan e = sym (and-true (lt (fin s m g) e || false))
larger_under (fin s m g) (inf t) e = both_under (fin s m g) (inf t) e refl refl
larger_under (fin s m g) (fin t n d) e = both_under (fin s m g) (fin t n d) e refl refl

-- a NaN is below nothing
pub nan_not_below : (x e : Float) → is_nan x ≡ true → lt x e ≡ false
unfolding is_nan lt
nan_not_below nan e h = refl
nan_not_below (inf s) e h = absurd (true≢false (sym h))
nan_not_below (fin s m g) e h = absurd (true≢false (sym h))
