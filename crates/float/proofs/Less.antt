-- Laws of `lt`, `le` and `eq`, as tests give them: less is irreflexive and asymmetric, "not less" is transitive, at most
-- is that the other is not less, and only a NaN differs from itself.
use Rattle.std.proofs.Common.{◌≡◌, ℕ, ◌*◌, Bool, true, false, not, ltb, leb, sym, refl, ◌∙◌, true≢false, ltb-false, ltb-true, eq-eqb, le-leb}
use Rattle.std.proofs.lemmas.Float as Std
use Rattle.std.proofs.lemmas.Float.{T_from_true, T_from_false}
use Rattle.std.specs.Float.{NotNan, ◌<ᶠ◌, ◌≤ᶠ◌}
use mathlib.Core.Bool.{not-not}
use lib.Ieee.{Float, nan, inf, fin, up, down, lt, le, eq, ne, is_nan}
use lib.Ieee.Bits.{is_true}
use borrow.Author.Tests.{not-true, lt-leb}
use Rattle.float.specs.Sign.{is_finite}
use Rattle.basics.proofs.Tests.{must, cannot}

-- ---- less
pub lt_irreflexive : (x : Float) → lt x x ≡ false
lt_irreflexive x = cannot (lt x x) (λ h. Std.lt_irrefl x (T_from_true (lt x x) h))

pub lt_asymmetric : (x y : Float) → lt x y ≡ true → lt y x ≡ false
lt_asymmetric x y h =
    cannot (lt y x)
    (λ k. Std.lt_irrefl x (Std.lt_trans x y x (T_from_true (lt x y) h) (T_from_true (lt y x) k)))

pub not_lt_trans : (x y z : Float) → is_nan y ≡ false → lt x y ≡ false → lt y z ≡ false → lt x z ≡ false
not_lt_trans x y z n h k = cannot (lt x z) (λ p. against (T_from_true (lt x z) p))
  where
    numbers : x <ᶠ z → NotNan x × NotNan z
    numbers l = let m : x ≤ᶠ z = Std.le_of_lt x z l in (Std.le_left x z m, Std.le_right x z m)

    against : x <ᶠ z → ⊥
    against l =
        let y_number = T_from_false (is_nan y) n in
        let z_at_most_y = Std.le_of_not-lt y z y_number (numbers l).1 (T_from_false (lt y z) k) in
        let y_at_most_x = Std.le_of_not-lt x y (numbers l).0 y_number (T_from_false (lt x y) h) in
        Std.lt_irrefl z (Std.lt_of_le_of_lt z x z (Std.le_trans z y x z_at_most_y y_at_most_x) l)

-- ---- at most: the other is not less, where neither is a NaN
pub not_lt_of_le : (x y : Float) → le x y ≡ true → lt y x ≡ false
not_lt_of_le x y h =
    cannot (lt y x)
    (λ k. Std.lt_irrefl y (Std.lt_of_lt_of_le y x y (T_from_true (lt y x) k) (T_from_true (le x y) h)))

pub le_of_not_lt : (x y : Float) → is_nan x ≡ false → is_nan y ≡ false → lt y x ≡ false → le x y ≡ true
le_of_not_lt x y p q h =
    is_true (le x y)
    (Std.le_of_not-lt y x (T_from_false (is_nan y) q) (T_from_false (is_nan x) p) (T_from_false (lt y x) h))

pub le_is : (x y : Float) → is_nan x ≡ false → is_nan y ≡ false → le x y ≡ not (lt y x)
le_is x y p q = go (lt y x) refl
  where
    go : (t : Bool) → lt y x ≡ t → le x y ≡ not t
    go true k = cannot (le x y) (λ h. true≢false (sym k ∙ not_lt_of_le x y h))
    go false k = le_of_not_lt x y p q k

-- at most makes neither a NaN
pub le_not_nan : (x y : Float) → le x y ≡ true → (is_nan x ≡ false) × (is_nan y ≡ false)
le_not_nan x y h =
    let l : x ≤ᶠ y = T_from_true (le x y) h in
    (number x (Std.le_left x y l), number y (Std.le_right x y l))
  where
    number : (z : Float) → NotNan z → is_nan z ≡ false
    number z t = not-true (is_nan z) (is_true (not (is_nan z)) t)

pub le_reflexive : (x : Float) → is_nan x ≡ false → le x x ≡ true
le_reflexive x n = le_of_not_lt x x n n (lt_irreflexive x)

pub lt_le : (x y : Float) → lt x y ≡ true → le x y ≡ true
unfolding le
lt_le x y h = rw h

pub le_transitive : (x y z : Float) → le x y ≡ true → le y z ≡ true → le x z ≡ true
le_transitive x y z h k =
    let a = le_not_nan x y h in
    let b = le_not_nan y z k in
    le_of_not_lt x z a.0 b.1 (not_lt_trans z y x a.1 (not_lt_of_le y z k) (not_lt_of_le x y h))

-- less than what is at most, and at most what is less
pub lt_le_trans : (x y z : Float) → lt x y ≡ true → le y z ≡ true → lt x z ≡ true
lt_le_trans x y z h k =
    must (lt x z) (λ p. true≢false (sym h ∙ not_lt_trans x z y (le_not_nan y z k).1 p (not_lt_of_le y z k)))

pub le_lt_trans : (x y z : Float) → le x y ≡ true → lt y z ≡ true → lt x z ≡ true
le_lt_trans x y z h k =
    must (lt x z) (λ p. true≢false (sym k ∙ not_lt_trans y x z (le_not_nan x y h).0 (not_lt_of_le x y h) p))

pub lt_transitive : (x y z : Float) → lt x y ≡ true → lt y z ≡ true → lt x z ≡ true
lt_transitive x y z h k = lt_le_trans x y z h (lt_le y z k)

-- only a NaN differs from itself
pub eq_self : (x : Float) → eq x x ≡ not (is_nan x)
unfolding eq is_nan
eq_self nan = refl
eq_self (inf true) = refl
eq_self (inf false) = refl
eq_self (fin true m e) = rw (eq-eqb (m * up e * down e) (m * up e * down e) refl)
eq_self (fin false m e) = rw (eq-eqb (m * up e * down e) (m * up e * down e) refl)

pub ne_self : (x : Float) → ne x x ≡ is_nan x
unfolding ne
ne_self x = rw (eq_self x) (not-not (is_nan x))

pub finite_not_nan : (x : Float) → is_finite x ≡ true → is_nan x ≡ false
unfolding is_finite is_nan
finite_not_nan nan h = sym h
finite_not_nan (inf s) h = refl
finite_not_nan (fin s m e) h = refl

-- ---- of whole numbers
pub not_ltb : (a b : ℕ) → not (ltb b a) ≡ leb a b
not_ltb a b = go (ltb b a) refl
  where
    go : (t : Bool) → ltb b a ≡ t → not t ≡ leb a b
    go true p = sym (lt-leb a b (ltb-true b a p))
    go false p = sym (le-leb a b (ltb-false b a p))
