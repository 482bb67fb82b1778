-- What the tests of code say: a comparison under `!`, two joined by `&` or `|`, one whose other answer cannot be, two
-- that answer alike or not, and what is picked by one.
use mathlib.Core.Path.{◌≡◌, refl, sym, ◌∙◌}
use mathlib.Core.Logic.{◌⊎◌, inl, inr}
use mathlib.Core.Bool.{Bool, true, false, not, ◌&&◌, ◌||◌, cond, and-eq-true_iff, true≢false, false≢true}
use borrow.Author.Tests.{not-true, not-false}

-- r is the answer x of a call
pub held : {r x : Bool} → r ≡ x → not r ≡ false → x ≡ true
held e h = sym e ∙ not-false _ h

pub failed : {r x : Bool} → r ≡ x → not r ≡ true → x ≡ false
failed e h = sym e ∙ not-true _ h

pub and_both : (a b : Bool) → a && b ≡ true → (a ≡ true) × (b ≡ true)
and_both a b = (and-eq-true_iff a b).0

-- the first of two that are not both true is
pub and_other : (a b : Bool) → a && b ≡ false → a ≡ true → b ≡ false
and_other true b h e = h
and_other false b h e = absurd (true≢false (sym e))

pub or_one : (a b : Bool) → a || b ≡ true → (a ≡ true) ⊎ (b ≡ true)
or_one true b h = inl refl
or_one false b h = inr h

pub or_neither : (a b : Bool) → a || b ≡ false → (a ≡ false) × (b ≡ false)
or_neither true b h = absurd (true≢false h)
or_neither false b h = (refl, h)

pub same_or_not : (t s : Bool) → (s ≡ t) ⊎ (s ≡ not t)
same_or_not true true = inl refl
same_or_not true false = inr refl
same_or_not false true = inr refl
same_or_not false false = inl refl

pub not_self : (t : Bool) → not t ≡ t → ⊥
not_self true e = false≢true e
not_self false e = true≢false e

pub must : (t : Bool) → (t ≡ false → ⊥) → t ≡ true
must true f = refl
must false f = absurd (f refl)

pub cannot : (t : Bool) → (t ≡ true → ⊥) → t ≡ false
cannot true f = absurd (f refl)
cannot false f = refl

pub cond_keeps : {A : Type 0} (P : A → Type 0) (t : Bool) (a b : A) → P a → P b → P (cond t a b)
cond_keeps P true a b p q = p
cond_keeps P false a b p q = q

-- the same, each value in the case that picks it
pub cond_case : {A : Type 0} (P : A → Type 0) (t : Bool) (a b : A) → (t ≡ true → P a) →
    (t ≡ false → P b) → P (cond t a b)
cond_case P true a b p q = p refl
cond_case P false a b p q = q refl
