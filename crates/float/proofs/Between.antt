-- The magnitude of x is below y, or at most y, exactly if x lies between -y and y, so that it is told by two
-- comparisons of x. By the signs, down to the sizes a of x and b of y on one scale: what a sign adds is the test
-- 0 < a + b, and it holds where a < b does.
use Rattle.std.proofs.Common.{◌≡◌, ℕ, ◌+◌, ◌*◌, Bool, true, false, not, ◌&&◌, ◌||◌, ltb, sym, refl, ap, ◌∙◌, true≢false, add_comm, arith, ltb-true, lt-ltb}
use mathlib.Core.Bool.{and_comm, and-false, or_comm, or-false}
use lib.Ieee.{Float, nan, inf, fin, up, down, below, lt, le, neg, is_nan}
use Rattle.float.specs.Sign.{absolute, at_most}
use Rattle.basics.proofs.Tests.{cannot}
use Rattle.float.proofs.Less.{le_is, le_not_nan}
use Rattle.float.proofs.Larger.{abs_nan}

module _ (a b : ℕ) where
  some : ltb a b ≡ true → ltb 0 (a + b) ≡ true
  some h = lt-ltb 0 (a + b) (omega (arith, ltb-true a b h))

  -- so beside a < b it adds nothing, and a < b adds nothing to it
  less_and : ltb a b ≡ ltb a b && ltb 0 (a + b)
  less_and = go (ltb a b) some
    where
      go : (t : Bool) → (t ≡ true → ltb 0 (a + b) ≡ true) → t ≡ t && ltb 0 (a + b)
      go true h = sym (h refl)
      go false h = refl

  less_or : ltb 0 (a + b) ≡ ltb a b || ltb 0 (a + b)
  less_or = go (ltb a b) some
    where
      go : (t : Bool) → (t ≡ true → ltb 0 (a + b) ≡ true) → ltb 0 (a + b) ≡ t || ltb 0 (a + b)
      go true h = h refl
      go false h = refl

-- ---- below
below_both : (s t : Bool) (a b : ℕ) → below false a t b ≡ below (not t) b s a && below s a t b
below_both true true a b = refl
below_both true false a b = less_and a b
below_both false true a b = sym (and-false (ltb b a))
below_both false false a b = less_and a b ∙ and_comm (ltb a b) (ltb 0 (a + b)) ∙ simp (add_comm a b)

pub abs_below : (x y : Float) → lt (absolute x) y ≡ lt (neg y) x && lt x y
unfolding lt neg absolute
abs_below nan y = sym (and-false (lt (neg y) nan))
abs_below (inf s) nan = refl
abs_below (inf true) (inf true) = refl
abs_below (inf true) (inf false) = refl
abs_below (inf false) (inf true) = refl
abs_below (inf false) (inf false) = refl
abs_below (inf true) (fin t n d) = refl
abs_below (inf false) (fin t n d) = refl
abs_below (fin s m e) nan = refl
abs_below (fin s m e) (inf true) = refl
abs_below (fin s m e) (inf false) = refl
abs_below (fin s m e) (fin t n d) = below_both s t (m * up e * down d) (n * up d * down e)

-- ---- at most: the other is not less
above_either : (s t : Bool) (a b : ℕ) → below t b false a ≡ below s a (not t) b || below t b s a
above_either true true a b = ap (ltb 0) (add_comm b a) ∙ less_or a b ∙ or_comm (ltb a b) (ltb 0 (a + b))
above_either true false a b = sym (or-false (ltb b a))
above_either false true a b = ap (ltb 0) (add_comm b a) ∙ less_or a b ∙ simp (add_comm a b)
above_either false false a b = refl

abs_above : (x y : Float) → lt y (absolute x) ≡ lt x (neg y) || lt y x
unfolding lt neg absolute
abs_above nan nan = refl
abs_above nan (inf t) = refl
abs_above nan (fin t n d) = refl
abs_above (inf s) nan = refl
abs_above (inf true) (inf true) = refl
abs_above (inf true) (inf false) = refl
abs_above (inf false) (inf true) = refl
abs_above (inf false) (inf false) = refl
abs_above (inf true) (fin t n d) = refl
abs_above (inf false) (fin t n d) = refl
abs_above (fin s m e) nan = refl
abs_above (fin s m e) (inf true) = refl
abs_above (fin s m e) (inf false) = refl
abs_above (fin s m e) (fin t n d) = above_either s t (m * up e * down d) (n * up d * down e)

pub neg_nan : (x : Float) → is_nan (neg x) ≡ is_nan x
unfolding neg is_nan
neg_nan nan = refl
neg_nan (inf s) = refl
neg_nan (fin s m e) = refl

-- no value is at most a NaN, nor a NaN at most a value
pub not_le_nan : (x y : Float) → is_nan y ≡ true → (le x y ≡ false) × (le y x ≡ false)
not_le_nan x y h = (
  cannot (le x y) (λ e. true≢false (sym h ∙ (le_not_nan x y e).1)),
  cannot (le y x) (λ e. true≢false (sym h ∙ (le_not_nan y x e).0)),
)

pub between_is : (x top : Float) → le (neg top) x && le x top ≡ at_most x top
between_is x top = go (is_nan x) (is_nan top) refl refl
  where
    neither : (p q : Bool) → not p && not q ≡ not (p || q)
    neither true q = refl
    neither false q = refl

    go : (m n : Bool) → is_nan x ≡ m → is_nan top ≡ n → le (neg top) x && le x top ≡ at_most x top
    go true n h k = simp ((not_le_nan (neg top) x h).0, (not_le_nan top (absolute x) (abs_nan x ∙ h)).1)
    go false true h k =
        simp ((not_le_nan x top k).0, (not_le_nan (absolute x) top k).0, and-false)
    go false false h k =
        simp (
          le_is (neg top) x (neg_nan top ∙ k) h,
          le_is x top h k,
          le_is (absolute x) top (abs_nan x ∙ h) k,
          abs_above x top,
        )
        (neither (lt x (neg top)) (lt top x))
