-- `all_close` as `all_close` tests it, and its laws, at any tolerance. The largest of three is below it where each is,
-- but `larger` leaves a NaN out: so a NaN difference is passed over, and only three of them are never close.
use mathlib.Core.Path.{◌≡◌, refl, sym, ◌∙◌}
use mathlib.Core.Bool.{Bool, true, false, not, ◌&&◌, ◌||◌, or-true, or-false, and-true, and-false, true≢false}
use lib.Ieee.{Float, nan, binary64, lt, le, neg, sub, of_bits, is_nan}
use Rattle.float.specs.Consts.{eps, zero64, one64}
use Rattle.float.specs.Sign.{absolute, is_finite}
use Rattle.float.specs.Order.{larger}
use Rattle.float.specs.Table.{computed}
use Rattle.basics.proofs.Tests.{and_both, cannot}
use Rattle.float.proofs.Less.{le_is, lt_le, lt_le_trans}
use Rattle.float.proofs.Differences.{sub_swap, sub_not_nan, sub_self}
use Rattle.float.proofs.Between.{abs_below, neg_nan, not_le_nan}
use Rattle.float.proofs.Larger.{abs_nan, larger_nan, larger_under, nan_not_below}
use Rattle.vector.specs.declared.Vector.{Vector}
use Rattle.vector.specs.Vectors.{vector, minus, absolutes, largest, all_close}

-- ---- symmetric, for any points
pub close_symmetric : (a b : Vector) (t : Float) → all_close a b t ≡ all_close b a t
unfolding all_close
close_symmetric a b t = simp (sub_swap a.x b.x, sub_swap a.y b.y, sub_swap a.z b.z)

-- ---- what one difference has to be: below the tolerance in magnitude, or a NaN
abbrev pub passes : Float → Float → Bool
passes d t = lt (absolute d) t || is_nan d

-- what their difference has to be for points to be close: each component passes, and not all three are NaNs
abbrev pub close_by : Vector → Float → Bool
close_by d t =
    (passes d.x t && passes d.y t && passes d.z t) && not (is_nan d.x && is_nan d.y && is_nan d.z)

largest_below : (d : Vector) (t : Float) → lt (largest (absolutes d)) t ≡ close_by d t
largest_below d t =
    let p = absolute d.x in
    let q = absolute d.y in
    let r = absolute d.z in
    let l = larger (larger p q) r in
    let under : lt l t || is_nan l ≡ passes d.x t && passes d.y t && passes d.z t =
    larger_under (larger p q) r t ∙ simp (larger_under p q t, abs_nan) in
    let none : is_nan l ≡ is_nan d.x && is_nan d.y && is_nan d.z =
    larger_nan (larger p q) r ∙ simp (larger_nan p q, abs_nan) in
    split (lt l t) (is_nan l) (nan_not_below l t) ∙ rw (under, none)
  where
    split : (u n : Bool) → (n ≡ true → u ≡ false) → u ≡ (u || n) && not n
    split true true h = absurd (true≢false (h refl))
    split true false h = refl
    split false true h = refl
    split false false h = refl

pub close_by_lem : (a b : Vector) (t : Float) → all_close a b t ≡ close_by (minus a b) t
unfolding all_close
close_by_lem a b t = largest_below (minus a b) t

-- ---- as `all_close` tests it
-- no value is less than a NaN
not_lt_nan : (x y : Float) → is_nan y ≡ true → lt x y ≡ false
not_lt_nan x y h = cannot (lt x y) (λ e. true≢false (sym (lt_le x y e) ∙ (not_le_nan x y h).0))

-- what does not pass is the tolerance or more in magnitude, or, where that is a NaN, any number
pub apart_is : (d t : Float) → (le t d || le d (neg t)) || (is_nan t && not (is_nan d)) ≡ not (passes d t)
apart_is d t = go (is_nan t) (is_nan d) refl refl
  where
    both : (p q : Bool) → (not p || not q) || false ≡ not (q && p || false)
    both true true = refl
    both true false = refl
    both false true = refl
    both false false = refl

    go : (k n : Bool) → is_nan t ≡ k → is_nan d ≡ n →
        (le t d || le d (neg t)) || (k && not n) ≡ not (lt (absolute d) t || n)
    go true n e h = simp ((not_le_nan d t e).1, (not_le_nan d (neg t) (neg_nan t ∙ e)).0, not_lt_nan (absolute d) t e)
    go false true e h = simp ((not_le_nan t d h).0, (not_le_nan (neg t) d h).1, or-true)
    go false false e h =
        simp (le_is t d e h, le_is d (neg t) h (neg_nan t ∙ e), abs_below d t) (both (lt d t) (lt (neg t) d))

-- ---- points whose differences all lie between the tolerance and its negative are close
abbrev pub within : Float → Float → Bool
within d t = lt (neg t) d && lt d t

within_below : (d t : Float) → within d t ≡ true → (lt (absolute d) t ≡ true) × (is_nan d ≡ false)
within_below d t h =
    let below : lt (absolute d) t ≡ true = abs_below d t ∙ h in
    (below, cannot (is_nan d) (λ e. true≢false (sym below ∙ nan_not_below (absolute d) t (abs_nan d ∙ e))))

pub close_within : (a b d : Vector) (t : Float) → d ≡ minus a b →
    (within d.x t && within d.y t) && within d.z t ≡ true → all_close a b t ≡ true
close_within a b d t e h =
    let xy = and_both (within d.x t && within d.y t) (within d.z t) h in
    let each = and_both (within d.x t) (within d.y t) xy.0 in
    let x = within_below d.x t each.0 in
    let y = within_below d.y t each.1 in
    let z = within_below d.z t xy.1 in
    let by : all_close a b t ≡ close_by d t = rw e (close_by_lem a b t) in
    by ∙ simp (x.0, y.0, z.0, x.1)

-- ---- what is close by a tolerance is close by a larger one
pub close_coarser : (a b : Vector) (s t : Float) → le s t ≡ true → all_close a b s ≡ true → all_close a b t ≡ true
unfolding all_close
close_coarser a b s t l h = lt_le_trans (largest (absolutes (minus a b))) s t h l

-- ---- finite points are close where the three differences are below the tolerance
abbrev pub Finite : Vector → Type 0
Finite a = (is_finite a.x ≡ true) × (is_finite a.y ≡ true) × (is_finite a.z ≡ true)

pub close_finite : (a b : Vector) (t : Float) → Finite a → Finite b →
    all_close a b t ≡ lt (absolute (minus a b).x) t && lt (absolute (minus a b).y) t && lt (absolute (minus a b).z) t
close_finite a b t h k =
    close_by_lem a b t
    ∙ simp (
      sub_not_nan a.x b.x h.0 k.0,
      sub_not_nan a.y b.y h.1 k.1,
      sub_not_nan a.z b.z h.2 k.2,
      or-false,
      and-true,
    )

-- a finite point is close to itself where the tolerance is above 0
pub close_self : (a : Vector) (t : Float) → lt zero64 t ≡ true → Finite a → all_close a a t ≡ true
unfolding absolute of_bits
close_self a t p h = close_finite a a t h h ∙ simp (none a.x h.0, none a.y h.1, none a.z h.2)
  where
    none : (x : Float) → is_finite x ≡ true → lt (absolute (sub binary64 x x)) t ≡ true
    none x k = rw (sub_self x k) p

-- ---- NaN: three differences that are NaNs are close to nothing; one is passed over, as by f64::max
pub nan_not_close : (a b : Vector) (t : Float) → is_nan (minus a b).x ≡ true → is_nan (minus a b).y ≡ true →
    is_nan (minus a b).z ≡ true → all_close a b t ≡ false
nan_not_close a b t h k l = close_by_lem a b t ∙ simp (h, k, l, and-false)

-- at a NaN nothing is close
pub nan_tolerance : (a b : Vector) → all_close a b nan ≡ false
unfolding all_close is_nan
nan_tolerance a b = not_lt_nan (largest (absolutes (minus a b))) nan refl

nan_passed_over : all_close (vector nan zero64 zero64) (vector zero64 zero64 zero64) eps ≡ true
unfolding computed all_close
nan_passed_over = refl

nan_beside_one : all_close (vector nan one64 zero64) (vector zero64 zero64 zero64) eps ≡ false
unfolding computed all_close
nan_beside_one = refl
