-- `total_order` goes by the clauses of the standard, and is a total order of the values that are no NaN: turned round
-- the answer is the other one, less is transitive, and what is Equal is equal as data, since the bits of a value
-- depend on its sign and size alone. It agrees with `lt` but for -0 and +0.
use Rattle.std.proofs.Common.{◌≡◌, ℕ, ◌+◌, ◌-◌, ◌*◌, ◌/◌, ◌^◌, ◌<◌, ◌≤◌, Bool, true, false, cond, not, ◌&&◌, T, ◌⊎◌, ℤ, pos, sym, refl, ap, ◌∙◌, inl, inr, true≢false, le_antisymm, arith, ltb-false}
use native.Mathlib.Nat.{eq_of_mul-eq-mul_right}
use lib.Ieee.{Float, nan, inf, fin, binary64, up, down, below, lt, neg, size, is_nan, fits, hid, top, of_bits, to_bits}
use lib.Ieee.Fits.{down_pos}
use lib.Ieee.Nearest.{div_same}
use lib.Ieee.Bits.{of_bits-to_bits}
use Rattle.float.specs.Consts.{zero64}
use Rattle.float.specs.Sign.{negative}
use Rattle.float.specs.Order.{sign_order, total_order}
use Rattle.float.proofs.Less.{lt_irreflexive, lt_asymmetric, lt_transitive, not_lt_trans}
use Rattle.std.specs.declared.cmp.Ordering.{Ordering}
use Rattle.std.specs.declared.cmp.Ordering.TheVariants.{Less, Equal, Greater}

-- ---- turned round, the answer is the other one
abbrev pub flip : Ordering → Ordering
flip Less = Greater
flip Equal = Equal
flip Greater = Less

pub order_flip : (x y : Float) → total_order y x ≡ flip (total_order x y)
unfolding total_order
order_flip x y = go (lt x y) (lt y x) (negative x) (negative y) (lt_asymmetric x y)
  where
    go : (p q s t : Bool) → (p ≡ true → q ≡ false) →
        cond q Less (cond p Greater (sign_order t s)) ≡ flip (cond p Less (cond q Greater (sign_order s t)))
    go true true s t h = absurd (true≢false (h refl))
    go true false s t h = refl
    go false true s t h = refl
    go false false true true h = refl
    go false false true false h = refl
    go false false false true h = refl
    go false false false false h = refl

pub less_greater : (x y : Float) → total_order x y ≡ Less → total_order y x ≡ Greater
less_greater x y h = order_flip x y ∙ ap flip h

pub greater_less : (x y : Float) → total_order x y ≡ Greater → total_order y x ≡ Less
greater_less x y h = order_flip x y ∙ ap flip h

-- ---- the clauses of IEEE 754's totalOrder, each by what `total_cmp` tests for it
-- a: x is less
pub order_less : (x y : Float) → lt x y ≡ true → total_order x y ≡ Less
unfolding total_order
order_less x y h = simp h

-- b: x is greater
pub order_greater : (x y : Float) → lt y x ≡ true → total_order x y ≡ Greater
order_greater x y h = less_greater y x (order_less y x h)

-- c: neither is less
abbrev Level : Float → Float → Type 0
Level x y = (lt x y ≡ false) × (lt y x ≡ false)

sign_is : (s t : Bool) → sign_order s t ≡ cond (s && not t) Less (cond (not s && t) Greater Equal)
sign_is true true = refl
sign_is true false = refl
sign_is false true = refl
sign_is false false = refl

-- and the signs, s of x and t of y, decide
module _ (x y : Float) {s t : Bool} (l : Level x y) (p : s ≡ negative x) (q : t ≡ negative y) where
  by_sign : total_order x y ≡ cond (s && not t) Less (cond (not s && t) Greater Equal)
  unfolding total_order
  by_sign = simp (l.0, l.1, ← p, ← q, sign_is)

  -- 1: -0 and +0
  pub order_zeros : s && not t ≡ true → total_order x y ≡ Less
  order_zeros e = by_sign ∙ simp e

  -- 2: +0 and -0
  pub order_zeros_back : s && not t ≡ false → not s && t ≡ true → total_order x y ≡ Greater
  order_zeros_back e f = by_sign ∙ simp (e, f)

  -- 3: the same number
  pub order_same : s && not t ≡ false → not s && t ≡ false → total_order x y ≡ Equal
  order_same e f = by_sign ∙ simp (e, f)

-- ---- what an answer says
-- x is less, or neither is and x alone is negative
abbrev Before : Float → Float → Type 0
Before x y = (lt x y ≡ true) ⊎ (Level x y × (negative x ≡ true) × (negative y ≡ false))

less_says : (x y : Float) → total_order x y ≡ Less → Before x y
unfolding total_order
less_says x y = go (lt x y) (lt y x) (negative x) (negative y)
  where
    go : (p q s t : Bool) → cond p Less (cond q Greater (sign_order s t)) ≡ Less →
        (p ≡ true) ⊎ (((p ≡ false) × (q ≡ false)) × (s ≡ true) × (t ≡ false))
    go true q s t h = inl refl
    go false true s t h = absurd (true≢false (cc))
    go false false true true h = absurd (true≢false (cc))
    go false false true false h = inr ((refl, refl), refl, refl)
    go false false false true h = absurd (true≢false (cc))
    go false false false false h = absurd (true≢false (cc))

equal_says : (x y : Float) → total_order x y ≡ Equal → Level x y × (negative x ≡ negative y)
unfolding total_order
equal_says x y = go (lt x y) (lt y x) (negative x) (negative y)
  where
    go : (p q s t : Bool) → cond p Less (cond q Greater (sign_order s t)) ≡ Equal → ((p ≡ false) × (q ≡ false)) × (s ≡ t)
    go true q s t h = absurd (true≢false (cc))
    go false true s t h = absurd (true≢false (cc))
    go false false true true h = ((refl, refl), refl)
    go false false true false h = absurd (true≢false (cc))
    go false false false true h = absurd (true≢false (cc))
    go false false false false h = ((refl, refl), refl)

-- ---- transitive
-- where x and y are level, each stands to z as the other does
lt_level : (x y z : Float) → is_nan x ≡ false → is_nan y ≡ false → Level x y → (lt x z ≡ lt y z) × (lt z x ≡ lt z y)
lt_level x y z m n l = (
  same (lt x z) (lt y z) (not_lt_trans y x z m l.1) (not_lt_trans x y z n l.0),
  same (lt z x) (lt z y) (λ h. not_lt_trans z x y m h l.0) (λ h. not_lt_trans z y x n h l.1),
)
  where
    same : (s t : Bool) → (s ≡ false → t ≡ false) → (t ≡ false → s ≡ false) → s ≡ t
    same true true f g = refl
    same true false f g = g refl
    same false t f g = sym (f refl)

pub order_equal_left : (x y z : Float) → is_nan x ≡ false → is_nan y ≡ false → total_order x y ≡ Equal →
    total_order x z ≡ total_order y z
unfolding total_order
order_equal_left x y z m n h =
    let e = equal_says x y h in
    let l = lt_level x y z m n e.0 in
    simp (l.0, l.1, e.1)

pub order_equal_right : (x y z : Float) → is_nan y ≡ false → is_nan z ≡ false → total_order y z ≡ Equal →
    total_order x y ≡ total_order x z
order_equal_right x y z m n h = order_flip y x ∙ ap flip (order_equal_left y z x m n h) ∙ sym (order_flip z x)

pub less_transitive : (x y z : Float) → is_nan x ≡ false → is_nan y ≡ false → is_nan z ≡ false → total_order x y ≡ Less →
    total_order y z ≡ Less → total_order x z ≡ Less
less_transitive x y z l m n h k = go (less_says x y h) (less_says y z k)
  where
    go : Before x y → Before y z → total_order x z ≡ Less
    go (inl p) (inl q) = order_less x z (lt_transitive x y z p q)
    go (inl p) (inr q) = order_less x z (sym (lt_level y z x m n q.0).1 ∙ p)
    go (inr p) (inl q) = order_less x z ((lt_level x y z l m p.0).0 ∙ q)
    go (inr p) (inr q) = absurd (true≢false (sym q.1 ∙ p.2))

-- a stable sort by "less" needs it so: what does not come before y, which does not come before
-- x, does not come before x
pub not_less_transitive : (x y z : Float) → is_nan x ≡ false → is_nan y ≡ false → is_nan z ≡ false →
    (total_order y x ≡ Less → ⊥) → (total_order z y ≡ Less → ⊥) → total_order z x ≡ Less → ⊥
not_less_transitive x y z l m n h k p = go (total_order x y) refl
  where
    go : (o : Ordering) → total_order x y ≡ o → ⊥
    go Less q = k (less_transitive z x y n l m p q)
    go Equal q = k (sym (order_equal_right z x y l m q) ∙ p)
    go Greater q = h (greater_less x y q)

-- ---- equal answers are equal data, where the format holds both: the bits depend on the sign and the size alone
abbrev bits : Bool → ℕ → ℕ
bits s n = let k = size n - 53 in cond s (top binary64) 0 + k * hid binary64 + n / 2 ^ k

bits_are : (s : Bool) (m : ℕ) (e : ℤ) → to_bits binary64 (fin s m e) ≡ bits s (m * up e * 2 ^ 1074 / down e)
unfolding to_bits
bits_are s m e = refl

same_data : (s : Bool) (m : ℕ) (e : ℤ) (n : ℕ) (d : ℤ) → T (fits binary64 (fin s m e)) → T (fits binary64 (fin s n d)) →
    m * up e * down d ≡ n * up d * down e → fin s m e ≡ fin s n d
same_data s m e n d f g h =
    let a = m * up e * 2 ^ 1074 in
    let b = n * up d * 2 ^ 1074 in
    let units : a / down e ≡ b / down d =
    div_same a (down e) b (down d) (down_pos e) (down_pos d)
    (scaled (m * up e) (n * up d) (2 ^ 1074) (down d) (down e) h) in
    sym (of_bits-to_bits binary64 (fin s m e) f)
    ∙ ap (of_bits binary64) (bits_are s m e ∙ ap (bits s) units ∙ sym (bits_are s n d))
    ∙ of_bits-to_bits binary64 (fin s n d) g
  where
    scaled : (x y p d e : ℕ) → x * d ≡ y * e → x * p * d ≡ y * p * e
    scaled x y p d e h = omega (arith, ap (λ (z : ℕ). z * p) h)

same_size : (s : Bool) (a b : ℕ) → below s a s b ≡ false → below s b s a ≡ false → a ≡ b
same_size true a b h k = le_antisymm (ltb-false b a h) (ltb-false a b k)
same_size false a b h k = le_antisymm (ltb-false b a k) (ltb-false a b h)

level_same : (x y : Float) → is_nan x ≡ false → is_nan y ≡ false → T (fits binary64 x) → T (fits binary64 y) → Level x y →
    negative x ≡ negative y → x ≡ y
unfolding lt negative is_nan
level_same nan y m n f g l h = absurd (true≢false m)
level_same (inf s) nan m n f g l h = absurd (true≢false n)
level_same (inf s) (inf t) m n f g l h = ap inf h
level_same (inf s) (fin t k d) m n f g l h = absurd (true≢false (sym (ap not l.0) ∙ l.1))
level_same (fin s i e) nan m n f g l h = absurd (true≢false n)
level_same (fin s i e) (inf t) m n f g l h = absurd (true≢false (sym (ap not l.1) ∙ l.0))
level_same (fin true i e) (fin true k d) m n f g l h =
    same_data true i e k d f g (same_size true (i * up e * down d) (k * up d * down e) l.0 l.1)
level_same (fin true i e) (fin false k d) m n f g l h = absurd (true≢false h)
level_same (fin false i e) (fin true k d) m n f g l h = absurd (true≢false (sym h))
level_same (fin false i e) (fin false k d) m n f g l h =
    same_data false i e k d f g (same_size false (i * up e * down d) (k * up d * down e) l.0 l.1)

pub order_equal : (x y : Float) → is_nan x ≡ false → is_nan y ≡ false → T (fits binary64 x) → T (fits binary64 y) →
    total_order x y ≡ Equal → x ≡ y
order_equal x y m n f g h = let e = equal_says x y h in level_same x y m n f g e.0 e.1

pub order_self : (x : Float) → total_order x x ≡ Equal
unfolding total_order
order_self x = simp (lt_irreflexive x) (go (negative x))
  where
    go : (s : Bool) → sign_order s s ≡ Equal
    go true = refl
    go false = refl

-- ---- the standard's predicate: x comes before y, or is y
abbrev pub Ordered : Float → Float → Type 0
Ordered x y = total_order x y ≡ Greater → ⊥

-- total, and NaNs are no exception
pub order_total : (x y : Float) → Ordered x y ⊎ Ordered y x
order_total x y = go (total_order x y) refl
  where
    go : (o : Ordering) → total_order x y ≡ o → Ordered x y ⊎ Ordered y x
    go Less h = inl (λ p. true≢false (cc))
    go Equal h = inl (λ p. true≢false (cc))
    go Greater h = inr (λ p. let q = greater_less x y h in true≢false (cc))

-- antisymmetric up to equality of data
pub order_antisymmetric : (x y : Float) → is_nan x ≡ false → is_nan y ≡ false → T (fits binary64 x) →
    T (fits binary64 y) → Ordered x y → Ordered y x → x ≡ y
order_antisymmetric x y m n f g h k = go (total_order x y) refl
  where
    go : (o : Ordering) → total_order x y ≡ o → x ≡ y
    go Less p = absurd (k (less_greater x y p))
    go Equal p = order_equal x y m n f g p
    go Greater p = absurd (h p)

-- transitive
pub order_transitive : (x y z : Float) → is_nan x ≡ false → is_nan y ≡ false → is_nan z ≡ false → Ordered x y →
    Ordered y z → Ordered x z
order_transitive x y z l m n h k p =
    not_less_transitive x y z l m n (λ q. h (less_greater y x q)) (λ q. k (less_greater z y q)) (greater_less x z p)

-- ---- agrees with `lt`: what is less comes before (`order_less`), and else -0 before +0 and nothing more
parts_zero : (a b c d : ℕ) → 0 < c → 0 < d → a * c + b * d ≤ 0 → (a ≡ 0) × (b ≡ 0)
parts_zero a b c d p q h =
    (eq_of_mul-eq-mul_right c p a 0 (omega arith), eq_of_mul-eq-mul_right d q b 0 (omega arith))

zero_data : (s : Bool) (m : ℕ) (e : ℤ) → T (fits binary64 (fin s m e)) → m * up e ≡ 0 → fin s m e ≡ fin s 0 (pos 0)
unfolding fits
zero_data s m e f h = same_data s m e 0 (pos 0) f tt (go (m * up e) (down e) h)
  where
    go : (a d : ℕ) → a ≡ 0 → a * 1 ≡ 0 * d
    go a d h = omega arith

-- values of unlike sign are level only where they are zeros
signs_differ : (x y : Float) → is_nan x ≡ false → is_nan y ≡ false → T (fits binary64 x) → T (fits binary64 y) →
    Level x y → negative x ≡ true → negative y ≡ false → (x ≡ neg zero64) × (y ≡ zero64)
unfolding lt negative is_nan neg of_bits
signs_differ nan y m n f g l h k = absurd (true≢false m)
signs_differ (inf false) y m n f g l h k = absurd (true≢false (sym h))
signs_differ (inf true) nan m n f g l h k = absurd (true≢false n)
signs_differ (inf true) (inf true) m n f g l h k = absurd (true≢false k)
signs_differ (inf true) (inf false) m n f g l h k = absurd (true≢false l.0)
signs_differ (inf true) (fin t j d) m n f g l h k = absurd (true≢false l.0)
signs_differ (fin false i e) y m n f g l h k = absurd (true≢false (sym h))
signs_differ (fin true i e) nan m n f g l h k = absurd (true≢false n)
signs_differ (fin true i e) (inf true) m n f g l h k = absurd (true≢false k)
signs_differ (fin true i e) (inf false) m n f g l h k = absurd (true≢false l.0)
signs_differ (fin true i e) (fin true j d) m n f g l h k = absurd (true≢false k)
signs_differ (fin true i e) (fin false j d) m n f g l h k =
    let none = ltb-false 0 (i * up e * down d + j * up d * down e) l.0 in
    let z = parts_zero (i * up e) (j * up d) (down d) (down e) (down_pos d) (down_pos e) none in
    (zero_data true i e f z.0, zero_data false j d g z.1)

pub less_only : (x y : Float) → is_nan x ≡ false → is_nan y ≡ false → T (fits binary64 x) → T (fits binary64 y) →
    total_order x y ≡ Less → (lt x y ≡ true) ⊎ ((x ≡ neg zero64) × (y ≡ zero64))
less_only x y m n f g h = go (less_says x y h)
  where
    go : Before x y → (lt x y ≡ true) ⊎ ((x ≡ neg zero64) × (y ≡ zero64))
    go (inl p) = inl p
    go (inr p) = inr (signs_differ x y m n f g p.0 p.1 p.2)
