-- Steps along a row, and what a seam does to them. The inverse image carries the two ends of step y of row b to the two
-- ends of one step of row a, `laid_on`: in their order if the seam is forward, the other way round if it is reversed
-- (`adj_forward`, `adj_reverse`). Every step of row a is met by exactly one of row b (`on_inj`, `on_back`).
use Prim.Native.Nat.{ℕ, zero, suc, ◌+◌, ◌-◌, ◌≤◌, ◌<◌}
use mathlib.Core.Path.{◌≡◌, refl, sym, ap, ◌∙◌}
use mathlib.Core.Logic.{◌⊎◌, inl, inr, ⊎_elim}
use mathlib.Core.Bool.{Bool, true, false, ◌&&◌, cond}
use native.Mathlib.Omega.{arith}
use lib.Dec.{eqb, ltb}
use borrow.Author.Tests.{lt-ltb, le-ltb}
use Rattle.basics.proofs.Numbers.{eqb_cases, lt_or_le}
use Rattle.cyclic.specs.Mapping as mapping
use Rattle.cyclic.proofs.Mappings.{three, inverse_at, reverse_at, reverse_same}
use Rattle.surface.specs.Surface.{Seam, unjoined, forward, reverse, inverse}

-- two either-ors, case by case
four : {A B C D P : Type 0} → A ⊎ B → C ⊎ D → (A → C → P) → (A → D → P) → (B → C → P) → (B → D → P) → P
four (inl a) (inl c) f g h k = f a c
four (inl a) (inr d) f g h k = g a d
four (inr b) (inl c) f g h k = h b c
four (inr b) (inr d) f g h k = k b d

-- ---- a row of n steps, closed or open

-- index i of the row, with n read as 0 where the row is closed
unfoldable pub wrap : Bool → ℕ → ℕ → ℕ
wrap c n i = cond (c && eqb i n) 0 i

pub wrap_open : (n i : ℕ) → wrap false n i ≡ i
unfolding wrap
wrap_open n i = refl

pub wrap_closed : (n i : ℕ) → ((wrap true n i ≡ 0) × (i ≡ n)) ⊎ ((wrap true n i ≡ i) × (i ≡ n → ⊥))
unfolding wrap
wrap_closed n i = ⊎_elim (λ h. inl (rw h.0, h.1)) (λ h. inr (rw h.0, h.1)) (eqb_cases i n)

wrap_two : (c : Bool) (n i : ℕ) → ((wrap c n i ≡ 0) × (i ≡ n)) ⊎ (wrap c n i ≡ i)
wrap_two false n i = inr (wrap_open n i)
wrap_two true n i = ⊎_elim (λ h. inl h) (λ h. inr h.0) (wrap_closed n i)

pub wrap_below : (c : Bool) (n i : ℕ) → i < n → wrap c n i ≡ i
wrap_below c n i h = ⊎_elim (λ w. omega arith) (λ w. w) (wrap_two c n i)

pub wrap_end : (n : ℕ) → wrap true n n ≡ 0
wrap_end n = ⊎_elim (λ w. w.0) (λ w. absurd (w.1 refl)) (wrap_closed n n)

pub wrap_le : (c : Bool) (n i : ℕ) → i ≤ n → wrap c n i ≤ n
wrap_le c n i h = ⊎_elim (λ w. omega arith) (λ w. omega arith) (wrap_two c n i)

pub wrap_wrap : (c : Bool) (n i : ℕ) → 0 < n → wrap c n (wrap c n i) ≡ wrap c n i
wrap_wrap false n i h = wrap_open n (wrap false n i)
wrap_wrap true n i h =
    ⊎_elim (λ w. wrap_below true n (wrap true n i) (omega arith)) (λ w. ap (wrap true n) w.0) (wrap_closed n i)

-- one step on is not where it was, if a closed row has 2 steps, and two steps are not back, if it has 3; and steps end
-- apart that start apart
pub step_ne : (c : Bool) (n i : ℕ) → (c ≡ true → 2 ≤ n) → i < n → wrap c n (i + 1) ≡ i → ⊥
step_ne true n i h k e = let t = h refl in ⊎_elim (λ w. omega arith) (λ w. omega arith) (wrap_two true n (i + 1))
step_ne false n i h k e = omega (arith, wrap_open n (i + 1))

pub step_two : (c : Bool) (n i j : ℕ) → (c ≡ true → 3 ≤ n) → i < n → j < n → wrap c n (i + 1) ≡ j →
    wrap c n (j + 1) ≡ i → ⊥
step_two true n i j h k l e f =
    let t = h refl in
    four (wrap_two true n (i + 1)) (wrap_two true n (j + 1)) (λ w z. omega arith) (λ w z. omega arith)
    (λ w z. omega arith) (λ w z. omega arith)
step_two false n i j h k l e f = omega (arith, wrap_open n (i + 1), wrap_open n (j + 1))

pub step_inj : (c : Bool) (n i j : ℕ) → i < n → j < n → wrap c n (i + 1) ≡ wrap c n (j + 1) → i ≡ j
step_inj c n i j k l e =
    four (wrap_two c n (i + 1)) (wrap_two c n (j + 1)) (λ w z. omega arith) (λ w z. omega arith) (λ w z. omega arith)
    (λ w z. omega arith)

-- ---- the inverse image by cases, so that nothing below looks into its definition

pub inv_forward_0 : (n b : ℕ) → inverse (forward 0) n b ≡ b
unfolding mapping.inverse
inv_forward_0 n b = refl

inv_reverse_0 : (n b : ℕ) → inverse (reverse 0) n b ≡ n - b
unfolding mapping.inverse
inv_reverse_0 n b = refl

pub inv_forward : (o n b : ℕ) → o < n → b ≤ n →
    ((b < o) × (inverse (forward o) n b ≡ b + n - o)) ⊎ ((o ≤ b) × (inverse (forward o) n b ≡ b - o))
inv_forward o n b q r =
    three (inverse_at o n b q r) (λ w. inr (omega arith, omega arith)) (λ w. inr (w.1, omega arith))
    (λ w. inl (w.1, omega arith))

pub inv_reverse : (o n b : ℕ) → 0 < o → o < n → b ≤ n →
    ((b ≤ o) × (inverse (reverse o) n b ≡ o - b)) ⊎ ((o < b) × (inverse (reverse o) n b ≡ o + n - b))
inv_reverse o n b p q r =
    rw reverse_same (three (reverse_at o n b q r) (λ w. absurd (omega arith)) (λ w. inl (w.1, omega arith))
    (λ w. inr (w.1, omega arith)))

-- ---- how a joined seam lays the steps of one row on those of the other

-- an offset that a row of n steps can have: any below n if the row is closed, else 0
abbrev pub Offset : ℕ → Bool → ℕ → Type 0
Offset zero c n = Unit {0}
Offset (suc o) true n = suc o < n
Offset (suc o) false n = ⊥

-- and a seam
abbrev pub Fits : Seam → Bool → ℕ → Type 0
Fits unjoined c n = Unit {0}
Fits (forward o) c n = Offset o c n
Fits (reverse o) c n = Offset o c n

-- the step of row a on which step y of row b lies
unfoldable pub laid_on : Seam → ℕ → ℕ → ℕ
laid_on unjoined n y = y
laid_on (forward o) n y = cond (ltb y o) (y + n - o) (y - o)
laid_on (reverse o) n y = cond (ltb y o) (o - 1 - y) (o + n - 1 - y)

-- and back: the step of row b that lies on step y of row a
unfoldable pub laid_back : Seam → ℕ → ℕ → ℕ
laid_back unjoined n y = y
laid_back (forward o) n y = cond (ltb (y + o) n) (y + o) (y + o - n)
laid_back (reverse o) n y = laid_on (reverse o) n y

ltb_cond : (a b x y : ℕ) → ((a < b) × (cond (ltb a b) x y ≡ x)) ⊎ ((b ≤ a) × (cond (ltb a b) x y ≡ y))
ltb_cond a b x y = ⊎_elim (λ h. inl (h, rw (lt-ltb a b h))) (λ h. inr (h, rw (le-ltb a b h))) (lt_or_le a b)

on_forward : (o n y : ℕ) → ((y < o) × (laid_on (forward o) n y ≡ y + n - o)) ⊎
    ((o ≤ y) × (laid_on (forward o) n y ≡ y - o))
unfolding laid_on
on_forward o n y = ltb_cond y o (y + n - o) (y - o)

on_reverse : (o n y : ℕ) → ((y < o) × (laid_on (reverse o) n y ≡ o - 1 - y)) ⊎
    ((o ≤ y) × (laid_on (reverse o) n y ≡ o + n - 1 - y))
unfolding laid_on
on_reverse o n y = ltb_cond y o (o - 1 - y) (o + n - 1 - y)

back_forward : (o n y : ℕ) → ((y + o < n) × (laid_back (forward o) n y ≡ y + o)) ⊎
    ((n ≤ y + o) × (laid_back (forward o) n y ≡ y + o - n))
unfolding laid_back
back_forward o n y = ltb_cond (y + o) n (y + o) (y + o - n)

offset_lt : (o : ℕ) (c : Bool) (n : ℕ) → 0 < n → Offset o c n → o < n
offset_lt zero c n h f = h
offset_lt (suc o) true n h f = f
offset_lt (suc o) false n h f = absurd f

-- only a closed row has an offset other than 0
only_closed : (o : ℕ) (c : Bool) (n : ℕ) → Offset o c n → 0 < o → c ≡ true
only_closed zero c n f h = absurd (omega arith)
only_closed (suc o) true n f h = refl
only_closed (suc o) false n f h = absurd f

-- a step lies on a step of row a, and one of row b lies on each
pub on_below : (m : Seam) (c : Bool) (n y : ℕ) → Fits m c n → y < n → laid_on m n y < n
unfolding laid_on
on_below unjoined c n y f h = h
on_below (forward o) c n y f h =
    let q : o < n = offset_lt o c n (omega arith) f in ⊎_elim (λ w. omega arith) (λ w. omega arith) (on_forward o n y)
on_below (reverse o) c n y f h =
    let q : o < n = offset_lt o c n (omega arith) f in ⊎_elim (λ w. omega arith) (λ w. omega arith) (on_reverse o n y)

pub back_below : (m : Seam) (c : Bool) (n y : ℕ) → Fits m c n → y < n → laid_back m n y < n
unfolding laid_back
back_below unjoined c n y f h = h
back_below (forward o) c n y f h =
    let q : o < n = offset_lt o c n (omega arith) f in ⊎_elim (λ w. omega arith) (λ w. omega arith) (back_forward o n y)
back_below (reverse o) c n y f h = on_below (reverse o) c n y f h

pub on_back : (m : Seam) (c : Bool) (n y : ℕ) → Fits m c n → y < n → laid_on m n (laid_back m n y) ≡ y
unfolding laid_back laid_on
on_back unjoined c n y f h = refl
on_back (forward o) c n y f h =
    let q : o < n = offset_lt o c n (omega arith) f in
    four (back_forward o n y) (on_forward o n (laid_back (forward o) n y)) (λ w z. omega arith) (λ w z. omega arith)
    (λ w z. omega arith) (λ w z. omega arith)
on_back (reverse o) c n y f h =
    let q : o < n = offset_lt o c n (omega arith) f in
    four (on_reverse o n y) (on_reverse o n (laid_on (reverse o) n y)) (λ w z. omega arith) (λ w z. omega arith)
    (λ w z. omega arith) (λ w z. omega arith)

pub on_inj : (m : Seam) (c : Bool) (n y z : ℕ) → Fits m c n → y < n → z < n → laid_on m n y ≡ laid_on m n z → y ≡ z
unfolding laid_on
on_inj unjoined c n y z f h k e = e
on_inj (forward o) c n y z f h k e =
    let q : o < n = offset_lt o c n (omega arith) f in
    four (on_forward o n y) (on_forward o n z) (λ w x. omega arith) (λ w x. omega arith) (λ w x. omega arith)
    (λ w x. omega arith)
on_inj (reverse o) c n y z f h k e =
    let q : o < n = offset_lt o c n (omega arith) f in
    four (on_reverse o n y) (on_reverse o n z) (λ w x. omega arith) (λ w x. omega arith) (λ w x. omega arith)
    (λ w x. omega arith)

wrap_is : (c : Bool) (n i e : ℕ) → i ≡ e → e < n → wrap c n i ≡ e
wrap_is c n i e p h = ap (wrap c n) p ∙ wrap_below c n e h

-- i and e are one index, or the two ends of a closed row, which are one point
abbrev pub Meet : Bool → ℕ → ℕ → ℕ → Type 0
Meet c n i e = (i ≡ e) ⊎ ((c ≡ true) × (i ≡ 0) × (e ≡ n))

wrap_eq : (c : Bool) (n i e : ℕ) → 0 < n → Meet c n i e → wrap c n i ≡ wrap c n e
wrap_eq c n i e h (inl p) = ap (wrap c n) p
wrap_eq c n i e h (inr p) = rw (p.0, p.1, p.2) (wrap_below true n 0 h ∙ sym (wrap_end n))

-- ---- the points of a step, carried from row b to row a

unfoldable pub carried : Seam → Bool → ℕ → ℕ → ℕ
carried m c n y = wrap c n (inverse m n y)

-- the inverse images of the two points of a step, forward
forward_step : (o : ℕ) (c : Bool) (n y : ℕ) → Offset o c n → y < n →
    (inverse (forward o) n y ≡ laid_on (forward o) n y) ×
    Meet c n (inverse (forward o) n (y + 1)) (laid_on (forward o) n y + 1)
forward_step o c n y f h =
    let q : o < n = offset_lt o c n (omega arith) f in (
      four (inv_forward o n y q (omega arith)) (on_forward o n y) (λ w z. omega arith) (λ w z. omega arith)
          (λ w z. omega arith) (λ w z. omega arith),
      four (inv_forward o n (y + 1) q (omega arith)) (on_forward o n y)
          (λ w z. inl (omega arith))
          (λ w z. inl (omega arith))
          (λ w z. inr (only_closed o c n f (omega arith), omega arith, omega arith))
          (λ w z. inl (omega arith)),
    )

-- and in reverse
pub reverse_step : (o : ℕ) (c : Bool) (n y : ℕ) → Offset o c n → y < n →
    (inverse (reverse o) n (y + 1) ≡ laid_on (reverse o) n y) ×
    Meet c n (inverse (reverse o) n y) (laid_on (reverse o) n y + 1)
reverse_step zero c n y f h =
    let e : laid_on (reverse 0) n y ≡ n - 1 - y = ⊎_elim (λ w. omega arith) (λ w. omega arith) (on_reverse 0 n y) in
    (omega (arith, inv_reverse_0 n (y + 1)), inl (omega (arith, inv_reverse_0 n y)))
reverse_step (suc o) true n y f h = (
  four (inv_reverse (suc o) n (y + 1) (omega arith) f (omega arith)) (on_reverse (suc o) n y) (λ w z. omega arith)
      (λ w z. omega arith) (λ w z. omega arith) (λ w z. omega arith),
  four (inv_reverse (suc o) n y (omega arith) f (omega arith)) (on_reverse (suc o) n y)
      (λ w z. inl (omega arith))
      (λ w z. inr (refl, omega arith, omega arith))
      (λ w z. inl (omega arith))
      (λ w z. inl (omega arith)),
)
reverse_step (suc o) false n y f h = absurd f

-- A forward seam lays step y on step `laid_on`, the same way round.
pub adj_forward : (o : ℕ) (c : Bool) (n y : ℕ) → Offset o c n → y < n →
    (carried (forward o) c n y ≡ laid_on (forward o) n y) ×
    (carried (forward o) c n (y + 1) ≡ wrap c n (laid_on (forward o) n y + 1))
unfolding carried
adj_forward o c n y f h =
    let r = forward_step o c n y f h in
    (wrap_is c n _ _ r.0 (on_below (forward o) c n y f h), wrap_eq c n _ _ (omega arith) r.1)

-- A reversed seam lays step y on step `laid_on`, the other way round.
pub adj_reverse : (o : ℕ) (c : Bool) (n y : ℕ) → Offset o c n → y < n →
    (carried (reverse o) c n (y + 1) ≡ laid_on (reverse o) n y) ×
    (carried (reverse o) c n y ≡ wrap c n (laid_on (reverse o) n y + 1))
unfolding carried
adj_reverse o c n y f h =
    let r = reverse_step o c n y f h in
    (wrap_is c n _ _ r.0 (on_below (reverse o) c n y f h), wrap_eq c n _ _ (omega arith) r.1)

-- on a closed row the two ends are carried to one point
carried_ends : (m : Seam) (n : ℕ) → 0 < n → Fits m true n → carried m true n 0 ≡ carried m true n n
unfolding carried
carried_ends unjoined n h f = wrap_eq true n 0 n h (inr (refl, refl, refl))
carried_ends (forward o) n h f =
    let q : o < n = offset_lt o true n h f in
    wrap_eq true n _ _ h
    (four (inv_forward o n 0 q (omega arith)) (inv_forward o n n q (omega arith))
    (λ w z. inl (omega arith)) (λ w z. inl (omega arith)) (λ w z. inl (omega arith))
    (λ w z. inr (refl, omega arith, omega arith)))
carried_ends (reverse zero) n h f =
    sym (wrap_eq true n _ _ h (inr (refl, omega (arith, inv_reverse_0 n n), omega (arith, inv_reverse_0 n 0))))
carried_ends (reverse (suc o)) n h f =
    ap (wrap true n)
    (four (inv_reverse (suc o) n 0 (omega arith) f (omega arith))
    (inv_reverse (suc o) n n (omega arith) f (omega arith))
    (λ w z. omega arith) (λ w z. omega arith) (λ w z. omega arith) (λ w z. omega arith))

inverse_le : (m : Seam) (c : Bool) (n b : ℕ) → 0 < n → Fits m c n → b ≤ n → inverse m n b ≤ n
inverse_le unjoined c n b z f h = h
inverse_le (forward o) c n b z f h =
    let q : o < n = offset_lt o c n z f in
    three (inverse_at o n b q h) (λ w. omega arith) (λ w. omega arith) (λ w. omega arith)
inverse_le (reverse o) c n b z f h =
    let q : o < n = offset_lt o c n z f in
    rw reverse_same (three (reverse_at o n b q h) (λ w. omega arith) (λ w. omega arith) (λ w. omega arith))

pub carried_le : (m : Seam) (c : Bool) (n b : ℕ) → 0 < n → Fits m c n → b ≤ n → carried m c n b ≤ n
unfolding carried
carried_le m c n b z f h = wrap_le c n (inverse m n b) (inverse_le m c n b z f h)

pub carried_wrap : (m : Seam) (c : Bool) (n y : ℕ) → 0 < n → Fits m c n → carried m c n (wrap c n y) ≡ carried m c n y
carried_wrap m false n y z f = rw wrap_open
carried_wrap m true n y z f = ⊎_elim (λ w. rw (w.0, w.1) (carried_ends m n z f)) (λ w. rw w.0) (wrap_closed n y)
