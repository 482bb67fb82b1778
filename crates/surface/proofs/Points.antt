-- J and the corner rule give the points of the strip. The rule of the strip's seam carries the last column to the
-- first; the rule of the other seam does no more than read the last row of a closed column as its first. One after the
-- other, in either order, they give the strip's point, and no further rule moves it. A corner in a row before the last
-- leaves out the v rule, which has nothing to do there: a covered joining takes no point inside a column to its end.
use Prim.Native.Nat.{ℕ, ◌+◌, ◌≤◌, ◌<◌}
use mathlib.Core.Path.{◌≡◌, refl, sym, ap, ◌∙◌}
use mathlib.Core.Logic.{inl, inr, ⊎_elim}
use mathlib.Core.Bool.{Bool, true, false, ◌&&◌, false≢true, cond}
use native.Mathlib.Omega.{arith}
use lib.Dec.{eqb}
use borrow.Author.Tests.{ne_eqb}
use Rattle.basics.proofs.Tests.{cond_keeps}
use Rattle.basics.proofs.Numbers.{eqb_cases}
use Rattle.param.specs.declared.Axis.{Axis}
use Rattle.param.specs.declared.Axis.TheVariants.{AxisU, AxisV}
use Rattle.surface.specs.Surface.{Seam, joined, inverse, Point, at, Rule, once, twice, Shape, u_rule, v_rule}
use Rattle.surface.specs.Surface.{number, joined_by, J, corner_by, corner}
use Rattle.surface.specs.Rims.{rim_steps as rows}
use Rattle.surface.proofs.Steps.{wrap, wrap_open, wrap_closed, wrap_below, wrap_wrap, carried, carried_wrap}
use Rattle.surface.proofs.Steps.{inv_forward_0}
use Rattle.surface.proofs.Strip.{Strip, col_of, row_of, point_of, row_below, col_below}
use Rattle.surface.proofs.CellSides.{shift, shift_le, corners}
use Rattle.surface.proofs.Halves.{cell_corners}
use Rattle.surface.proofs.Axes.{columns, seam_of, closing, x_of, y_of, Plain, KeepsInside, SeenAlong, HasSteps}
use Rattle.surface.proofs.Axes.{some, strip}

-- ---- the two rules, by column and row

-- the rule of the strip's seam, and that of the other
abbrev seam_rule : Axis → Shape → Point → Point
seam_rule AxisU s p = u_rule s p
seam_rule AxisV s p = v_rule s p

abbrev closing_rule : Axis → Shape → Point → Point
closing_rule AxisU s p = v_rule s p
closing_rule AxisV s p = u_rule s p

-- the point of column x and row y
abbrev pt : Axis → ℕ → ℕ → Point
pt a x y = at (x_of a x y) (y_of a x y)

-- column x is the last, and joined
abbrev last : Axis → Shape → ℕ → Bool
last a s x = joined (seam_of a s) && eqb x (columns a s)

cond_at : (t : Bool) (u v u' v' : ℕ) → cond t (at u v) (at u' v') ≡ at (cond t u u') (cond t v v')
cond_at true u v u' v' = refl
cond_at false u v u' v' = refl

seam_rule_lem : (s : Shape) (a : Axis) (x y : ℕ) →
    seam_rule a s (pt a x y) ≡ pt a (wrap (joined (seam_of a s)) (columns a s) x)
    (cond (last a s x) (inverse (seam_of a s) (rows a s) y) y)
unfolding wrap
seam_rule_lem s AxisU x y = cond_at (last AxisU s x) 0 (inverse s.su s.N y) x y
seam_rule_lem s AxisV x y = cond_at (last AxisV s x) (inverse s.sv s.M y) 0 y x

-- a plain seam takes each point to the one opposite
plain_cond : (m : Seam) → Plain m → (t : Bool) (n b : ℕ) → cond t (inverse m n b) b ≡ b
plain_cond m (inl e) true n b = rw e
plain_cond m (inr e) true n b = rw e (inv_forward_0 n b)
plain_cond m e false n b = refl

closing_rule_lem : (s : Shape) (a : Axis) (x y : ℕ) → Plain (closing a s) →
    closing_rule a s (pt a x y) ≡ pt a x (wrap (joined (closing a s)) (rows a s) y)
closing_rule_lem s AxisU x y e = seam_rule_lem s AxisV y x ∙ rw (plain_cond s.sv e (last AxisV s y) s.M x)
closing_rule_lem s AxisV x y e = seam_rule_lem s AxisU y x ∙ rw (plain_cond s.su e (last AxisU s y) s.N x)

-- an index before the end of a closed row is read as it is, and what is read is before the end
wrap_fix : (c : Bool) (n i : ℕ) → (c ≡ true → i < n) → wrap c n i ≡ i
wrap_fix false n i h = wrap_open n i
wrap_fix true n i h = wrap_below true n i (h refl)

wrap_lt : (c : Bool) (n i : ℕ) → 0 < n → i ≤ n → c ≡ true → wrap c n i < n
wrap_lt true n i z h e = ⊎_elim (λ w. omega arith) (λ w. omega arith) (wrap_closed n i)
wrap_lt false n i z h e = absurd (false≢true e)

-- a point that has passed a rule does not pass it again
settled : (c : Bool) (n i : ℕ) → 0 < n → (c && eqb (wrap c n i) n) ≡ false
settled false n i z = refl
settled true n i z =
    ne_eqb (wrap true n i) n (λ e. ⊎_elim (λ w. omega arith) (λ w. w.1 (sym w.0 ∙ e)) (wrap_closed n i))

cond_wrap : (t c : Bool) (n i j : ℕ) → cond t (wrap c n i) (wrap c n j) ≡ wrap c n (cond t i j)
cond_wrap true c n i j = refl
cond_wrap false c n i j = refl

pt_same : (a : Axis) {x y x' y' : ℕ} → x ≡ x' → y ≡ y' → pt a x y ≡ pt a x' y'
pt_same a p q = cc

module _ (s : Shape) (steps : HasSteps s) (a : Axis) (w : SeenAlong a s) where
  open w use {fits, plain}

  abbrev S : Strip
  S = strip s steps a w

  abbrev X : ℕ
  X = columns a s

  abbrev Y : ℕ
  Y = rows a s

  -- whether columns are joined, and whether they are closed
  abbrev j : Bool
  j = joined (seam_of a s)

  abbrev c : Bool
  c = joined (closing a s)

  abbrev inv : ℕ → ℕ
  inv y = inverse (seam_of a s) Y y

  X>0 : 0 < X
  X>0 = (some a s steps).0

  Y>0 : 0 < Y
  Y>0 = (some a s steps).1

  -- the strip's point
  place : ℕ → ℕ → Point
  place x y = pt a (col_of S x) (row_of S x y)

  col_form : (x : ℕ) → col_of S x ≡ wrap j X x
  unfolding col_of strip
  col_form x = refl

  row_form : (x y : ℕ) → row_of S x y ≡ cond (last a s x) (carried (seam_of a s) c Y y) (wrap c Y y)
  unfolding row_of strip
  row_form x y = refl

  row_wrap : (x y : ℕ) → row_of S x y ≡ wrap c Y (cond (last a s x) (inv y) y)
  unfolding carried
  row_wrap x y = row_form x y ∙ cond_wrap (last a s x) c Y (inv y) y

  -- the seam's rule, then the closing rule
  seam_closing : (x y : ℕ) → closing_rule a s (seam_rule a s (pt a x y)) ≡ place x y
  unfolding place
  seam_closing x y =
      ap (closing_rule a s) (seam_rule_lem s a x y)
      ∙ closing_rule_lem s a (wrap j X x) (cond (last a s x) (inv y) y) plain
      ∙ pt_same a (sym (col_form x)) (sym (row_wrap x y))

  -- and no further rule moves the point
  seam_stays : (x y : ℕ) → seam_rule a s (place x y) ≡ place x y
  unfolding place
  seam_stays x y =
      seam_rule_lem s a (col_of S x) (row_of S x y)
      ∙ pt_same a (ap (wrap j X) (col_form x) ∙ wrap_wrap j X x X>0 ∙ sym (col_form x)) (rw not_last)
    where
      not_last : last a s (col_of S x) ≡ false
      not_last = ap (last a s) (col_form x) ∙ settled j X x X>0

  closing_stays : (x y : ℕ) → closing_rule a s (place x y) ≡ place x y
  unfolding place
  closing_stays x y =
      closing_rule_lem s a (col_of S x) (row_of S x y) plain
      ∙ pt_same a refl (ap (wrap c Y) (row_wrap x y) ∙ wrap_wrap c Y (cond (last a s x) (inv y) y) Y>0
      ∙ sym (row_wrap x y))

  -- the closing rule first
  closed_first : (x y : ℕ) → place x (wrap c Y y) ≡ place x y
  unfolding place
  closed_first x y =
      pt_same a refl (cc (
        row_form x (wrap c Y y),
        row_form x y,
        carried_wrap (seam_of a s) c Y y Y>0 fits,
        wrap_wrap c Y y Y>0,
      ))

  closing_seam : KeepsInside once (seam_of a s) c Y → (x y : ℕ) → y ≤ Y →
      seam_rule a s (closing_rule a s (pt a x y)) ≡ place x y
  unfolding place carried
  closing_seam k x y h =
      ap (seam_rule a s) (closing_rule_lem s a x y plain)
      ∙ seam_rule_lem s a x (wrap c Y y)
      ∙ pt_same a (sym (col_form x)) (go (last a s x) ∙ sym (row_form x y))
    where
      go : (t : Bool) → cond t (inv (wrap c Y y)) (wrap c Y y) ≡ cond t (carried (seam_of a s) c Y y) (wrap c Y y)
      go true =
          sym (wrap_fix c Y (inv (wrap c Y y)) (λ e. k e (wrap c Y y) (wrap_lt c Y y Y>0 h e)))
          ∙ carried_wrap (seam_of a s) c Y y Y>0 fits
      go false = refl

  -- ---- one rule alone

  -- inside a column the seam's rule is enough
  seam_alone : KeepsInside once (seam_of a s) c Y → (x y : ℕ) → y < Y → seam_rule a s (pt a x y) ≡ place x y
  unfolding place
  seam_alone k x y h =
      seam_rule_lem s a x y
      ∙ pt_same a (sym (col_form x))
      (sym (row_wrap x y ∙ wrap_fix c Y (cond (last a s x) (inv y) y)
      (λ e. cond_keeps (λ (z : ℕ). z < Y) (last a s x) (inv y) y (k e y h) h)))

  -- before the last column the closing rule is enough
  closing_alone : (x y : ℕ) → x < X → closing_rule a s (pt a x y) ≡ place x y
  unfolding place strip
  closing_alone x y h = closing_rule_lem s a x y plain ∙ pt_same a (sym (col_below S x h)) (sym (row_below S x y h))

-- ---- J and the corner rule

joined_place : (s : Shape) (steps : HasSteps s) (a : Axis) (w : SeenAlong a s) (r : Rule) →
    KeepsInside r (seam_of a s) (joined (closing a s)) (rows a s) → (x y : ℕ) → y ≤ rows a s →
    joined_by r s (pt a x y) ≡ place s steps a w x y
unfolding joined_by
joined_place s steps AxisU w once k x y h = seam_closing s steps AxisU w x y
joined_place s steps AxisU w twice k x y h =
    ap (λ (p : Point). v_rule s (u_rule s p)) (seam_closing s steps AxisU w x y)
    ∙ ap (v_rule s) (seam_stays s steps AxisU w x y) ∙ closing_stays s steps AxisU w x y
joined_place s steps AxisV w once k x y h = closing_seam s steps AxisV w k x y h
joined_place s steps AxisV w twice k x y h =
    ap (λ (p : Point). v_rule s (u_rule s (v_rule s p))) (closing_rule_lem s AxisV x y w.plain)
    ∙ ap (v_rule s) (seam_closing s steps AxisV w x (wrap (joined s.su) s.M y) ∙ closed_first s steps AxisV w x y)
    ∙ seam_stays s steps AxisV w x y

-- a corner is where both rules lead; before row N−1, where the u rule leads
corner_once : (s : Shape) (row : ℕ) (p q : Point) → v_rule s (u_rule s p) ≡ q → ((row + 1 ≡ s.N → ⊥) → u_rule s p ≡ q) →
    corner_by once s row p ≡ q
unfolding corner_by
corner_once s row p q e f = ⊎_elim (λ t. rw t.0 e) (λ t. rw t.0 (f t.1)) (eqb_cases (row + 1) s.N)

-- where corners pass the rules twice, every corner is J's point
twice_corner : (s : Shape) (row : ℕ) (p : Point) → corner_by twice s row p ≡ joined_by twice s p
unfolding corner_by joined_by
twice_corner s row p = refl

corner_place : (s : Shape) (steps : HasSteps s) (a : Axis) (w : SeenAlong a s) (r : Rule) →
    KeepsInside r (seam_of a s) (joined (closing a s)) (rows a s) → (row u v : ℕ) → row < s.N → v ≤ row + 1 → u ≤ s.M →
    corner_by r s row (at u v) ≡ place s steps a w (x_of a u v) (y_of a u v)
corner_place s steps AxisU w once k row u v h i l =
    corner_once s row (at u v) (place s steps AxisU w u v) (seam_closing s steps AxisU w u v)
    (λ e. seam_alone s steps AxisU w k u v (omega arith))
corner_place s steps AxisV w once k row u v h i l =
    corner_once s row (at u v) (place s steps AxisV w v u) (closing_seam s steps AxisV w k v u l)
    (λ e. closing_alone s steps AxisV w v u (omega arith))
corner_place s steps AxisU w twice k row u v h i l =
    twice_corner s row (at u v) ∙ joined_place s steps AxisU w twice k u v (omega arith)
corner_place s steps AxisV w twice k row u v h i l =
    twice_corner s row (at u v) ∙ joined_place s steps AxisV w twice k v u l

-- J of a grid point is the strip's point
pub J-is : (s : Shape) (steps : HasSteps s) (a : Axis) (w : SeenAlong a s) (x y : ℕ) → y ≤ rows a s →
    J s (x_of a x y) (y_of a x y) ≡ point_of (strip s steps a w) x y
unfolding J point_of strip place
J-is s steps a w x y h = ap (number s) (joined_place s steps a w s.rule w.inside x y h)

-- and so is a corner of a cell
pub corner_is : (s : Shape) (steps : HasSteps s) (a : Axis) (w : SeenAlong a s) (u v : ℕ) → u < s.M → v < s.N →
    (i j : Bool) →
    cell_corners s u v i j ≡ corners (strip s steps a w) (x_of a u v) (y_of a u v) (x_of a i j) (y_of a i j)
unfolding corner point_of strip place
corner_is s steps AxisU w u v h k i j =
    ap (number s) (corner_place s steps AxisU w s.rule w.inside v (shift i u) (shift j v) k (shift_le j v)
    (omega (arith, shift_le i u)))
corner_is s steps AxisV w u v h k i j =
    ap (number s) (corner_place s steps AxisV w s.rule w.inside v (shift i u) (shift j v) k (shift_le j v)
    (omega (arith, shift_le i u)))
