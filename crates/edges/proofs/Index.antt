-- `index_of` by the tests, on signed numbers. A cell that a point is not in on one axis has no fit, so that it need not
-- be tried; and a diagonal's cell is in the grid.
use Rattle.std.proofs.Common.{◌≡◌, refl, sym, ◌∙◌, ◌≤◌, ◌<◌, ℕ, zero, suc, ℤ, pos, negsuc, ◌-ℤ◌, true, false, cond}
use Rattle.std.proofs.Common.{Option, Some, None, ltb}
use native.Mathlib.Nat.{lt_of_le_of_lt, le-suc}
use native.Mathlib.Omega.{arith}
use mathlib.Core.Bool.{true≢false, and-false}
use lib.IntN.{nat_abs, pred_ℤ, -ℤ_one}
use lib.Signed.{non_neg, lt_z, le_z}
use lib.Dec.{T, leb}
use mir.Syntax.{w64}
use mir.Val.{SFits, Fits}
use borrow.Author.Tests.{ltb-true, lt-ltb, le-ltb, leb-false}
use Rattle.float.specs.Whole.{floor_z}
use Rattle.float.specs.Cast.{count}
use Rattle.basics.proofs.Tests.{cond_keeps, cond_case}
use Rattle.param.specs.declared.ParamPoint.{ParamPoint}
use Rattle.param.specs.declared.Cells.{Cells}
use Rattle.std.specs.Option.{MatchOption}
use Rattle.edges.specs.Cell.{index_of, on_diagonal, try_cell, in_cell, or_cell, diagonal_cell_at}

-- ---- the cast
pub nonneg_of : (z : ℤ) → le_z (pos 0) z ≡ true → T (non_neg z)
nonneg_of (pos n) h = tt
nonneg_of (negsuc n) h = absurd (true≢false (sym h))

pub abs_fits : (z : ℤ) → SFits w64 z → Fits w64 (nat_abs z)
abs_fits (pos n) s = record { fits = omega (arith, s.sfits) }
abs_fits (negsuc n) s = record { fits = omega (arith, s.sfits) }

no_zero : (n : ℕ) → leb 0 n ≡ false → ⊥
no_zero n h = omega (arith, leb-false 0 n h)

-- a signed number as a count
pub count_in_lem : (z : ℤ) → le_z (pos 0) z ≡ true → SFits w64 z → (nat_abs z ≡ count z) × (nat_abs z < 9223372036854775808)
count_in_lem (pos n) h s = (refl, s.sfits)
count_in_lem (negsuc n) h s = absurd (true≢false (sym h))

pub count_out : (z : ℤ) → le_z (pos 0) z ≡ false → 0 ≡ count z
count_out (pos n) h = absurd (no_zero n h)
count_out (negsuc n) h = refl

-- ---- `index_of` by the tests
pub index_neg : (z : ℤ) (n : ℕ) → le_z (pos 0) z ≡ false → None ≡ index_of z n
unfolding index_of
index_neg (pos k) n h = absurd (no_zero k h)
index_neg (negsuc k) n h = refl

pub index_in : (z : ℤ) (n : ℕ) → le_z (pos 0) z ≡ true → nat_abs z < n → Some (nat_abs z) ≡ index_of z n
unfolding index_of
index_in (pos k) n h l = simp (lt-ltb k n l)
index_in (negsuc k) n h l = absurd (true≢false (sym h))

pub index_out : (z : ℤ) (n : ℕ) → n ≤ nat_abs z → None ≡ index_of z n
unfolding index_of
index_out (pos k) n l = simp (le-ltb k n l)
index_out (negsuc k) n l = refl

-- the number before z: z is the least i64, or it fits too
abbrev pub least : ℤ
least = negsuc 9223372036854775807

pub before_out : (z : ℤ) (n : ℕ) → lt_z least z ≡ false → None ≡ index_of (z -ℤ pos 1) n
unfolding index_of
before_out (pos k) n h = absurd (true≢false h)
before_out (negsuc k) n h = refl

pub before_fits : (z : ℤ) → lt_z least z ≡ true → SFits w64 z → SFits w64 (z -ℤ pos 1)
before_fits z h s = rw -ℤ_one (go z h s)
  where
    go : (y : ℤ) → lt_z least y ≡ true → SFits w64 y → SFits w64 (pred_ℤ y)
    go (pos zero) g t = record { sfits = omega arith }
    go (pos (suc k)) g t = record { sfits = lt_of_le_of_lt (le-suc k) t.sfits }
    go (negsuc k) g t = record { sfits = omega (arith, ltb-true k 9223372036854775807 g) }

-- ---- a cell that the point is not in on one axis
pub not_in_u : (p : ParamPoint) (i j : Option ℕ) → in_cell p.u i ≡ false → try_cell p i j ≡ None
unfolding in_cell try_cell on_diagonal
not_in_u p None j h = refl
not_in_u p (Some u) None h = refl
not_in_u p (Some u) (Some v) h = rw h

pub not_in_v : (p : ParamPoint) (i j : Option ℕ) → in_cell p.v j ≡ false → try_cell p i j ≡ None
unfolding in_cell try_cell on_diagonal
not_in_v p None j h = refl
not_in_v p (Some u) None h = refl
not_in_v p (Some u) (Some v) h = rw (h, and-false)

-- so that no index need stand for it
no_index_u : (p : ParamPoint) (j : Option ℕ) → try_cell p None j ≡ None
unfolding try_cell
no_index_u p j = refl

no_index_v : (p : ParamPoint) (i : Option ℕ) → try_cell p i None ≡ None
unfolding try_cell
no_index_v p None = refl
no_index_v p (Some u) = refl

tried_u : (p : ParamPoint) (i j : Option ℕ) → try_cell p (cond (in_cell p.u i) i None) j ≡ try_cell p i j
tried_u p i j =
    cond_case (λ (k : Option ℕ). try_cell p k j ≡ try_cell p i j) (in_cell p.u i) i None (λ h. refl)
    (λ h. no_index_u p j ∙ sym (not_in_u p i j h))

tried_v : (p : ParamPoint) (i j : Option ℕ) → try_cell p i (cond (in_cell p.v j) j None) ≡ try_cell p i j
tried_v p i j =
    cond_case (λ (k : Option ℕ). try_cell p i k ≡ try_cell p i j) (in_cell p.v j) j None (λ h. refl)
    (λ h. no_index_v p i ∙ sym (not_in_v p i j h))

-- ---- the four cells in their order
-- what `or_else` answers, where what it calls answers b
pub or_else_cell : (a b : Option (ℕ × ℕ)) {r : Option (ℕ × ℕ)} (P : Type 0) → MatchOption a P (λ x. r ≡ Some x) →
    (P → r ≡ b) → r ≡ or_cell a b
or_else_cell None b P h k = k h
or_else_cell (Some x) b P h k = h

pub or_cell_in_turn : (a b c d : Option (ℕ × ℕ)) →
    or_cell (or_cell (or_cell a b) c) d ≡ or_cell a (or_cell b (or_cell c d))
or_cell_in_turn (Some x) b c d = refl
or_cell_in_turn None (Some x) c d = refl
or_cell_in_turn None None c d = refl

-- the four cells as the code tries them: i and j are the indices before the floors, of which u0 and v0 are what is left
pub tried_in_turn : (k : Cells) (p : ParamPoint) {i j u0 u1 v0 v1 : Option ℕ} {a b c d : Option (ℕ × ℕ)} →
    i ≡ index_of (floor_z p.u -ℤ pos 1) k.m → u1 ≡ index_of (floor_z p.u) k.m →
    j ≡ index_of (floor_z p.v -ℤ pos 1) k.n → v1 ≡ index_of (floor_z p.v) k.n →
    u0 ≡ cond (in_cell p.u i) i None → v0 ≡ cond (in_cell p.v j) j None →
    a ≡ try_cell p u0 v0 → b ≡ or_cell a (try_cell p u0 v1) → c ≡ or_cell b (try_cell p u1 v0) →
    d ≡ or_cell c (try_cell p u1 v1) → d ≡ diagonal_cell_at k p
unfolding diagonal_cell_at
tried_in_turn k p {i} {j} {u0} {u1} {v0} {v1} hi hu hj hv h0 k0 ha hb hc hd =
    rw (hd, hc, hb, ha, or_cell_in_turn, h0, k0) (simp (tried_u, tried_v, hi, hu, hj, hv))

-- ---- the cell is in the grid
abbrev IndexBelow : ℕ → Option ℕ → Type 0
IndexBelow n (Some k) = k < n
IndexBelow n None = Unit

abbrev pub CellInside : Cells → Option (ℕ × ℕ) → Type 0
CellInside k (Some c) = (c.0 < k.m) × (c.1 < k.n)
CellInside k None = Unit

index_below : (z : ℤ) (n : ℕ) → IndexBelow n (index_of z n)
unfolding index_of
index_below (pos k) n = cond_case (IndexBelow n) (ltb k n) _ None (ltb-true k n) (λ t. tt)
index_below (negsuc k) n = tt

try_inside : (p : ParamPoint) (i j : Option ℕ) (k : Cells) → IndexBelow k.m i → IndexBelow k.n j →
    CellInside k (try_cell p i j)
unfolding try_cell
try_inside p None j k hu hv = tt
try_inside p (Some u) None k hu hv = tt
try_inside p (Some u) (Some v) k hu hv = cond_keeps (CellInside k) (on_diagonal p u v) _ None (hu, hv) tt

first_inside : (k : Cells) (a b c d : Option (ℕ × ℕ)) → CellInside k a → CellInside k b → CellInside k c →
    CellInside k d → CellInside k (or_cell a (or_cell b (or_cell c d)))
first_inside k (Some x) b c d ha hb hc hd = ha
first_inside k None (Some x) c d ha hb hc hd = hb
first_inside k None None (Some x) d ha hb hc hd = hc
first_inside k None None None d ha hb hc hd = hd

pub diagonal_inside : (k : Cells) (p : ParamPoint) → CellInside k (diagonal_cell_at k p)
unfolding diagonal_cell_at
diagonal_inside k p =
    let u = floor_z p.u in
    let v = floor_z p.v in
    let before_u = u -ℤ pos 1 in
    let before_v = v -ℤ pos 1 in
    first_inside k (cell before_u before_v) (cell before_u v) (cell u before_v) (cell u v) (inside before_u before_v)
    (inside before_u v) (inside u before_v) (inside u v)
  where
    cell : ℤ → ℤ → Option (ℕ × ℕ)
    cell x y = try_cell p (index_of x k.m) (index_of y k.n)

    inside : (x y : ℤ) → CellInside k (cell x y)
    inside x y = try_inside p (index_of x k.m) (index_of y k.n) k (index_below x k.m) (index_below y k.n)
