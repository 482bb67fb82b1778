-- `step_index` by its tests, and the law for its callers: the cell is one of the steps, since it is the last one, or the
-- floor of a value that is at most steps and not close to it.
use mathlib.Core.Path.{◌≡◌, refl}
use mathlib.Core.Bool.{Bool, true, false, ◌||◌, cond}
use Prim.Native.Nat.{ℕ, ◌-◌, ◌^◌, ◌≤◌, ◌<◌}
use native.Mathlib.Omega.{arith}
use lib.Dec.{T, eqb}
use lib.IntN.{ℤ, nat_abs}
use lib.Signed.{non_neg}
use lib.Ieee.{Float, binary64, neg, lt, add, sub}
use mir.Syntax.{w64}
use mir.Val.{SFits, Fits, to_z, of_z}
use mir.ValLaws.{to_z-of_z}
use borrow.Author.Tests.{eq-eqb, ne_eqb, eqb-false}
use Rattle.std.specs.Prelude.{Option, Some, None}
use Rattle.float.specs.Consts.{eps, zero64}
use Rattle.float.specs.Sign.{absolute}
use Rattle.float.specs.Order.{clamped}
use Rattle.float.specs.Whole.{floor_z}
use Rattle.float.specs.Cast.{nat_float, count}
use Rattle.float.proofs.Bounds.{floor_count, floor_nonneg, clamped_nonneg, abs_count}
use Rattle.edges.proofs.Index.{abs_fits}
use Rattle.crossing.specs.Crossing.{close_to, cell_of, off_axis, at_cell, step_index}

-- ---- the tests

pub step_none_zero : (x : Float) (n : ℕ) → n ≡ 0 → None ≡ step_index x n
unfolding step_index off_axis
step_none_zero x n h = simp (eq-eqb n 0 h)

module _ (x : Float) (n : ℕ) (z : n ≡ 0 → ⊥) where
  pub step_none : (lt x (neg eps) || lt (add binary64 (nat_float n) eps) x) ≡ true → None ≡ step_index x n
  unfolding step_index off_axis
  step_none h = simp (ne_eqb n 0 z, h)

  -- inside the axis, of what the calls gave
  module _ {top y a : Float} (et : top ≡ nat_float n)
      (inside : (lt x (neg eps) || lt (add binary64 top eps) x) ≡ false) (ey : y ≡ clamped x zero64 top)
      (ea : a ≡ absolute (sub binary64 y top)) where
    pub index_close : lt a eps ≡ true → {k : Float} → k ≡ nat_float (n - 1) →
        Some (n - 1, sub binary64 y k) ≡ step_index x n
    unfolding step_index off_axis at_cell cell_of close_to
    index_close h ek = simp (ne_eqb n 0 z, ← et, inside, ← ey, ← ea, h, ek)

    pub index_far : lt a eps ≡ false → {i : ℕ} {k : Float} → i ≡ count (floor_z y) → k ≡ nat_float i →
        Some (i, sub binary64 y k) ≡ step_index x n
    unfolding step_index off_axis at_cell cell_of close_to
    index_far h ei ek = simp (ne_eqb n 0 z, ← et, inside, ← ey, ← ea, h, ek, ei)

-- the floor that the code casts is a count
module _ (x : Float) (n : ℕ) {top y : Float} {z : ℤ} (et : top ≡ nat_float n) (ey : y ≡ clamped x zero64 top)
    (ez : z ≡ floor_z y) (s : SFits w64 z) where
  nonneg : T (non_neg z)
  nonneg = rw (ez, ey, et) (floor_nonneg (clamped x zero64 (nat_float n)) (clamped_nonneg x n))

  pub floor_casts : T (non_neg (to_z w64 (of_z w64 z))) × Fits w64 (nat_abs (to_z w64 (of_z w64 z)))
  floor_casts = rw (to_z-of_z w64 z s) (nonneg, abs_fits z s)

  pub floor_cast_is : nat_abs (to_z w64 (of_z w64 z)) ≡ count (floor_z y)
  floor_cast_is = rw (to_z-of_z w64 z s, ← ez) (abs_count z nonneg)

-- ---- the law: the cell is one of the steps

cell_below : (x : Float) (n : ℕ) → 0 < n → n ≤ 2 ^ 53 → cell_of (clamped x zero64 (nat_float n)) n < n
unfolding cell_of close_to
cell_below x n N h = go (close_to (clamped x zero64 (nat_float n)) n) refl
  where
    go : (t : Bool) → close_to (clamped x zero64 (nat_float n)) n ≡ t →
        cond t (n - 1) (count (floor_z (clamped x zero64 (nat_float n)))) < n
    go true p = omega arith
    go false p = floor_count x n N h p

-- the cell of an answer is one of n
abbrev Below : Option (ℕ × Float) → ℕ → Type 0
Below (Some c) n = c.0 < n
Below None n = Unit

step_below : (x : Float) (n : ℕ) → n ≤ 2 ^ 53 → Below (step_index x n) n
unfolding step_index off_axis at_cell
step_below x n h = go (eqb n 0) (lt x (neg eps) || lt (add binary64 (nat_float n) eps) x) refl
  where
    go : (b t : Bool) → eqb n 0 ≡ b → Below (cond (b || t) None (at_cell (clamped x zero64 (nat_float n)) n)) n
    go true t p = tt
    go false true p = tt
    go false false p = cell_below x n (omega (arith, eqb-false n 0 p)) h

pub step_index_below : (x : Float) (n : ℕ) {i : ℕ} {t : Float} → n ≤ 2 ^ 53 → step_index x n ≡ Some (i, t) → i < n
step_index_below x n h p = rw p at (step_below x n h)
