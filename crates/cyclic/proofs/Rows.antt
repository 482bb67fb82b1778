-- Rows in their lists: each point of a row stands in its list, a list of points is a row of its own, what their lengths
-- say of a search, and what the tests say in their order.
use Prim.Native.Nat.{ℕ, ◌+◌, ◌-◌, ◌*◌, ◌%◌, ◌≤◌, ◌<◌}
use native.Mathlib.Nat.{mul-le-mul_right}
use native.Mathlib.Omega.{arith}
use mathlib.Core.Path.{◌≡◌, ap, fun_ext}
use mathlib.Core.Bool.{Bool, true, false, ◌&&◌, or-true, cond}
use mathlib.Core.Logic.{◌⊎◌, inl, inr}
use mathlib.Core.List.{List}
use lib.Dec.{eqb, leb}
use lib.Ieee.{Float}
use lib.ListN.{length}
use borrow.Author.Tests.{lt-ltb, le-ltb, leb-true, eq-eqb, ne_eqb}
use Rattle.std.specs.Prelude.{None, Err}
use Rattle.basics.proofs.Tests.{and_both}
use Rattle.tolerance.specs.Tolerance.{tolerance_fits}
use Rattle.grid.specs.Grid.{point_at, coordinates_fit}
use Rattle.refusal.specs.declared.Refusal.TheVariants.{Length, Tolerance, Coordinate}
use Rattle.refusal.specs.Refusals.{passed, unless}
use Rattle.refusal.proofs.Laws.{unless_passed}
use Rattle.cyclic.specs.Search.{Row, Rows, Closeness, row_of, searched, search_rows, search, row_fits, rows_check}

-- Points

-- point j of a is close to the point of b that it meets at offset 0
abbrev pub Meets : Closeness → Row → Row → ℕ → Bool → ℕ → Type 0
Meets close a b n reverse j = close (a j) (b (cond reverse (n - j) j)) ≡ true

opposite_within : (n j : ℕ) (reverse : Bool) → j ≤ n → cond reverse (n - j) j ≤ n
opposite_within n j true l = omega arith
opposite_within n j false l = l

-- point i of list a and point k of list b stand in them, as `points_close` asks
abbrev pub Stand : List Float → ℕ → List Float → ℕ → Type 0
Stand a i b k = (3 * i + 3 ≤ length a) × (3 * k + 3 ≤ length b)

module _ {a b : List Float} {a_start b_start stride steps : ℕ} (rows : Rows a a_start b b_start stride steps) where
  -- point j of row a and point k of row b
  pub inside : (j k : ℕ) → j ≤ steps → k ≤ steps → Stand a (a_start + j * stride) b (b_start + k * stride)
  inside j k h l =
      let j_most = mul-le-mul_right stride h in
      let k_most = mul-le-mul_right stride l in
      (omega arith, omega arith)

  -- where points follow each other in their lists: point j of a, and point k of b that it meets at offset 0
  module _ (next : stride ≡ 1) (reverse : Bool) (j : ℕ) {k : ℕ} (meets : k ≡ cond reverse (steps - j) j) where
    pub inside_next : j ≤ steps → Stand a (a_start + j) b (b_start + k)
    inside_next l =
        let same : steps * stride ≡ steps = rw next (omega arith) in
        let most : k ≤ steps = rw meets (opposite_within steps j reverse l) in
        (omega arith, omega arith)

    pub close_next : (close : Closeness) {i : ℕ} → i ≡ a_start + j →
        close (point_at a i) (point_at b (b_start + k)) ≡ true →
        Meets close (row_of a a_start stride) (row_of b b_start stride) steps reverse j
    close_next close {i} e h =
        let x : a_start + j * stride ≡ i = rw next (omega arith) in
        let y : b_start + cond reverse (steps - j) j * stride ≡ b_start + k = rw (next, ← meets) (omega arith) in
        rw (x, y) h

pub whole_row : (l : List Float) → row_of l 0 1 ≡ point_at l
whole_row l = fun_ext (λ j. ap (point_at l) (omega arith))

-- Lengths

module _ (close : Closeness) (a b : Row) where
  pub short_rows : (m n : ℕ) → (m < 2) ⊎ (m ≡ n → ⊥) → search close a b m n ≡ searched None 0
  unfolding search
  short_rows m n (inl l) = rw (lt-ltb m 2 l)
  short_rows m n (inr f) = rw (ne_eqb m n f, or-true)

  pub long_rows : (m n : ℕ) → 2 ≤ m → m ≡ n → search close a b m n ≡ search_rows close a b (m - 1)
  unfolding search
  long_rows m n l e = rw (le-ltb m 2 l, eq-eqb m n e)

-- Tests

module _ (a b : List Float) (tolerance : Float) where
  pub no_length : row_fits a && row_fits b ≡ false → rows_check a b tolerance ≡ Err Length
  unfolding rows_check
  no_length h = rw h

  pub no_tolerance : row_fits a && row_fits b ≡ true → tolerance_fits tolerance ≡ false →
      rows_check a b tolerance ≡ Err Tolerance
  unfolding rows_check
  no_tolerance h t = rw (h, t)

  pub no_coordinate : row_fits a && row_fits b ≡ true → tolerance_fits tolerance ≡ true →
      coordinates_fit a && coordinates_fit b ≡ false → rows_check a b tolerance ≡ Err Coordinate
  unfolding rows_check
  no_coordinate h t g = rw (h, t, g)

  pub rows_pass : row_fits a && row_fits b ≡ true → tolerance_fits tolerance ≡ true →
      coordinates_fit a && coordinates_fit b ≡ true → rows_check a b tolerance ≡ passed
  unfolding rows_check
  rows_pass h t g = rw (h, t, g)

  pub passed_length : rows_check a b tolerance ≡ passed → length a ≤ 196608
  unfolding rows_check
  passed_length h =
      let t = (unless_passed (row_fits a && row_fits b) Length
      (unless (tolerance_fits tolerance) Tolerance (unless (coordinates_fit a && coordinates_fit b) Coordinate passed))
      h).0 in
      let u = and_both (row_fits a) (row_fits b) t in
      leb-true (length a) 196608 (and_both (eqb (length a % 3) 0) (leb (length a) 196608) u.0).1
