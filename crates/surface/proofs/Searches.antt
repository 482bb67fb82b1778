-- The two seams of a grid, found or given, are of rows with a stride: a column is points that follow each other, a row
-- is every (N+1)th point.
use Prim.Native.Nat.{ℕ, ◌+◌, ◌-◌, ◌*◌, ◌≤◌}
use mathlib.Core.Path.{◌≡◌, refl, ap, ◌∙◌, fun_ext}
use mathlib.Core.Bool.{true, ◌&&◌}
use mathlib.Core.List.{List}
use native.Mathlib.Omega.{arith}
use lib.Ieee.{Float}
use Rattle.tolerance.specs.declared.Tolerances.{Tolerances}
use Rattle.grid.specs.Grid.{point_at}
use Rattle.cyclic.specs.Mapping.{Seam}
use Rattle.cyclic.specs.Search.{Row, Closeness, close_at, row_of, search_rows, search}
use Rattle.cyclic.specs.Fits.{seam_fits}
use Rattle.cyclic.proofs.Rows.{long_rows}
use Rattle.cyclic.proofs.Fits.{found_fit}
use Rattle.surface.specs.Found.{column, row, u_search, v_search}
use Rattle.surface.specs.Given.{seams_fit}

column_is : (g : List Float) (n u start : ℕ) → u * (n + 1) ≡ start → column g n u ≡ row_of g start 1
column_is g n u start e = fun_ext (λ v. ap (point_at g) (omega arith))

row_is : (g : List Float) (n v : ℕ) → row g n v ≡ row_of g v (n + 1)
row_is g n v = fun_ext (λ u. ap (point_at g) (omega arith))

less_one : (steps : ℕ) → steps + 1 - 1 ≡ steps
less_one steps = omega arith

-- the same rows, and as many steps as points but one
searched_rows : (close : Closeness) (a b a' b' : Row) (steps : ℕ) → a ≡ a' → b ≡ b' →
    search_rows close a b (steps + 1 - 1) ≡ search_rows close a' b' steps
searched_rows close a b a' b' steps p q = let e = less_one steps in cc

-- the search of rows with one point more than steps finds a seam that fits
pub found_in : (close : Closeness) (a b : Row) (steps : ℕ) → 1 ≤ steps →
    seam_fits close a b steps (search close a b (steps + 1) (steps + 1)).seam ≡ true
found_in close a b steps h =
    rw (long_rows close a b (steps + 1) (steps + 1) (omega arith) refl, less_one steps) (found_fit close a b steps h)

pub u_search_lem : (g : List Float) (m n : ℕ) (t : Float) → 1 ≤ n →
    u_search g m n t ≡ search_rows (close_at t) (row_of g 0 1) (row_of g (m * (n + 1)) 1) n
unfolding u_search
u_search_lem g m n t h =
    long_rows (close_at t) (column g n 0) (column g n m) (n + 1) (n + 1) (omega arith) (omega arith)
    ∙ searched_rows (close_at t) (column g n 0) (column g n m) (row_of g 0 1) (row_of g (m * (n + 1)) 1) n
    (column_is g n 0 0 (omega arith)) (column_is g n m (m * (n + 1)) (omega arith))

pub v_search_lem : (g : List Float) (m n : ℕ) (t : Float) → 1 ≤ m →
    v_search g m n t ≡ search_rows (close_at t) (row_of g 0 (n + 1)) (row_of g n (n + 1)) m
unfolding v_search
v_search_lem g m n t h =
    long_rows (close_at t) (row g n 0) (row g n n) (m + 1) (m + 1) (omega arith) (omega arith)
    ∙ searched_rows (close_at t) (row g n 0) (row g n n) (row_of g 0 (n + 1)) (row_of g n (n + 1)) m (row_is g n 0)
    (row_is g n n)

-- seams that are given are tried on the same rows
pub given_rows : (g : List Float) (m n : ℕ) (t : Tolerances) (u v : Seam) →
    seams_fit g m n t u v
    ≡ (seam_fits (close_at t.u) (row_of g 0 1) (row_of g (m * (n + 1)) 1) n u
    && seam_fits (close_at t.v) (row_of g 0 (n + 1)) (row_of g n (n + 1)) m v)
unfolding seams_fit
given_rows g m n t u v =
    rw (column_is g n 0 0 (omega arith), column_is g n m (m * (n + 1)) (omega arith), row_is g n 0, row_is g n n)
