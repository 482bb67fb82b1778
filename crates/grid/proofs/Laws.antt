-- What a grid that passes its tests is known by, and where its points stand: callers use these and open no
-- definition of specs/Grid.antt.
use Prim.Native.Nat.{ℕ, zero, suc, ◌+◌, ◌*◌, ◌/◌, ◌%◌, ◌≤◌, ◌<◌}
use native.Mathlib.Nat.{mul-le-mul}
use native.Mathlib.Omega.{arith}
use native.Mathlib.Numerals.{add-one}
use mathlib.Core.Path.{◌≡◌, refl, ap, ◌∙◌}
use mathlib.Core.Bool.{Bool, true, false, not, ◌&&◌}
use mathlib.Core.List.{List, [], ◌∷◌}
use lib.Arith.{digits_lt, digits_div, digits_mod}
use lib.Dec.{leb}
use lib.Ieee.{Float, of_bits}
use lib.ListN.{length, get_or, drop}
use lib.Seq.{drop-cons}
use borrow.Author.Tests.{leb-true, eqb-true}
use Rattle.float.specs.Sign.{is_finite, at_most}
use Rattle.basics.proofs.Tests.{held, failed, and_both}
use Rattle.float.proofs.Bounds.{at_most_finite}
use Rattle.std.specs.Prelude.{Err}
use Rattle.refusal.specs.declared.Refusal.TheVariants.{Steps, Length, Coordinate}
use Rattle.refusal.specs.Refusals.{Check, passed, unless, and_then}
use Rattle.refusal.proofs.Laws.{unless_passed, then_passed}
use Rattle.grid.specs.Grid.{point_number, steps_fit, length_fits, max_coordinate, coordinates_fit, grid_check, Accepted}

-- M and N from 1 to 255, and so at most 2^16 points
pub record Stepped (m n : ℕ) : Type 0 where
  pub m_least : 1 ≤ m
  pub m_most : m ≤ 255
  pub n_least : 1 ≤ n
  pub n_most : n ≤ 255
  pub points : (m + 1) * (n + 1) ≤ 65536

-- such M and N, and a list that has three numbers for each point
pub record Shaped (g : List Float) (m n : ℕ) : Type 0 where
  pub steps : Stepped m n
  pub size : length g ≡ 3 * ((m + 1) * (n + 1))

-- M and N

pub points_most : (m n : ℕ) → m ≤ 255 → n ≤ 255 → (m + 1) * (n + 1) ≤ 65536
points_most m n hm hn = mul-le-mul {n₂ = 256} {m₂ = 256} (omega arith) (omega arith)

pub steps_known : (m n : ℕ) → steps_fit m n ≡ true → Stepped m n
steps_known m n h =
    let b = and_both (leb 1 m && leb m 255) (leb 1 n && leb n 255) h in
    let bm = and_both (leb 1 m) (leb m 255) b.0 in
    let bn = and_both (leb 1 n) (leb n 255) b.1 in
    let hm = leb-true m 255 bm.1 in
    let hn = leb-true n 255 bn.1 in
    record {
      m_least = leb-true 1 m bm.0;
      m_most = hm;
      n_least = leb-true 1 n bn.0;
      n_most = hn;
      points = points_most m n hm hn;
    }

-- The tests of a grid

-- what is known where 1, 2, the call's own test and 4 pass
pub record Passing (g : List Float) (m n : ℕ) (between : Check) : Type 0 where
  pub shaped : Shaped g m n
  pub own : between ≡ passed
  pub coordinates : coordinates_fit g ≡ true

pub grid_passed : (g : List Float) (m n : ℕ) (between : Check) → grid_check g m n between ≡ passed →
    Passing g m n between
unfolding grid_check
grid_passed g m n between h =
    let last = unless (coordinates_fit g) Coordinate passed in
    let a = unless_passed (steps_fit m n) Steps (unless (length_fits g m n) Length (and_then between last)) h in
    let b = unless_passed (length_fits g m n) Length (and_then between last) a.1 in
    let c = then_passed between last b.1 in
    record {
      shaped = record { steps = steps_known m n a.0; size = eqb-true (length g) (3 * ((m + 1) * (n + 1))) b.0 };
      own = c.0;
      coordinates = (unless_passed (coordinates_fit g) Coordinate passed c.1).0;
    }

-- a grid that passes in a call is accepted
pub grid_accepted : (g : List Float) (m n : ℕ) (between : Check) → grid_check g m n between ≡ passed → Accepted g m n
grid_accepted g m n between h = rw (grid_passed g m n between h).own at h

pub accepted_known : (g : List Float) (m n : ℕ) → Accepted g m n → Shaped g m n
accepted_known g m n h = (grid_passed g m n passed h).shaped

-- a call that tests 1 by itself, and the grid with a test of its own between: `fit` is whether M and N fit

-- past 1 they are known
pub steps_answered : (m n : ℕ) {fit : Bool} → fit ≡ steps_fit m n → not fit ≡ false → Stepped m n
steps_answered m n e h = steps_known m n (held e h)

-- 1 comes first, whatever the call itself tests
pub steps_refused : (g : List Float) (m n : ℕ) (between : Check) {fit : Bool} → fit ≡ steps_fit m n →
    not fit ≡ true → Err Steps ≡ grid_check g m n between
unfolding grid_check
steps_refused g m n between e h = rw (failed e h)

-- its own test is that of its definition
pub grid_tested : (g : List Float) (m n : ℕ) {r said between : Check} → r ≡ grid_check g m n said → said ≡ between →
    r ≡ grid_check g m n between
grid_tested g m n e h = e ∙ ap (grid_check g m n) h

-- Coordinates

-- from place i on they fit where the coordinate at i fits and those from i + 1 on do
pub coordinates_step : (g : List Float) (i : ℕ) (d : Float) → i < length g →
    coordinates_fit (drop i g) ≡ (at_most (get_or g i d) max_coordinate && coordinates_fit (drop (i + 1) g))
unfolding coordinates_fit
coordinates_step g i d h = rw (add-one, drop-cons g i d)

-- each coordinate is at most 2^40 in magnitude, and so it is finite
pub coordinate_fits : (g : List Float) (i : ℕ) (d : Float) → coordinates_fit g ≡ true → i < length g →
    at_most (get_or g i d) max_coordinate ≡ true
unfolding coordinates_fit
coordinate_fits [] i d h l = absurd (omega arith)
coordinate_fits (x ∷ xs) zero d h l = (and_both (at_most x max_coordinate) (coordinates_fit xs) h).0
coordinate_fits (x ∷ xs) (suc i) d h l =
    coordinate_fits xs i d (and_both (at_most x max_coordinate) (coordinates_fit xs) h).1 (omega arith)

pub coordinate_finite : (g : List Float) (i : ℕ) (d : Float) → coordinates_fit g ≡ true → i < length g →
    is_finite (get_or g i d) ≡ true
unfolding is_finite of_bits
coordinate_finite g i d h l = at_most_finite (get_or g i d) max_coordinate refl (coordinate_fits g i d h l)

-- Point numbers

-- (u, v) is one of the points, and its three coordinates stand in the list
pub point_below : (m n u v : ℕ) → u ≤ m → v ≤ n → point_number n u v < (m + 1) * (n + 1)
point_below m n u v hu hv = digits_lt (omega arith) (omega arith)

pub point_inside : (g : List Float) (m n u v : ℕ) → Shaped g m n → u ≤ m → v ≤ n → 3 * point_number n u v + 3 ≤ length g
point_inside g m n u v s hu hv = omega (arith, point_below m n u v hu hv)

-- u and v from the number
pub point_u : (n u v : ℕ) → v ≤ n → point_number n u v / (n + 1) ≡ u
point_u n u v h = digits_div u (omega arith)

pub point_v : (n u v : ℕ) → v ≤ n → point_number n u v % (n + 1) ≡ v
point_v n u v h = digits_mod u (omega arith)
