-- Rules 1.1 and 1.2, and of 11.1 what refuses a grid: point numbers, points, and the tests of steps, length and
-- coordinates. m and n are the steps in u and in v.
use Rattle.std.specs.Prelude.{ℕ, ◌+◌, ◌*◌, ◌≡◌, ◌≤◌, Bool, true, ◌&&◌, List, [], ◌∷◌, eqb, leb, length, get_or, Float}
use Rattle.std.specs.Float.{nan, binary64}
use Rattle.std.specs.Float.Ieee.{of_bits}
use Rattle.float.specs.Sign.{at_most}
use Rattle.vector.specs.declared.Vector.{Vector}
use Rattle.vector.specs.Vectors.{vector}
use Rattle.refusal.specs.declared.Refusal.TheVariants.{Steps, Length, Coordinate}
use Rattle.refusal.specs.Refusals.{Check, passed, unless, and_then}
use Rattle.param.specs.declared.Cells.{Cells}
use Rattle.param.specs.Param.{cells}

-- the number of point (u, v)
abbrev pub point_number : ℕ → ℕ → ℕ → ℕ
point_number n u v = u * (n + 1) + v

-- point number i of a list of coordinates
unfoldable pub point_at : List Float → ℕ → Vector
point_at g i = vector (get_or g (3 * i) nan) (get_or g (3 * i + 1) nan) (get_or g (3 * i + 2) nan)

-- what refusal 1 asks for: both are from 1 to 255
abbrev pub steps_fit : ℕ → ℕ → Bool
steps_fit m n = (leb 1 m && leb m 255) && (leb 1 n && leb n 255)

-- what refusal 2 asks of a grid: three numbers for each point, and no more
abbrev pub length_fits : List Float → ℕ → ℕ → Bool
length_fits g m n = eqb (length g) (3 * ((m + 1) * (n + 1)))

-- 2^40, the largest magnitude of a coordinate
abbrev pub max_coordinate : Float
max_coordinate = of_bits binary64 0x4270000000000000

-- what refusal 4 asks for: every coordinate is a number within ±2^40
unfoldable pub coordinates_fit : List Float → Bool
coordinates_fit [] = true
coordinates_fit (x ∷ xs) = at_most x max_coordinate && coordinates_fit xs

-- refusals 1, 2 and 4 of a grid, in the order of Rules 11.2; `between` is what the call itself
-- refuses after 2 and before 4
unfoldable pub grid_check : List Float → ℕ → ℕ → Check → Check
grid_check g m n between =
    unless (steps_fit m n) Steps
    (unless (length_fits g m n) Length
    (and_then between (unless (coordinates_fit g) Coordinate passed)))

-- Rules 5.2, accepted: the grid passes refusals 1, 2 and 4
abbrev pub Accepted : List Float → ℕ → ℕ → Type 0
Accepted g m n = grid_check g m n passed ≡ passed

-- what inner functions ask for: a grid of these cells, by its length
abbrev pub GridFits : List Float → Cells → Type 0
GridFits g k = (k.m ≤ 255) × (k.n ≤ 255) × (length g ≡ 3 * ((k.m + 1) * (k.n + 1)))

-- what a check hands on: the points and cells of the grid that was given
abbrev pub IsGiven : List Float → ℕ → ℕ → List Float → Cells → Type 0
IsGiven g m n points k = (points ≡ g) × (k ≡ cells m n)
