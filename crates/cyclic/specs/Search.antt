-- Rules 3.1 to 3.3: the first offset at which row a fits row b, forward before reverse, and the comparisons made.
-- A row is its points by index, 0 to steps; `close` compares a point of one row with a point of another (or the same).
use Rattle.std.specs.Prelude.{ℕ, zero, suc, ◌+◌, ◌-◌, ◌*◌, ◌/◌, ◌%◌, ◌≤◌, Bool, true, false, ◌&&◌, ◌||◌, not, cond, List}
use Rattle.std.specs.Prelude.{eqb, ltb, leb, length, Float, Some, None}
use Rattle.tolerance.specs.Tolerance.{tolerance_fits}
use Rattle.vector.specs.declared.Vector.{Vector}
use Rattle.vector.specs.Vectors.{all_close}
use Rattle.grid.specs.Grid.{point_at, coordinates_fit}
use Rattle.refusal.specs.declared.Refusal.TheVariants.{Length, Tolerance, Coordinate}
use Rattle.refusal.specs.Refusals.{Check, passed, Answer, ok, unless, passing}
use Rattle.cyclic.specs.declared.mapping.CyclicMapping.{CyclicMapping}
use Rattle.cyclic.specs.declared.mapping.CyclicMapping.TheVariants.{Forward, Reverse}
use Rattle.cyclic.specs.declared.seam.SeamSearch.{SeamSearch}
use Rattle.cyclic.specs.declared.seam.Tried.{Tried}
use Rattle.cyclic.specs.Mapping.{Seam, image}

-- a row, by index
abbrev pub Row : Type 0
Row = ℕ → Vector

-- the row whose point j is point start + j·stride of a list of coordinates: a line of a grid, or with
-- stride 1 a list of its own
abbrev pub row_of : List Float → ℕ → ℕ → Row
row_of l start stride j = point_at l (start + j * stride)

-- two rows of `steps` steps that lie inside their lists
pub record Rows (a : List Float) (a_start : ℕ) (b : List Float) (b_start stride steps : ℕ) : Type 0 where
  pub steps_least : 1 ≤ steps
  pub steps_most : steps ≤ 65535
  pub a_inside : 3 * (a_start + steps * stride) + 3 ≤ length a
  pub b_inside : 3 * (b_start + steps * stride) + 3 ≤ length b

-- a test of two points: the search is defined for any
abbrev pub Closeness : Type 0
Closeness = Vector → Vector → Bool

-- close, by Rules 2.1, at a tolerance
abbrev pub close_at : Float → Closeness
close_at tolerance p q = all_close p q tolerance

-- Rules 3.3: a search's answer, a mapping or None, and the comparisons made
abbrev pub searched : Seam → ℕ → SeamSearch
searched s k = record { seam = s; comparisons = k }

-- whether all comparisons held, and how many were made
abbrev pub tried : Bool → ℕ → Tried
tried f k = record { fits = f; made = k }

module _ (close : Closeness) (a b : Row) where
  -- a direction at an offset: k points of a from j on with their partners in b, after c comparisons, up to
  -- the first that is not close
  unfoldable pub try_from : CyclicMapping → ℕ → ℕ → ℕ → Tried
  try_from m zero j c = tried true c
  try_from m (suc k) j c = cond (close (a j) (b (image m j))) (try_from m k (j + 1) (c + 1)) (tried false (c + 1))

  -- closed rows: the ends of a are close, and then those of b
  unfoldable pub closed : ℕ → Tried
  closed steps = cond (close (a 0) (a steps)) (tried (close (b 0) (b steps)) 2) (tried false 1)

  -- k offsets from o on, after c comparisons: at each, forward before reverse, and the first that fits is the answer
  unfoldable pub search_from : ℕ → ℕ → ℕ → ℕ → SeamSearch
  search_from steps zero o c = searched None c
  search_from steps (suc k) o c =
      let forward = try_from (Forward o steps) (steps + 1) 0 c in
      let reverse = try_from (Reverse o steps) (steps + 1) 0 forward.made in
      cond forward.fits (searched (Some (Forward o steps)) forward.made)
      (cond reverse.fits (searched (Some (Reverse o steps)) reverse.made)
      (search_from steps k (o + 1) reverse.made))

  -- all offsets below steps on closed rows, and offset 0 on others
  unfoldable pub search_rows : ℕ → SeamSearch
  search_rows steps = search_from steps (cond (closed steps).fits steps 1) 0 (closed steps).made

-- Rules 3.1: rows of na and nb points; where these differ or are under two, there is no seam after no comparison
unfoldable pub search : Closeness → Row → Row → ℕ → ℕ → SeamSearch
search close a b na nb = cond (ltb na 2 || not (eqb na nb)) (searched None 0) (search_rows close a b (na - 1))

-- what refusal 2 asks of a row: whole points, and at most 65,536
abbrev pub row_fits : List Float → Bool
row_fits r = eqb (length r % 3) 0 && leb (length r) 196608

-- refusals 2, 13 and 4 of two rows and a tolerance, in this order
unfoldable pub rows_check : List Float → List Float → Float → Check
rows_check a b tolerance =
    unless (row_fits a && row_fits b) Length
    (unless (tolerance_fits tolerance) Tolerance
    (unless (coordinates_fit a && coordinates_fit b) Coordinate passed))

-- the open call `CyclicMapping::new_vector`, at a tolerance
unfoldable pub new_vector : List Float → List Float → Float → Answer SeamSearch
new_vector a b tolerance =
    passing (rows_check a b tolerance)
    (ok (search (close_at tolerance) (point_at a) (point_at b) (length a / 3) (length b / 3)))
