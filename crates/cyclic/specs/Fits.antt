-- Rules 3.5: whether a seam that is given, and not searched for, fits two rows.
use Rattle.std.specs.Prelude.{ℕ, ◌+◌, Bool, true, ◌&&◌, ◌||◌, eqb, ltb, Some, None}
use Rattle.cyclic.specs.declared.mapping.CyclicMapping.{CyclicMapping}
use Rattle.cyclic.specs.Mapping.{Seam, offset_of, steps_of}
use Rattle.cyclic.specs.Search.{Row, Closeness, try_from, closed}

-- a mapping of rows of so many steps: it has their steps, and an offset below them
abbrev pub of_rows : ℕ → CyclicMapping → Bool
of_rows steps m = eqb (steps_of m) steps && ltb (offset_of m) steps

module _ (close : Closeness) (a b : Row) where
  -- the search tries the offset: 0, and on closed rows any other
  abbrev pub offset_tried : ℕ → ℕ → Bool
  offset_tried steps o = eqb o 0 || (closed close a b steps).fits

  -- each point of a, from 0 to steps, is close to its image
  abbrev pub points_fit : CyclicMapping → Bool
  points_fit m = (try_from close a b m (steps_of m + 1) 0 0).fits

  -- the seam fits: a mapping of these rows, at an offset that is tried, at each point; None always does
  unfoldable pub seam_fits : ℕ → Seam → Bool
  seam_fits steps None = true
  seam_fits steps (Some m) = of_rows steps m && (offset_tried steps (offset_of m) && points_fit m)
