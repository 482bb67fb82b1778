-- Rules 4.2 as the code takes it: one rule for either seam, and the corners of a cell.
use Rattle.std.specs.Prelude.{ℕ, ◌+◌, ◌*◌, cond, eqb, Some, None}
use Rattle.cyclic.specs.Mapping.{Seam, inverse, HasIndex}
use Rattle.surface.specs.Surface.{Shape, corner, tri}
use Rattle.surface.specs.Surface as surface
use Rattle.surface.specs.Found.{surface_with}
use Rattle.mesh.specs.declared.corner.Surface.{Surface}
use Rattle.mesh.specs.declared.corner.Place.{Place}
use Rattle.mesh.specs.declared.corner.Cell.{Cell}
use Rattle.mesh.specs.declared.triangles.Triangle.{Triangle}
use Rattle.mesh.specs.declared.triangles.Half.{Half}
use Rattle.mesh.specs.declared.triangles.Half.TheVariants.{First, Second}

-- the shape that the definitions of `Surface.antt` take
abbrev pub shape_of : Surface → Shape
shape_of s = surface_with s.m s.n s.u s.v

-- a step that the seam's mapping takes
abbrev pub Joins : Seam → ℕ → Type 0
Joins None step = Unit {0}
Joins (Some m) step = HasIndex m step

abbrev pub placed : ℕ → ℕ → Place
placed line step = record { line = line; step = step }

-- Rules 4.2, for either seam by its lines and the steps along them: of a seam that was found, the last line is line 0
-- again, and a step along it the inverse image of that step
unfoldable pub join_of : Seam → ℕ → ℕ → ℕ → Place
join_of None last line step = placed line step
join_of (Some m) last line step = cond (eqb line last) (placed 0 (inverse m step)) (placed line step)

-- Rules 4.3: the numbers of what the four corners of cell (u, v) stand for
abbrev pub cell_corners : Shape → ℕ → ℕ → Cell
cell_corners s u v =
    record {
      i00 = corner s v u v;
      i10 = corner s v (u + 1) v;
      i01 = corner s v u (v + 1);
      i11 = corner s v (u + 1) (v + 1);
    }

-- a triangle of the code as one of `Surface.antt`
abbrev pub triangle_of : Triangle → surface.Triangle
triangle_of t = tri t.a t.b t.c

-- the slot of a half of cell k, counted in cell order
abbrev pub slot_at : Half → ℕ → ℕ
slot_at First k = 2 * k
slot_at Second k = 2 * k + 1
