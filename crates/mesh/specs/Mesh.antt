-- Rules 4, 8 and 11 of both triangulations: the refusals before 14, and what is left in the two lent lists.
use Rattle.std.specs.Prelude.{ℕ, ◌+◌, ◌*◌, List, [], ◌∷◌, length, Float}
use Rattle.refusal.specs.Refusals.{Check, and_then}
use Rattle.tolerance.specs.declared.Tolerances.{Tolerances}
use Rattle.tolerance.specs.Tolerance.{tolerances_check}
use Rattle.lent.specs.Lent.{room_check, filled, Afterwards, afterwards}
use Rattle.grid.specs.Grid.{grid_check}
use Rattle.surface.specs.Surface.{Triangle, Pair, Shape, triangles, flipped}
use Rattle.mesh.specs.declared.MeshCounts.{MeshCounts}

-- the numbers of the points of each triangle in turn
unfoldable pub triangle_numbers : List Triangle → List ℕ
triangle_numbers [] = []
triangle_numbers (t ∷ ts) = t.a ∷ t.b ∷ t.c ∷ triangle_numbers ts

-- the numbers of the triangles of each flipped pair in turn
unfoldable pub pair_numbers : List Pair → List ℕ
pair_numbers [] = []
pair_numbers (p ∷ ps) = p.low ∷ p.high ∷ pair_numbers ps

-- Rules 11.2: refusals 1, 2, 13, 3 and 4, in this order. What 3 asks for (11.1): both lists have room for whatever the
-- grid may need
unfoldable pub mesh_check : List Float → ℕ → ℕ → Tolerances → List ℕ → List ℕ → Check
mesh_check g m n tolerances t f =
    grid_check g m n
    (and_then (tolerances_check tolerances) (room_check (6 * (m * n)) (length t) (2 * (m + n)) (length f)))

-- the two lists that are lent for them
pub record MeshLists : Type 0 where
  pub triangles : List ℕ
  pub flipped : List ℕ

abbrev pub mesh_lists : List ℕ → List ℕ → MeshLists
mesh_lists t f = record { triangles = t; flipped = f }

-- Rules 8.2: the lists with a surface's triangles and flipped pairs, zero past them, and the counts of both
abbrev pub written : Shape → MeshLists → Afterwards MeshCounts MeshLists
written s lent =
    afterwards (record { triangles = length (triangles s); pairs = length (flipped s) })
    (mesh_lists (filled 0 (triangle_numbers (triangles s)) lent.triangles)
    (filled 0 (pair_numbers (flipped s)) lent.flipped))
