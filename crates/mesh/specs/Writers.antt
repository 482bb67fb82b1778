-- For inner contracts only: what a list holds while it is filled, and that two states are of one list.
use Rattle.std.specs.Prelude.{ℕ, ◌≡◌, List, length}
use Rattle.surface.specs.Surface.{Triangle, Pair, kept}
use Rattle.mesh.specs.declared.triangles.Triangles.{Triangles}
use Rattle.mesh.specs.declared.pairs.Pairs.{Pairs}
use Rattle.mesh.specs.Corners.{shape_of}
use Rattle.mesh.specs.Held.{triangles_in, pairs_in}

-- the triangles so far
abbrev pub triangles_of : Triangles → List Triangle
triangles_of t = triangles_in t.count t.list.now

-- they are those of the first k slots
abbrev pub HoldsSlots : Triangles → ℕ → Type 0
HoldsSlots t k = triangles_of t ≡ kept (shape_of t.surface) k

-- both fill one list, for one surface
abbrev pub same_triangles : Triangles → Triangles → Type 0
same_triangles s t = (t.list.ghost_name ≡ s.list.ghost_name) × (t.surface ≡ s.surface)

-- the pairs so far, and that both fill one list
abbrev pub pairs_of : Pairs → List Pair
pairs_of p = pairs_in p.count p.list.now

abbrev pub same_pairs : Pairs → Pairs → Type 0
same_pairs s t = (t.list.ghost_name ≡ s.list.ghost_name) × (length t.list.now ≡ length s.list.now)
