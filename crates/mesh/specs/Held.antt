-- Rules 8.1: what a list of numbers holds: triangles, three numbers each, and flipped pairs, two each.
use Rattle.std.specs.Prelude.{ℕ, zero, suc, ◌+◌, ◌*◌, ◌≤◌, ◌≡◌, List, [], ◌∷◌, ◌++◌, length, get_or, Option, Some, None}
use Rattle.basics.specs.Lists.{put_at}
use Rattle.surface.specs.Surface.{Triangle, tri, Pair, pair, insert}

-- f 0 to f (k − 1)
unfoldable pub firsts : {A : Type 0} → (ℕ → A) → ℕ → List A
firsts f zero = []
firsts f (suc k) = firsts f k ++ (f k ∷ [])

abbrev pub triangle_at : List ℕ → ℕ → Triangle
triangle_at l i = tri (get_or l (3 * i) 0) (get_or l (3 * i + 1) 0) (get_or l (3 * i + 2) 0)

-- the first k triangles
abbrev pub triangles_in : ℕ → List ℕ → List Triangle
triangles_in k l = firsts (triangle_at l) k

abbrev pub pair_at : List ℕ → ℕ → Pair
pair_at l i = pair (get_or l (2 * i) 0) (get_or l (2 * i + 1) 0)

-- the first k pairs
abbrev pub pairs_in : ℕ → List ℕ → List Pair
pairs_in k l = firsts (pair_at l) k

-- where p is to be put, or None where it is there already
abbrev pub Spotted : Option ℕ → Pair → List Pair → Type 0
Spotted (Some i) p ps = (i ≤ length ps) × (insert p ps ≡ put_at i p ps)
Spotted None p ps = insert p ps ≡ ps
