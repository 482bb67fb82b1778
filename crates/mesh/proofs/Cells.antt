-- The triangles of a cell among all: which slots are its, and what is kept after them.
use Prim.Native.Nat.{ℕ, ◌+◌, ◌*◌, ◌/◌, ◌%◌, ◌≤◌, ◌<◌}
use mathlib.Core.Path.{◌≡◌, sym, ap, ◌∙◌}
use mathlib.Core.Bool.{true, cond}
use mathlib.Core.List.{List, [], ◌∷◌, ◌++◌}
use native.Mathlib.Omega.{arith}
use native.Mathlib.Nat.{zero-mul}
use native.Mathlib.Numerals.{add-one}
use lib.Arith.{digits_div, digits_mod, digits_lt}
use lib.ListN.{length}
use Rattle.surface.specs.Surface.{Shape, Triangle, proper, falling, half_of, slot, kept, triangle_number}
use Rattle.surface.proofs.Triangles.{kept_at_most}
use Rattle.mesh.specs.declared.corner.Surface.{Surface}
use Rattle.mesh.specs.declared.triangles.Triangles.{Triangles}
use Rattle.mesh.specs.Corners.{shape_of}
use Rattle.mesh.specs.Held.{firsts, triangle_at, triangles_in}
use Rattle.mesh.specs.Writers.{triangles_of, HoldsSlots, same_triangles}
use Rattle.mesh.proofs.Firsts.{length_firsts}

-- the triangles that a slot adds
abbrev pub added_by : Triangle → List Triangle
added_by t = cond (proper t) (t ∷ []) []

-- one slot more
pub kept_more : (s : Shape) (k : ℕ) → kept s (k + 1) ≡ kept s k ++ added_by (slot s k)
unfolding kept
kept_more s k = rw add-one

-- the count is the number of triangles that the list holds
pub held_triangles : (count : ℕ) (l : List ℕ) {ts : List Triangle} → triangles_in count l ≡ ts → count ≡ length ts
held_triangles count l e = sym (length_firsts (triangle_at l) count) ∙ ap length e

-- a list that holds the triangles of the first k slots holds at most k
pub held_most : (s : Shape) (k count : ℕ) (l : List ℕ) → triangles_in count l ≡ kept s k → count ≤ k
held_most s k count l e = omega (arith, held_triangles count l e, kept_at_most s k)

-- the number of the next slot's triangle is the count of those before it
pub held_count : (s : Shape) (k count : ℕ) (l : List ℕ) → triangles_in count l ≡ kept s k → count ≡ triangle_number s k
unfolding triangle_number
held_count s k count l e = held_triangles count l e

-- before the first cell
pub none_held : (s : Shape) (n : ℕ) (l : List ℕ) → triangles_in 0 l ≡ kept s (2 * (0 * n))
unfolding firsts kept
none_held s n l = rw (zero-mul n)

-- Cell (u, v)

-- it is one of m·n cells
pub cell_below : {m n u v : ℕ} → u < m → v < n → u * n + v + 1 ≤ m * n
cell_below p q = omega (arith, digits_lt p q)

-- a half of the cell is one of its two slots
slot_of : (s : Surface) (u v i x : ℕ) → v < s.n → i % 2 ≡ x → i / 2 ≡ u * s.n + v →
    slot (shape_of s) i ≡ half_of (shape_of s) falling x u v
unfolding slot
slot_of s u v i x h e d = rw (e, d, digits_div u h, digits_mod u h)

pub slot_first : (s : Surface) (u v : ℕ) → v < s.n →
    slot (shape_of s) (2 * (u * s.n + v)) ≡ half_of (shape_of s) falling 0 u v
slot_first s u v h = slot_of s u v (2 * (u * s.n + v)) 0 h (omega arith) (omega arith)

pub slot_second : (s : Surface) (u v : ℕ) → v < s.n →
    slot (shape_of s) (2 * (u * s.n + v) + 1) ≡ half_of (shape_of s) falling 1 u v
slot_second s u v h = slot_of s u v (2 * (u * s.n + v) + 1) 1 h (omega arith) (omega arith)

pub ruleset cell_slots = (slot_first, slot_second)

-- One triangle more, written to the list t of surface s

module _ (s : Surface) (t t' : Triangles) (k : ℕ) {x : Triangle} (of : t.surface ≡ s) (held : HoldsSlots t k)
    (same : same_triangles t t') (is : x ≡ slot (shape_of s) k) where
  -- the slot's, if it is proper
  pub slot_added : triangles_of t' ≡ triangles_of t ++ added_by x → HoldsSlots t' (k + 1)
  slot_added a = rw (same.1, a, held, is, of) (sym (kept_more (shape_of s) k))

  -- one that is
  pub proper_added : proper x ≡ true → triangles_of t' ≡ triangles_of t ++ (x ∷ []) → HoldsSlots t' (k + 1)
  proper_added p a = slot_added (rw p a)

-- there is room for it
pub slot_room : (t : Triangles) (k : ℕ) → HoldsSlots t k → k < 2 * (t.surface.m * t.surface.n) →
    3 * t.count + 3 ≤ length t.list.now
slot_room t k h p = omega (arith, held_most (shape_of t.surface) k t.count t.list.now h, t.room)
