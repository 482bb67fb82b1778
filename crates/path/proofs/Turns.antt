-- What a turn of each loop that draws leaves: one point more, one line more.
use Prim.Native.Nat.{ℕ, ◌+◌, ◌*◌, ◌≤◌}
use native.Mathlib.Nat.{mul-le-mul_left}
use native.Mathlib.Omega.{arith}
use mathlib.Core.Path.{◌≡◌, refl, sym, ap, ◌∙◌}
use mathlib.Core.List.{List, [], ◌∷◌, ◌++◌, map, flatten}
use lib.Ieee.{Float}
use lib.ListN.{length, take, set}
use lib.Seq.{take-add}
use borrow.Rule.Slice.PartMut.{put_mid}
use Rattle.std.specs.List.{range_with_len}
use Rattle.std.proofs.lemmas.Slice.{take-put_mid}
use Rattle.vector.specs.declared.Vector.{Vector}
use Rattle.grid.specs.Grid.{point_number, point_at}
use Rattle.path.specs.GridPaths.{along_u, coordinates}
use Rattle.path.proofs.Lines.{point_more, line_more, point_part, length_coordinates, length_along_u}

-- the first k points of the line along u at v
abbrev pub line_so_far : List Float → ℕ → ℕ → ℕ → List Vector
line_so_far g n v k = map (λ (u : ℕ). point_at g (point_number n u v)) (range_with_len 0 k)

-- the first k lines along u
abbrev pub lines_so_far : List Float → ℕ → ℕ → ℕ → List Vector
lines_so_far g m n k = flatten (map (along_u g m n) (range_with_len 0 k))

-- a point's three numbers, in the places of three others
pub point_put : (l : List Float) (p : Vector) → length l ≡ 3 →
    set (set (set l 0 p.x) 1 p.y) 2 p.z ≡ coordinates (p ∷ [])
unfolding coordinates
point_put [] p h = absurd (omega arith)
point_put (a ∷ []) p h = absurd (omega arith)
point_put (a ∷ b ∷ []) p h = absurd (omega arith)
point_put (a ∷ b ∷ c ∷ []) p h = refl
point_put (a ∷ b ∷ c ∷ d ∷ l) p h = absurd (omega arith)

-- a list whose first places hold what is drawn so far, and the part after them what comes next
turn : (l ys : List Float) (a k next : ℕ) (ps qs : List Float) → take a l ≡ ps → ys ≡ qs →
    a ≤ length l → next ≡ a + length qs → take next (put_mid a k l ys) ≡ ps ++ qs
turn l ys a k next ps qs before here h e =
    take-put_mid a k l ys next (omega (arith, ap length here)) h ∙ rw (before, here)

-- as `turn`, of one point
point_turn : (l ys : List Float) (i k : ℕ) (ps : List Float) (p : Vector) → take (3 * i) l ≡ ps →
    ys ≡ coordinates (p ∷ []) → 3 * i ≤ length l →
    take (3 * (i + 1)) (put_mid (3 * i) k l ys) ≡ ps ++ coordinates (p ∷ [])
point_turn l ys i k ps p before here h =
    turn l ys (3 * i) k (3 * (i + 1)) ps (coordinates (p ∷ [])) before here h
    (omega (arith, length_coordinates (p ∷ [])))

pub line_turn : (g : List Float) (n v u : ℕ) (l ys : List Float) (k : ℕ) →
    take (3 * u) l ≡ coordinates (line_so_far g n v u) → ys ≡ coordinates (point_at g (point_number n u v) ∷ []) →
    3 * u ≤ length l → take (3 * (u + 1)) (put_mid (3 * u) k l ys) ≡ coordinates (line_so_far g n v (u + 1))
line_turn g n v u l ys k before here h =
    let f : ℕ → Vector = λ (i : ℕ). point_at g (point_number n i v) in
    point_turn l ys u k _ (f u) before here h ∙ sym (point_more f u)

-- a list that is copied point by point
pub copy_turn : (g : List Float) (i : ℕ) (l ys : List Float) (k : ℕ) → take (3 * i) l ≡ take (3 * i) g →
    ys ≡ coordinates (point_at g i ∷ []) → 3 * i + 3 ≤ length g → 3 * i ≤ length l →
    take (3 * (i + 1)) (put_mid (3 * i) k l ys) ≡ take (3 * (i + 1)) g
copy_turn g i l ys k before here inside h =
    let next : 3 * (i + 1) ≡ 3 * i + 3 = omega arith in
    point_turn l ys i k _ (point_at g i) before here h
    ∙ rw (next, take-add (3 * i) 3 g, point_part g i inside)

pub lines_turn : (g : List Float) (m n v : ℕ) (l ys : List Float) (k : ℕ) →
    take (v * (3 * (m + 1))) l ≡ coordinates (lines_so_far g m n v) → ys ≡ coordinates (along_u g m n v) →
    length l ≡ 3 * ((m + 1) * (n + 1)) → v ≤ n →
    take ((v + 1) * (3 * (m + 1))) (put_mid (v * (3 * (m + 1))) k l ys) ≡ coordinates (lines_so_far g m n (v + 1))
lines_turn g m n v l ys k before here size h =
    turn l ys (v * (3 * (m + 1))) k ((v + 1) * (3 * (m + 1))) _ (coordinates (along_u g m n v)) before here
    (omega (arith, mul-le-mul_left (m + 1) h))
    (omega (arith, length_coordinates (along_u g m n v), length_along_u g m n v))
    ∙ sym (line_more (along_u g m n) v)
