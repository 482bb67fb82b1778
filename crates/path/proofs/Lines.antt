-- The lines of a grid, as the loops write them: how long they are, where they start, and what their points are in the
-- grid's list.
use Prim.Native.Nat.{ℕ, zero, suc, ◌+◌, ◌-◌, ◌*◌, ◌≤◌, ◌<◌}
use native.Mathlib.Nat.{suc-mul}
use native.Mathlib.Omega.{arith}
use native.Mathlib.Numerals.{add-one}
use mathlib.Core.Path.{◌≡◌, refl, sym, ap, ◌∙◌}
use mathlib.Core.List.{List, [], ◌∷◌, ◌++◌, map, flatten, append_assoc, append-nil}
use lib.Ieee.{Float, nan}
use lib.ListN.{length, take, drop, replicate, length-append}
use lib.Seq.{take-add, take_all}
use Rattle.std.specs.List.{range_with_len}
use Rattle.std.proofs.lemmas.List.{drop_more, drop-drop}
use Rattle.std.proofs.lemmas.List.FromFn.{length-map-range_with_len, map-range_with_len_more}
use Rattle.float.specs.Consts.{zero64}
use Rattle.lent.specs.Lent.{filled}
use Rattle.vector.specs.declared.Vector.{Vector}
use Rattle.grid.specs.Grid.{point_at}
use Rattle.path.specs.GridPaths.{up_to, along_u, along_v, grid_lines, coordinates, starts_from}

-- Joined lists

pub flatten_append : {A : Type 0} (xs ys : List (List A)) → flatten (xs ++ ys) ≡ flatten xs ++ flatten ys
unfolding flatten
flatten_append [] ys = refl
flatten_append (x ∷ xs) ys = rw (flatten_append xs ys) (sym (append_assoc x (flatten xs) (flatten ys)))

flatten_one : {A : Type 0} (x : List A) → flatten (x ∷ []) ≡ x
unfolding flatten
flatten_one x = append-nil x

pub coordinates_append : (ps qs : List Vector) → coordinates (ps ++ qs) ≡ coordinates ps ++ coordinates qs
unfolding coordinates
coordinates_append [] qs = refl
coordinates_append (p ∷ ps) qs = rw (coordinates_append ps qs)

-- one point more, and one line more
pub point_more : (f : ℕ → Vector) (c : ℕ) →
    coordinates (map f (range_with_len 0 (c + 1)))
    ≡ coordinates (map f (range_with_len 0 c)) ++ coordinates (f c ∷ [])
point_more f c =
    ap coordinates (map-range_with_len_more f 0 c c (omega arith)) ∙ coordinates_append _ (f c ∷ [])

pub line_more : (f : ℕ → List Vector) (c : ℕ) →
    coordinates (flatten (map f (range_with_len 0 (c + 1))))
    ≡ coordinates (flatten (map f (range_with_len 0 c))) ++ coordinates (f c)
line_more f c =
    ap (λ (ls : List (List Vector)). coordinates (flatten ls)) (map-range_with_len_more f 0 c c (omega arith))
    ∙ rw (flatten_append, coordinates_append, flatten_one)

-- Lengths

pub length_coordinates : (ps : List Vector) → length (coordinates ps) ≡ 3 * length ps
unfolding coordinates
length_coordinates [] = refl
length_coordinates (p ∷ ps) = omega (arith, length_coordinates ps)

pub length_along_u : (g : List Float) (m n v : ℕ) → length (along_u g m n v) ≡ m + 1
unfolding along_u
length_along_u g m n v = length-map-range_with_len _ 0 (m + 1)

pub length_along_v : (g : List Float) (m n u : ℕ) → length (along_v g m n u) ≡ n + 1
unfolding along_v
length_along_v g m n u = length-map-range_with_len _ 0 (n + 1)

-- lines that are all as long
module _ (line : ℕ → List Vector) (w : ℕ) (each : (k : ℕ) → length (line k) ≡ w) where
  pub length_lines : (k c : ℕ) → length (flatten (map line (range_with_len k c))) ≡ c * w
  unfolding flatten
  length_lines k zero = omega arith
  length_lines k (suc c) =
      length-append (line k) (flatten (map line (range_with_len (k + 1) c)))
      ∙ omega (arith, each k, length_lines (k + 1) c, suc-mul c w)

  pub starts_lines : (first at k c : ℕ) → at ≡ first + k * w →
      starts_from at (map line (range_with_len k c)) ≡ map (λ (j : ℕ). first + j * w) (range_with_len k c)
  unfolding starts_from
  starts_lines first at k zero e = refl
  starts_lines first at k (suc c) e =
      let next : at + length (line k) ≡ first + (k + 1) * w = omega (arith, each k) in
      rw (starts_lines first (at + length (line k)) (k + 1) c next, e)

-- Starts

starts_append : (at : ℕ) (xs ys : List (List Vector)) →
    starts_from at (xs ++ ys) ≡ starts_from at xs ++ starts_from (at + length (flatten xs)) ys
unfolding starts_from flatten
starts_append at [] ys = let e : at + 0 ≡ at = omega arith in rw e
starts_append at (x ∷ xs) ys =
    let e : at + length x + length (flatten xs) ≡ at + length (x ++ flatten xs) =
    omega (arith, length-append x (flatten xs)) in
    rw (starts_append (at + length x) xs ys, e)

pub grid_starts : (g : List Float) (m n : ℕ) →
    starts_from 0 (grid_lines g m n)
    ≡ map (λ (k : ℕ). 0 + k * (m + 1)) (up_to n) ++ map (λ (k : ℕ). (m + 1) * (n + 1) + k * (n + 1)) (up_to m)
unfolding grid_lines
grid_starts g m n =
    let e : 0 + length (flatten (map (along_u g m n) (up_to n))) ≡ (m + 1) * (n + 1) + 0 * (n + 1) =
    omega (arith, length_lines (along_u g m n) (m + 1) (length_along_u g m n) 0 (n + 1)) in
    starts_append 0 (map (along_u g m n) (up_to n)) (map (along_v g m n) (up_to m))
    ∙ rw (
      starts_lines (along_u g m n) (m + 1) (length_along_u g m n) 0 0 0 (n + 1) (omega arith),
      starts_lines (along_v g m n) (n + 1) (length_along_v g m n) ((m + 1) * (n + 1)) _ 0 (m + 1) e,
    )

-- Points, as they stand in the grid's list

-- point number i is the three numbers there
pub point_part : (g : List Float) (i : ℕ) → 3 * i + 3 ≤ length g →
    take 3 (drop (3 * i) g) ≡ coordinates (point_at g i ∷ [])
unfolding coordinates point_at
point_part g i h =
    let x : 3 * i < length g = omega arith in
    let y : 3 * i + 1 < length g = omega arith in
    let z : 3 * i + 2 < length g = omega arith in
    let two : 3 * i + 1 + 1 ≡ 3 * i + 2 = omega arith in
    rw (drop_more g (3 * i) nan, drop_more g (3 * i + 1) nan, two, drop_more g (3 * i + 2) nan)

-- points that follow each other
points_part : (g : List Float) (k c : ℕ) → 3 * (k + c) ≤ length g →
    coordinates (map (λ (v : ℕ). point_at g (k + v)) (range_with_len 0 c)) ≡ take (3 * c) (drop (3 * k) g)
unfolding coordinates
points_part g k zero h = refl
points_part g k (suc c) h =
    let f : ℕ → Vector = λ (v : ℕ). point_at g (k + v) in
    let a : 3 * k + 3 * c ≡ 3 * (k + c) = omega arith in
    let b : 3 * suc c ≡ 3 * c + 3 = omega arith in
    (rw add-one at (point_more f c))
    ∙ rw (
      points_part g k c (omega arith),
      ← point_part g (k + c) (omega arith),
      b,
      take-add (3 * c) 3 (drop (3 * k) g),
      drop-drop (3 * c) (3 * k) g,
      a,
    )

line_part : (g : List Float) (m n u : ℕ) → 3 * (u * (n + 1) + (n + 1)) ≤ length g →
    coordinates (along_v g m n u) ≡ take (3 * (n + 1)) (drop (3 * (u * (n + 1))) g)
unfolding along_v
line_part g m n u h = points_part g (u * (n + 1)) (n + 1) h

-- the lines along v, u by u, are the points in their order
lines_part : (g : List Float) (m n c : ℕ) → 3 * (c * (n + 1)) ≤ length g →
    coordinates (flatten (map (along_v g m n) (range_with_len 0 c))) ≡ take (3 * (c * (n + 1))) g
unfolding coordinates flatten
lines_part g m n zero h = let none : 3 * (0 * (n + 1)) ≡ 0 = omega arith in rw none
lines_part g m n (suc c) h =
    let next : 3 * (suc c * (n + 1)) ≡ 3 * (c * (n + 1)) + 3 * (n + 1) = omega (arith, suc-mul c (n + 1)) in
    (rw add-one at (line_more (along_v g m n) c))
    ∙ rw (lines_part g m n c (omega arith), line_part g m n c (omega arith), next, take-add)

pub along_v_all : (g : List Float) (m n : ℕ) → length g ≡ 3 * ((m + 1) * (n + 1)) →
    coordinates (flatten (map (along_v g m n) (up_to m))) ≡ g
along_v_all g m n h = lines_part g m n (m + 1) (omega arith) ∙ take_all (3 * ((m + 1) * (n + 1))) g (omega arith)

-- What the two drawing functions leave

-- two lists one after the other, and zero past them
filled_by : {A : Type 0} (z : A) (xs ys zs l : List A) (k : ℕ) → length xs + (length ys + k) ≡ length l →
    zs ≡ replicate k z → xs ++ (ys ++ zs) ≡ filled z (xs ++ ys) l
filled_by z xs ys zs l k e h =
    let left : length l - length (xs ++ ys) ≡ k = omega (arith, length-append xs ys) in
    rw (h, left, append_assoc)

pub points_drawn : (g : List Float) (m n : ℕ) (l us vs rest : List Float) (k : ℕ) →
    us ≡ coordinates (flatten (map (along_u g m n) (up_to n))) → vs ≡ g → length g ≡ 3 * ((m + 1) * (n + 1)) →
    rest ≡ replicate k zero64 → length us + (length vs + k) ≡ length l →
    us ++ (vs ++ rest) ≡ filled zero64 (coordinates (flatten (grid_lines g m n))) l
unfolding grid_lines
points_drawn g m n l us vs rest k eu ev size er e =
    filled_by zero64 us vs rest l k e er
    ∙ rw (flatten_append, coordinates_append, along_v_all g m n size, eu, ev)

pub starts_drawn : (g : List Float) (m n : ℕ) (l us vs rest : List ℕ) (i j k : ℕ) →
    us ≡ map (λ (i : ℕ). 0 + i * (m + 1)) (range_with_len 0 i) → i ≡ n + 1 →
    vs ≡ map (λ (i : ℕ). (m + 1) * (n + 1) + i * (n + 1)) (range_with_len 0 j) → j ≡ m + 1 →
    rest ≡ replicate k 0 → length us + (length vs + k) ≡ length l →
    us ++ (vs ++ rest) ≡ filled 0 (starts_from 0 (grid_lines g m n)) l
starts_drawn g m n l us vs rest i j k eu ei ev ej er e =
    filled_by 0 us vs rest l k e er ∙ rw (grid_starts, eu, ev, ei, ej)
