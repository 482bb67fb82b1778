-- Lines that stand one after the other in a list of points, read back by `line_at`: the start of line k is the
-- count of points before it, its end the count with it, so the part between them is the line. First for any
-- lines, then for those of a grid.
use Prim.Native.Nat.{ℕ, zero, suc, ◌+◌, ◌-◌, ◌*◌, ◌≤◌, ◌<◌}
use native.Mathlib.Omega.{arith}
use mathlib.Core.Path.{◌≡◌, refl, ap, ◌∙◌}
use mathlib.Core.Bool.{Bool, true, false}
use mathlib.Core.List.{List, [], ◌∷◌, ◌++◌, map, flatten, append_assoc, append-nil}
use lib.Dec.{ltb}
use lib.Ieee.{Float}
use lib.ListN.{length, get_or, take, drop, replicate, length-append, length-replicate, take-append-drop, get_or-append}
use lib.Seq.{take-suc, take_all, take_at, drop-append-add, get_or-append-add}
use borrow.Author.Tests.{ltb-true, ltb-false}
use Rattle.std.proofs.lemmas.List.FromFn.{length-map-range_with_len, get_or-map-range_with_len}
use Rattle.float.specs.Consts.{zero64}
use Rattle.refusal.specs.Refusals.{passed}
use Rattle.lent.specs.Lent.{filled}
use Rattle.vector.specs.declared.Vector.{Vector}
use Rattle.path.specs.GridPaths.{up_to, along_u, along_v, grid_lines, coordinates, starts_from, point_count}
use Rattle.path.specs.GridPaths.{line_count, paths_check, PathLists, grid_paths}
use Rattle.path.specs.Line.{line_start, line_end, part_of, line_at}
use Rattle.path.proofs.Lines.{coordinates_append, flatten_append, length_coordinates}
use Rattle.path.proofs.Lines.{length_along_u, length_along_v, length_lines}
use Rattle.path.proofs.Checks.{passed_room}
use Rattle.path.proofs.There.{There, span_there}

-- the count of points before line k
abbrev before : List (List Vector) → ℕ → ℕ
before ls k = length (flatten (take k ls))

before_next : (ls : List (List Vector)) (k : ℕ) → k < length ls →
    before ls (suc k) ≡ before ls k + length (get_or ls k [])
unfolding flatten
before_next ls k h = rw (take-suc ls k [], flatten_append, append-nil, length-append)

before_all : (ls : List (List Vector)) (k : ℕ) → before ls k ≤ length (flatten ls)
before_all ls k =
    let all : length (flatten (take k ls ++ drop k ls)) ≡ length (flatten ls) = rw take-append-drop in
    omega (arith, simp (flatten_append, length-append) at all)

length_starts : (at : ℕ) (ls : List (List Vector)) → length (starts_from at ls) ≡ length ls
unfolding starts_from
length_starts at [] = refl
length_starts at (l ∷ ls) = ap suc (length_starts (at + length l) ls)

start_is : (at : ℕ) (ls : List (List Vector)) (k : ℕ) → k < length ls →
    get_or (starts_from at ls) k 0 ≡ at + before ls k
unfolding starts_from flatten
start_is at [] k h = absurd (omega arith)
start_is at (l ∷ ls) zero h = omega arith
start_is at (l ∷ ls) (suc k) h =
    start_is (at + length l) ls k (omega arith) ∙ omega (arith, length-append l (flatten (take k ls)))

-- the part of the points that line k occupies
part_is_line : (ls : List (List Vector)) (k : ℕ) (zs : List Float) → k < length ls →
    take (3 * length (get_or ls k [])) (drop (3 * before ls k) (coordinates (flatten ls) ++ zs))
    ≡ coordinates (get_or ls k [])
unfolding flatten
part_is_line [] k zs h = absurd (omega arith)
part_is_line (l ∷ ls) zero zs h =
    rw (coordinates_append, append_assoc)
    (take_at (coordinates l) (coordinates (flatten ls) ++ zs) (3 * length l) (length_coordinates l))
part_is_line (l ∷ ls) (suc k) zs h =
    let e : 3 * length (l ++ flatten (take k ls)) ≡ length (coordinates l) + 3 * before ls k =
    omega (arith, length-append l (flatten (take k ls)), length_coordinates l) in
    rw (coordinates_append, append_assoc, e, drop-append-add) (part_is_line ls k zs (omega arith))

-- Any lines, drawn one after the other into lists that have room for them

module _ (ls : List (List Vector)) (points : List Float) (starts : List ℕ)
    (points_room : 3 * length (flatten ls) ≤ length points) (starts_room : length ls ≤ length starts) where
  drawn_points : List Float
  drawn_points = filled zero64 (coordinates (flatten ls)) points

  drawn_starts : List ℕ
  drawn_starts = filled 0 (starts_from 0 ls) starts

  start_at : (k : ℕ) → k < length ls → line_start drawn_starts k ≡ before ls k
  unfolding drawn_starts
  start_at k h =
      let l : k < length (starts_from 0 ls) = omega (arith, length_starts 0 ls) in
      let z : 0 + before ls k ≡ before ls k = omega arith in
      rw (get_or-append, start_is, z)

  end_at : (k : ℕ) → k < length ls →
      line_end drawn_starts (length (flatten ls)) (length ls) k ≡ before ls k + length (get_or ls k [])
  unfolding line_end
  end_at k h = go (ltb (k + 1) (length ls)) refl
    where
      one : k + 1 ≡ suc k
      one = omega arith

      go : (t : Bool) → ltb (k + 1) (length ls) ≡ t →
          line_end drawn_starts (length (flatten ls)) (length ls) k ≡ before ls k + length (get_or ls k [])
      go true e = rw (e, start_at (k + 1) (ltb-true _ _ e), one) (before_next ls k h)
      go false e =
          let all : take (suc k) ls ≡ ls = take_all (suc k) ls (omega (arith, ltb-false (k + 1) (length ls) e)) in
          rw e (rw all at (before_next ls k h))

  there : (k : ℕ) → k < length ls → There drawn_points drawn_starts (length (flatten ls)) (length ls) k
  unfolding drawn_points drawn_starts
  there k h =
      let s = start_at k h in
      let e = end_at k h in
      let b : before ls k + length (get_or ls k []) ≤ length (flatten ls) =
      omega (arith, before_next ls k h, before_all ls (suc k)) in
      record {
        below = h;
        points_fit_lem = simp (length-append, length-replicate, length_coordinates) (omega arith);
        starts_fit = simp (length-append, length-replicate, length_starts) (omega arith);
        ordered = omega arith;
        within = omega arith;
      }

  -- line k read back
  pub line_read : (k : ℕ) → k < length ls →
      line_at (filled zero64 (coordinates (flatten ls)) points) (filled 0 (starts_from 0 ls) starts)
      (length (flatten ls)) (length ls) k ≡ coordinates (get_or ls k [])
  unfolding line_at drawn_points drawn_starts
  line_read k h =
      let w : 3 * (before ls k + length (get_or ls k [])) - 3 * before ls k ≡ 3 * length (get_or ls k []) =
      omega arith in
      ap (part_of drawn_points) (span_there drawn_points drawn_starts (length (flatten ls)) (length ls) k (there k h))
      ∙ rw (start_at k h, end_at k h, w)
      (part_is_line ls k (replicate (length points - length (coordinates (flatten ls))) zero64) h)

-- The lines of a grid

pub line_count_lem : (g : List Float) (m n : ℕ) → length (grid_lines g m n) ≡ line_count m n
unfolding grid_lines
line_count_lem g m n = simp (length-append, length-map-range_with_len) (omega arith)

pub point_count_lem : (g : List Float) (m n : ℕ) → length (flatten (grid_lines g m n)) ≡ point_count m n
unfolding grid_lines
point_count_lem g m n =
    simp (flatten_append, length-append)
    (omega (
      arith,
      length_lines (along_u g m n) (m + 1) (length_along_u g m n) 0 (n + 1),
      length_lines (along_v g m n) (n + 1) (length_along_v g m n) 0 (m + 1),
    ))

line_u : (g : List Float) (m n v : ℕ) → v ≤ n → get_or (grid_lines g m n) v [] ≡ along_u g m n v
unfolding grid_lines
line_u g m n v h =
    let below : v < n + 1 = omega arith in
    let first : v < length (map (along_u g m n) (up_to n)) = simp length-map-range_with_len below in
    rw get_or-append (get_or-map-range_with_len (along_u g m n) 0 (n + 1) v v [] below (omega arith))

line_v : (g : List Float) (m n u : ℕ) → u ≤ m → get_or (grid_lines g m n) (n + 1 + u) [] ≡ along_v g m n u
unfolding grid_lines
line_v g m n u h =
    let e : n + 1 + u ≡ length (map (along_u g m n) (up_to n)) + u =
    omega (arith, length-map-range_with_len (along_u g m n) 0 (n + 1)) in
    rw (e, get_or-append-add) (get_or-map-range_with_len (along_v g m n) 0 (m + 1) u u [] (omega arith) (omega arith))

-- line number k of what a call leaves in its lists
abbrev pub line_of : List Float → ℕ → ℕ → PathLists → ℕ → List Float
line_of g m n lent k =
    let l = (grid_paths g m n lent).lists in line_at l.points l.starts (point_count m n) (line_count m n) k

-- what the two calls are to each other: each line of `grid_paths`, read back by `get`, is the row or
-- column that it stands for
pub record ReadBack (g : List Float) (m n : ℕ) (lent : PathLists) : Type 0 where
  pub along_u_lem : (v : ℕ) → v ≤ n → line_of g m n lent v ≡ coordinates (along_u g m n v)
  pub along_v_lem : (u : ℕ) → u ≤ m → line_of g m n lent (n + 1 + u) ≡ coordinates (along_v g m n u)

module _ (g : List Float) (m n : ℕ) (lent : PathLists)
    (passes : paths_check g m n lent.points lent.starts ≡ passed) where
  line_of_lem : (k : ℕ) → k < line_count m n → line_of g m n lent k ≡ coordinates (get_or (grid_lines g m n) k [])
  unfolding grid_paths
  line_of_lem k h =
      let r = passed_room g m n lent.points lent.starts passes in
      let p = point_count_lem g m n in
      let l = line_count_lem g m n in
      rw (passes, ← p, ← l)
      (line_read (grid_lines g m n) lent.points lent.starts (omega arith) (omega arith) k (omega arith))

  pub read_back : ReadBack g m n lent
  read_back =
      record {
        along_u_lem = λ v h. line_of_lem v (omega arith) ∙ ap coordinates (line_u g m n v h);
        along_v_lem = λ u h. line_of_lem (n + 1 + u) (omega arith) ∙ ap coordinates (line_v g m n u h);
      }
