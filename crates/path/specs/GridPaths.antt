-- Rules 9.1: the grid lines, the lists and counts that `grid_paths` leaves, and its refusals.
use Rattle.std.specs.Prelude.{ℕ, ◌+◌, ◌*◌, length, Float}
use Rattle.std.specs.List.{range_with_len}
use mathlib.Core.List.{List, [], ◌∷◌, ◌++◌, map, flatten}
use Rattle.float.specs.Consts.{zero64}
use Rattle.refusal.specs.Refusals.{Check, Answer, ok}
use Rattle.lent.specs.declared.Counts.{Counts}
use Rattle.lent.specs.Lent.{room_check, filled, Afterwards, afterwards, if_passed, counts}
use Rattle.vector.specs.declared.Vector.{Vector}
use Rattle.grid.specs.Grid.{point_number, point_at, grid_check}

-- the numbers from 0 to n
abbrev pub up_to : ℕ → List ℕ
up_to n = range_with_len 0 (n + 1)

-- the line along u at v: grid points (0, v) to (M, v)
unfoldable pub along_u : List Float → ℕ → ℕ → ℕ → List Vector
along_u g m n v = map (λ (u : ℕ). point_at g (point_number n u v)) (up_to m)

-- the line along v at u: grid points (u, 0) to (u, N)
unfoldable pub along_v : List Float → ℕ → ℕ → ℕ → List Vector
along_v g m n u = map (λ (v : ℕ). point_at g (point_number n u v)) (up_to n)

-- all lines: one along u for each v, and after them one along v for each u
unfoldable pub grid_lines : List Float → ℕ → ℕ → List (List Vector)
grid_lines g m n = map (along_u g m n) (up_to n) ++ map (along_v g m n) (up_to m)

-- Rules 8.1: points as they stand in a list, x, y and z of each
unfoldable pub coordinates : List Vector → List Float
coordinates [] = []
coordinates (p ∷ ps) = p.x ∷ p.y ∷ p.z ∷ coordinates ps

-- Rules 8.1: line starts, of lines that follow each other from point number at on
unfoldable pub starts_from : ℕ → List (List Vector) → List ℕ
starts_from at [] = []
starts_from at (l ∷ ls) = at ∷ starts_from (at + length l) ls

-- the counts of points and of lines
abbrev pub point_count : ℕ → ℕ → ℕ
point_count m n = 2 * ((m + 1) * (n + 1))

abbrev pub line_count : ℕ → ℕ → ℕ
line_count m n = m + n + 2

-- refusals 1, 2, 3 and 4, in this order. What 3 asks for: room for three numbers of each point, and for each line's
-- start
unfoldable pub paths_check : List Float → ℕ → ℕ → List Float → List ℕ → Check
paths_check g m n points starts =
    grid_check g m n (room_check (6 * ((m + 1) * (n + 1))) (length points) (m + n + 2) (length starts))

-- the two lists that are lent for the lines
pub record PathLists : Type 0 where
  pub points : List Float
  pub starts : List ℕ

abbrev pub path_lists : List Float → List ℕ → PathLists
path_lists points starts = record { points = points; starts = starts }

-- the lines, drawn into these lists
abbrev pub drawn_into : PathLists → List Float → ℕ → ℕ → PathLists
drawn_into lent g m n =
    path_lists (filled zero64 (coordinates (flatten (grid_lines g m n))) lent.points)
    (filled 0 (starts_from 0 (grid_lines g m n)) lent.starts)

-- the open call `grid_paths`: the counts, and the lines in the lists; or a refusal, and the lists as they were
unfoldable pub grid_paths : List Float → ℕ → ℕ → PathLists → Afterwards (Answer Counts) PathLists
grid_paths g m n lent =
    if_passed (paths_check g m n lent.points lent.starts) lent
    (afterwards (ok (counts (point_count m n) (line_count m n))) (drawn_into lent g m n))
