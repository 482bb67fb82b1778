-- The seam search, the triangulation and the trace as they were defined before they took tolerances: closeness is at
-- EPS, and no refusal is for a tolerance. What is the same before and after is cited.
use Rattle.std.specs.Prelude.{ℕ, ◌+◌, ◌*◌, ◌/◌, ◌&&◌, List, length, Float}
use Rattle.float.specs.Consts.{eps}
use Rattle.refusal.specs.declared.Refusal.TheVariants.{Length, Coordinate, Mark, Sample}
use Rattle.refusal.specs.Refusals.{Check, passed, Answer, ok, unless, and_then, passing}
use Rattle.lent.specs.declared.Counts.{Counts}
use Rattle.lent.specs.Lent.{room_check, Afterwards, answering, if_passed}
use Rattle.grid.specs.Grid.{point_at, coordinates_fit, grid_check}
use Rattle.cyclic.specs.declared.seam.SeamSearch.{SeamSearch}
use Rattle.cyclic.specs.Search.{close_at, search, row_fits}
use Rattle.surface.specs.Surface.{Shape}
use Rattle.surface.specs.Found.{column, row, surface_with}
use Rattle.mesh.specs.Mesh.{MeshLists, written}
use Rattle.triangulation.specs.declared.Meshed.{Meshed}
use Rattle.triangulation.specs.Triangulation.{meshed}
use Rattle.page.specs.Page.{Lists}
use Rattle.trace.specs.Drawing.{room_in}
use Rattle.trace.specs.Trace.{check_lengths, marks_fit, pairs_fit, drawing_of, finished}

-- `new_vector`: refusals 2 and 4 of two rows, and the search
abbrev pub rows_check : List Float → List Float → Check
rows_check a b =
    unless (row_fits a && row_fits b) Length (unless (coordinates_fit a && coordinates_fit b) Coordinate passed)

abbrev pub new_vector : List Float → List Float → Answer SeamSearch
new_vector a b =
    passing (rows_check a b) (ok (search (close_at eps) (point_at a) (point_at b) (length a / 3) (length b / 3)))

-- `triangulate_grid`: the seams of a grid and its surface, refusals 1, 2, 3 and 4, and the lists
abbrev pub u_search : List Float → ℕ → ℕ → SeamSearch
u_search g m n = search (close_at eps) (column g n 0) (column g n m) (n + 1) (n + 1)

abbrev pub v_search : List Float → ℕ → ℕ → SeamSearch
v_search g m n = search (close_at eps) (row g n 0) (row g n n) (m + 1) (m + 1)

abbrev pub surface_of : List Float → ℕ → ℕ → Shape
surface_of g m n = surface_with m n (u_search g m n).seam (v_search g m n).seam

abbrev pub mesh_check : List Float → ℕ → ℕ → List ℕ → List ℕ → Check
mesh_check g m n t f = grid_check g m n (room_check (6 * (m * n)) (length t) (2 * (m + n)) (length f))

abbrev pub triangulate_grid : List Float → ℕ → ℕ → MeshLists → Afterwards (Answer Meshed) MeshLists
triangulate_grid g m n lent =
    if_passed (mesh_check g m n lent.triangles lent.flipped) lent
    (answering (meshed (record { u = u_search g m n; v = v_search g m n })) (written (surface_of g m n) lent))

-- `trace_flat`: refusals 1, 2 (grid, then samples), 4, 9 and 10, and the drawing
abbrev pub trace_check : List Float → ℕ → ℕ → List Float → List ℕ → Check
trace_check g m n pairs marks =
    and_then (grid_check g m n (check_lengths pairs marks))
    (unless (marks_fit marks) Mark
    (unless (pairs_fit pairs marks) Sample passed))

abbrev pub trace_flat : List Float → ℕ → ℕ → List Float → List ℕ → Lists → Afterwards (Answer Counts) Lists
trace_flat g m n pairs marks l =
    if_passed (trace_check g m n pairs marks) l (finished (drawing_of eps g m n pairs marks (room_in l)) l)
