-- Rules 4, 8 and 11 of `triangulate_seams` and `triangulate_grid`: what they answer and leave in the two lent lists, or
-- which refusal they give.
use Rattle.std.specs.Prelude.{ℕ, List, Float, None}
use Rattle.refusal.specs.declared.Refusal.TheVariants.{Mapping}
use Rattle.refusal.specs.Refusals.{Check, passed, Answer, ok, refused, values_or, unless, and_then}
use Rattle.tolerance.specs.declared.Tolerances.{Tolerances}
use Rattle.lent.specs.Lent.{Afterwards, answering, if_passed}
use Rattle.cyclic.specs.Mapping.{Seam}
use Rattle.cyclic.specs.Search.{searched}
use Rattle.surface.specs.Found.{surface_with}
use Rattle.surface.specs.Given.{seams_fit}
use Rattle.grid_seams.specs.declared.Seams.{Seams}
use Rattle.grid_seams.specs.Seams.{find_seams}
use Rattle.mesh.specs.declared.MeshCounts.{MeshCounts}
use Rattle.mesh.specs.Mesh.{MeshLists, written, mesh_check}
use Rattle.triangulation.specs.declared.Meshed.{Meshed}

-- ---- refusals

-- Rules 11.2: refusals 1, 2, 13, 3 and 4, and then 14, where a seam that is given does not fit
unfoldable pub given_check : List Float → ℕ → ℕ → Tolerances → Seam → Seam → List ℕ → List ℕ → Check
given_check g m n tolerances u v t f =
    and_then (mesh_check g m n tolerances t f) (unless (seams_fit g m n tolerances u v) Mapping passed)

-- ---- over seams that are given

-- Rules 4.5: the open call `triangulate_seams`; a refusal leaves the lists as they were (Rules 8.3)
unfoldable pub triangulate_seams : List Float → ℕ → ℕ → Tolerances → Seam → Seam → MeshLists →
    Afterwards (Answer MeshCounts) MeshLists
triangulate_seams g m n tolerances u v lent =
    if_passed (given_check g m n tolerances u v lent.triangles lent.flipped) lent
    (answering ok (written (surface_with m n u v) lent))

-- ---- over the seams that are found

-- the counts, with the seams that were found
abbrev pub meshed : Seams → MeshCounts → Answer Meshed
meshed s c = ok (record { seams = s; counts = c })

-- the same of an answer: a refusal has its number and no seam
abbrev pub with_seams : Seams → Answer MeshCounts → Answer Meshed
with_seams s (ok c) = meshed s c
with_seams s (refused k) = refused k

-- no seam, after no comparison, for both
abbrev pub no_seams : Seams
no_seams = record { u = searched None 0; v = searched None 0 }

-- Rules 4.5: the open call `triangulate_grid`: `find_seams`, and `triangulate_seams` with what it found. Where the
-- first is refused nothing was found, and the number is that of the second: so 3 comes before 4.
unfoldable pub triangulate_grid : List Float → ℕ → ℕ → Tolerances → MeshLists → Afterwards (Answer Meshed) MeshLists
triangulate_grid g m n tolerances lent =
    let seams = values_or no_seams (find_seams g m n tolerances) in
    answering (with_seams seams) (triangulate_seams g m n tolerances seams.u.seam seams.v.seam lent)
