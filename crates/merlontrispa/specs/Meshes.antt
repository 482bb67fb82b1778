-- Rules 4, for C: both seams and the counts of triangles and flipped pairs.
use Rattle.std.specs.Prelude.{None}
use Rattle.refusal.specs.Refusals.{Answer, ok, refused}
use Rattle.cyclic.specs.Search.{searched}
use Rattle.grid_seams.specs.declared.Seams.{Seams}
use Rattle.mesh.specs.declared.MeshCounts.{MeshCounts}
use Rattle.triangulation.specs.declared.Meshed.{Meshed}
use Rattle.merlontrispa.specs.declared.found.SeamsAnswer.{SeamsAnswer}
use Rattle.merlontrispa.specs.declared.given.CountsAnswer.{CountsAnswer}
use Rattle.merlontrispa.specs.declared.meshes.MeshAnswer.{MeshAnswer}
use Rattle.merlontrispa.specs.Seams.{found_seam}

-- Rules 11.3: a refusal comes with its number alone, so there is no seam, after no comparison, and counts are 0
abbrev pub mesh_answer : Answer Meshed → MeshAnswer
mesh_answer (ok c) =
    record {
      refusal = 0;
      u = found_seam c.seams.u;
      v = found_seam c.seams.v;
      triangles = c.counts.triangles;
      pairs = c.counts.pairs;
    }
mesh_answer (refused k) =
    record {
      refusal = k;
      u = found_seam (searched None 0);
      v = found_seam (searched None 0);
      triangles = 0;
      pairs = 0;
    }

-- Rules 11.3: a refusal comes with its number alone, so there is no seam, after no comparison
abbrev pub seams_answer : Answer Seams → SeamsAnswer
seams_answer (ok s) = record { refusal = 0; u = found_seam s.u; v = found_seam s.v }
seams_answer (refused k) =
    record { refusal = k; u = found_seam (searched None 0); v = found_seam (searched None 0) }

-- and counts are 0
abbrev pub counts_answer : Answer MeshCounts → CountsAnswer
counts_answer (ok c) = record { refusal = 0; triangles = c.triangles; pairs = c.pairs }
counts_answer (refused k) = record { refusal = k; triangles = 0; pairs = 0 }
