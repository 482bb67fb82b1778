use Rattle.std.proofs.Common.{ℕ, ◌*◌, ◌≤◌, ◌≡◌, get_or}
use Rattle.surface.specs.Surface.{triangle_number}
use Rattle.mesh.specs.Corners.{shape_of}
use Rattle.mesh.specs.Writers.{HoldsSlots, same_triangles}
use Rattle.mesh.proofs.triangles.Triangles.build_rows.Given as goal

abbrev pub invariant-loop-u : goal.invariant-loop-u
invariant-loop-u l = let s = l.fn.self.surface in
    same_triangles l.fn.self l.self × HoldsSlots l.self (2 * (l.u * s.n))
    × ((i : ℕ) → i ≤ l.u → get_or l.starts i 0 ≡ triangle_number (shape_of s) (2 * (i * s.n)))
