use Rattle.std.proofs.Common.{ℕ, ◌+◌, ◌*◌, ◌≤◌, ◌≡◌, get_or}
use Rattle.surface.specs.Surface.{triangle_number}
use Rattle.mesh.specs.Corners.{shape_of}
use Rattle.mesh.proofs.flipped.RowStarts.count_row.Given as goal

abbrev pub invariant-loop-v : goal.invariant-loop-v
invariant-loop-v l = let s = l.self.surface in
    (i : ℕ) → i ≤ l.v → get_or l.counts i 0 ≡ triangle_number (shape_of s) (2 * (l.u * s.n + i))
