-- A cell that touches neither the last u nor the last v: no rule applies to its corners, and its two triangles are
-- proper.
use Prim.Native.Nat.{ℕ, ◌+◌, ◌*◌, ◌<◌}
use mathlib.Core.Path.{◌≡◌}
use mathlib.Core.Bool.{true, and-false}
use native.Mathlib.Omega.{arith}
use borrow.Author.Tests.{ne_eqb}
use Rattle.grid.specs.Grid.{point_number}
use Rattle.surface.specs.Surface.{joined, corner, corner_by, tri, proper, slot, half_of}
use Rattle.surface.specs.Found.{seam_of}
use Rattle.surface.proofs.Demand.{proper_of}
use Rattle.mesh.specs.declared.corner.Surface.{Surface}
use Rattle.mesh.specs.Corners.{shape_of}
use Rattle.mesh.proofs.Cells.{slot_first, slot_second}

module _ (s : Surface) where
  plain_corner : (row u v : ℕ) → u < s.m → row + 1 < s.n → corner (shape_of s) row u v ≡ point_number s.n u v
  unfolding corner corner_by
  plain_corner row u v p q =
      rw (
        ne_eqb (row + 1) s.n (λ e. omega arith),
        ne_eqb u s.m (λ e. omega arith),
        and-false (joined (seam_of s.u)),
      )

  module _ (u v : ℕ) (p : u + 1 < s.m) (q : v + 1 < s.n) {i : ℕ} (e : i ≡ point_number s.n u v) where
    i10 : point_number s.n (u + 1) v ≡ i + s.n + 1
    i10 = omega arith

    i01 : point_number s.n u (v + 1) ≡ i + 1
    i01 = omega arith

    i11 : point_number s.n (u + 1) (v + 1) ≡ i + s.n + 1 + 1
    i11 = omega arith

    pub inner_first : tri i (i + s.n + 1) (i + 1) ≡ slot (shape_of s) (2 * (u * s.n + v))
    unfolding half_of
    inner_first =
        rw (
          slot_first s u v (omega arith),
          plain_corner v u v (omega arith) q,
          plain_corner v (u + 1) v p q,
          plain_corner v u (v + 1) (omega arith) q,
          i10,
          i01,
          ← e,
        )

    pub first_proper : proper (tri i (i + s.n + 1) (i + 1)) ≡ true
    first_proper = proper_of (tri i (i + s.n + 1) (i + 1)) (λ z. omega arith) (λ z. omega arith) (λ z. omega arith)

    pub inner_second : tri (i + s.n + 1) (i + s.n + 1 + 1) (i + 1) ≡ slot (shape_of s) (2 * (u * s.n + v) + 1)
    unfolding half_of
    inner_second =
        rw (
          slot_second s u v (omega arith),
          plain_corner v (u + 1) v p q,
          plain_corner v (u + 1) (v + 1) p q,
          plain_corner v u (v + 1) (omega arith) q,
          i10,
          i11,
          i01,
        )

    pub second_proper : proper (tri (i + s.n + 1) (i + s.n + 1 + 1) (i + 1)) ≡ true
    second_proper =
        proper_of (tri (i + s.n + 1) (i + s.n + 1 + 1) (i + 1)) (λ z. omega arith) (λ z. omega arith) (λ z. omega arith)
