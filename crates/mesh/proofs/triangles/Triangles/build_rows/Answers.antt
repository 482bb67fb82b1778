-- `mesh::triangles::Triangles::build_rows` meets its contract: after u rows the list holds the triangles of their
-- slots, and the starts are known up to u.
use Rattle.std.proofs.Common.{ℕ, ◌+◌, ◌*◌, refl, ◌∙◌, arith}
use Rattle.std.proofs.Math.ListN.{length-set}
use Rattle.surface.specs.Surface.{triangle_number}
use Rattle.mesh.specs.declared.corner.Surface.{Surface}
use Rattle.mesh.specs.Corners.{shape_of}
use Rattle.mesh.proofs.Firsts.{value_first, values_more}
use Rattle.mesh.proofs.Cells.{none_held, held_count}
use Rattle.mesh.proofs.triangles.Triangles.build_rows.Goals as goal

-- the number of the triangles before row u
abbrev number : Surface → ℕ → ℕ
number s u = triangle_number (shape_of s) (2 * (u * s.n))

pub loop-u-init : goal.loop-u-init
loop-u-init c =
    let a = c.args in
    let s = a.self.now.surface in
    let l = a.self.now.list.now in
    let none = none_held (shape_of s) s.n l in (
      (refl, refl),
      rw c.requires.none none,
      value_first (number s) a.starts.now 0 (omega arith) (held_count (shape_of s) (2 * (0 * s.n)) 0 l none),
    )

pub loop-u-preserved : goal.loop-u-preserved
loop-u-preserved c =
    let s = c.args.self.now.surface in
    let b = c.build_row in
    let w = c.loop-u in
    let of = b.ensures.same.1 ∙ w.invariant.0.1 in
    let held = rw (of, w.invariant.0.1) at b.ensures.held in (
      (b.ensures.same.0 ∙ w.invariant.0.0, of),
      rw (← w.invariant.0.1) b.ensures.held,
      values_more (number s) w.starts w.u b.new.self.count
          (omega (arith, length-set c.args.starts.now 0 0)) w.invariant.2
          (held_count (shape_of s) (2 * ((w.u + 1) * s.n)) b.new.self.count b.new.self.list.now held),
    )
