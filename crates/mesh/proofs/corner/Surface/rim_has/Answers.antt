-- `mesh::corner::Surface::rim_has` meets its contract: the rim's slot is the one of its cell, axis by axis.
use Rattle.mesh.proofs.Numbers.{rim_is, low_u_lem, low_v_lem, high_u_lem, high_v_lem}
use Rattle.mesh.proofs.corner.Surface.rim_has.Goals as goal
use Rattle.mesh.proofs.corner.Surface.rim_has.Goals.{in-AxisU-First, in-AxisU-Second, in-AxisV-First, in-AxisV-Second}

pub returns : goal.returns
returns c =
    let s = c.args.self in
    let i = c.args.i in
    elim c.match-axis.branch [
      | in-AxisU-First w ↦ rim_is s i w.in-AxisU-First.is-0 w.in-AxisU-First.is-1 w.u-is (low_u_lem s i)
          c.triangle.ensures c.is_proper.ensures
      | in-AxisU-Second w ↦ rim_is s i w.in-AxisU-Second.is-0 w.in-AxisU-Second.is-1 w.u-is (high_u_lem s i)
          c.triangle.ensures c.is_proper.ensures
      | in-AxisV-First w ↦ rim_is s i w.in-AxisV-First.is-0 w.in-AxisV-First.is-1 w.u-is (low_v_lem s i)
          c.triangle.ensures c.is_proper.ensures
      | in-AxisV-Second w ↦ rim_is s i w.in-AxisV-Second.is-0 w.in-AxisV-Second.is-1 w.u-is (high_v_lem s i)
          c.triangle.ensures c.is_proper.ensures
    ]
