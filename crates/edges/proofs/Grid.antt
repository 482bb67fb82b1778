-- Every candidate is on the grid: a whole step is at most the last, a diagonal's cell is in the grid, and lines are
-- tried up to the last.
use Rattle.std.specs.Prelude.{Option, Some, None}
use Prim.Native.Nat.{ℕ, ◌^◌, ◌≤◌}
use lib.Ieee.{Float}
use Rattle.float.specs.Cast.{nat_float}
use Rattle.basics.proofs.Tests.{cond_keeps}
use Rattle.param.specs.declared.ParamPoint.{ParamPoint}
use Rattle.param.specs.declared.Leg.{Leg}
use Rattle.param.specs.declared.Cells.{Cells}
use Rattle.param.specs.declared.Axis.{Axis}
use Rattle.param.specs.declared.Axis.TheVariants.{AxisU, AxisV}
use Rattle.param.specs.Param.{across, leg_at, steps_on, steps_off, within, param_in_bounds}
use Rattle.edges.specs.declared.event.ParamEdge.{ParamEdge}
use Rattle.edges.specs.declared.event.EdgeEvent.{EdgeEvent}
use Rattle.edges.specs.Near.{integer_step}
use Rattle.edges.specs.Cell.{diagonal_cell_at}
use Rattle.edges.specs.Events.{event, diagonal_at, or_v, or_u, edge_at_point, end_candidate, on_line, line_at}
use Rattle.edges.specs.Events.{line_crossing, diagonal_event, diagonal_crossing, Inside, IfEvent, OnGrid}
use Rattle.edges.proofs.Steps.{StepWithin, step_within}
use Rattle.edges.proofs.Index.{CellInside, diagonal_inside}

-- ---- the side at a point
abbrev EdgeInside : Cells → Option ParamEdge → Type 0
EdgeInside k (Some e) = Inside k e
EdgeInside k None = Unit

or_u_lem : (k : Cells) (s : Option ℕ) (e : Option ParamEdge) → StepWithin k.m s → EdgeInside k e →
    EdgeInside k (or_u s e)
or_u_lem k (Some u) e h i = h
or_u_lem k None e h i = i

or_v_lem : (k : Cells) (s : Option ℕ) (e : Option ParamEdge) → StepWithin k.n s → EdgeInside k e →
    EdgeInside k (or_v s e)
or_v_lem k (Some v) e h i = h
or_v_lem k None e h i = i

diagonal_at_lem : (k : Cells) (c : Option (ℕ × ℕ)) → CellInside k c → EdgeInside k (diagonal_at c)
diagonal_at_lem k (Some (u, v)) h = h
diagonal_at_lem k None h = tt

edge_inside : (k : Cells) (p : ParamPoint) → k.m ≤ 2 ^ 53 → k.n ≤ 2 ^ 53 → EdgeInside k (edge_at_point k p)
unfolding edge_at_point
edge_inside k p hm hn =
    cond_keeps (EdgeInside k) (param_in_bounds k p) _ None
    (or_u_lem k (integer_step p.u k.m) _ (step_within p.u k.m hm)
    (or_v_lem k (integer_step p.v k.n) _ (step_within p.v k.n hn)
    (diagonal_at_lem k (diagonal_cell_at k p) (diagonal_inside k p))))
    tt

-- ---- candidates
pub end_on_grid : (k : Cells) (l : Float) (p : ParamPoint) → k.m ≤ 2 ^ 53 → k.n ≤ 2 ^ 53 →
    IfEvent (OnGrid k) (end_candidate l (edge_at_point k p))
end_on_grid k l p hm hn = go (edge_at_point k p) (edge_inside k p hm hn)
  where
    go : (e : Option ParamEdge) → EdgeInside k e → IfEvent (OnGrid k) (end_candidate l e)
    go (Some e) h = h
    go None h = tt

pub on_line_lem : (P : EdgeEvent → Type 0) (x : Float) (steps : ℕ) (e : EdgeEvent) → P e → IfEvent P (on_line x steps e)
on_line_lem P x steps e h = cond_keeps (IfEvent P) (within x (nat_float steps)) (Some e) None h tt

line_inside : (x : Axis) (k : Cells) (step : ℕ) → step ≤ steps_on x k → Inside k (line_at x step)
line_inside AxisU k step h = h
line_inside AxisV k step h = h

module _ (k : Cells) (leg : Leg) where
  pub line_on_grid : (x : Axis) (step : ℕ) (r : Option Float) → step ≤ steps_on x k →
      IfEvent (OnGrid k) (line_crossing x k leg step r)
  unfolding line_crossing
  line_on_grid x step None h = tt
  line_on_grid x step (Some l) h =
      on_line_lem (OnGrid k) (across x (leg_at leg l)) (steps_off x k) (event l (line_at x step))
      (line_inside x k step h)

  pub diagonal_on_grid : (r : Option Float) → IfEvent (OnGrid k) (diagonal_crossing k leg r)
  unfolding diagonal_crossing
  diagonal_on_grid None = tt
  diagonal_on_grid (Some l) =
      let p = leg_at leg l in
      cond_keeps (IfEvent (OnGrid k)) (param_in_bounds k p) _ None (at (diagonal_cell_at k p) (diagonal_inside k p)) tt
    where
      at : (c : Option (ℕ × ℕ)) → CellInside k c → IfEvent (OnGrid k) (diagonal_event l c)
      at (Some (u, v)) h = h
      at None h = tt
