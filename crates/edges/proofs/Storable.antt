-- Every candidate, on a grid of at most 255 steps, is an event that the lists take: its side is on the grid, so that it
-- fits, and its lambda is from 0 to 1, so no NaN.
use Rattle.std.specs.Prelude.{Option, Some, None}
use Prim.Native.Nat.{ℕ, ◌≤◌}
use native.Mathlib.Nat.{le_trans}
use lib.Dec.{lit≤}
use lib.Ieee.{Float}
use Rattle.float.specs.Consts.{zero64}
use Rattle.float.specs.Cast.{nat_float}
use Rattle.float.proofs.Less.{le_not_nan}
use Rattle.param.specs.declared.ParamPoint.{ParamPoint}
use Rattle.param.specs.declared.Leg.{Leg}
use Rattle.param.specs.declared.Cells.{Cells}
use Rattle.param.specs.declared.Axis.{Axis}
use Rattle.param.specs.Param.{along, steps_on}
use Rattle.edges.specs.declared.event.EdgeEvent.{EdgeEvent}
use Rattle.edges.specs.Events.{edge_at_point, end_candidate, lambda_at, change, line_candidate, sum_of, change_of_sum}
use Rattle.edges.specs.Events.{diagonal_candidate, IfEvent, OnGrid}
use Rattle.edges.specs.Order.{Storable}
use Rattle.edges.proofs.Codes.{inside_codable}
use Rattle.edges.proofs.Grid.{end_on_grid, line_on_grid, diagonal_on_grid}
use Rattle.edges.proofs.Laws.{ZeroToOne, OnLeg, normalized, end_on_leg, line_on_leg, diagonal_on_leg}

module _ (k : Cells) (hm : k.m ≤ 255) (hn : k.n ≤ 255) where
  storable : (c : Option EdgeEvent) → IfEvent (OnGrid k) c → IfEvent OnLeg c → IfEvent Storable c
  storable (Some e) g l = (inside_codable k e.edge hm hn g, (le_not_nan zero64 e.lambda l.0).1)
  storable None g l = tt

  pub end_storable : (l : Float) (p : ParamPoint) → ZeroToOne l → IfEvent Storable (end_candidate l (edge_at_point k p))
  end_storable l p s =
      storable _ (end_on_grid k l p (le_trans hm (lit≤ tt)) (le_trans hn (lit≤ tt)))
      (end_on_leg l (edge_at_point k p) s)

  module _ (leg : Leg) where
    pub line_storable : (x : Axis) (step : ℕ) → step ≤ steps_on x k → IfEvent Storable (line_candidate x k leg step)
    line_storable x step h =
        let l = lambda_at (nat_float step) (along x leg.a) (change x leg) in
        storable _ (line_on_grid k leg x step l h) (line_on_leg k leg x step l (normalized _))

    pub diagonal_storable : (sum : ℕ) → IfEvent Storable (diagonal_candidate k leg sum)
    diagonal_storable sum =
        let l = lambda_at (nat_float sum) (sum_of leg.a) (change_of_sum leg) in
        storable _ (diagonal_on_grid k leg l) (diagonal_on_leg k leg l (normalized _))
