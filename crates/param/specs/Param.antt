-- Rules 6.1 and 6.2: ParamPoints and legs, the point of a leg at a lambda, and what is within EPS of the grid.
-- Original: `lerp`, `param_in_bounds`.
use Rattle.std.specs.Prelude.{Bool, ◌&&◌, ℕ, Float}
use Rattle.std.specs.Float.{binary64}
use Rattle.std.specs.Float.Ieee.{neg, le, add, sub, mul}
use Rattle.float.specs.Consts.{eps}
use Rattle.float.specs.Cast.{nat_float}
use Rattle.param.specs.declared.ParamPoint.{ParamPoint}
use Rattle.param.specs.declared.Leg.{Leg}
use Rattle.param.specs.declared.Cells.{Cells}
use Rattle.param.specs.declared.Axis.{Axis}
use Rattle.param.specs.declared.Axis.TheVariants.{AxisU, AxisV}

-- Rules 6.1: a ParamPoint of u and v
abbrev pub param : Float → Float → ParamPoint
param u v = record { u = u; v = v }

-- Rules 6.1: the leg from a to b
abbrev pub leg : ParamPoint → ParamPoint → Leg
leg a b = record { a = a; b = b }

-- the cells of a grid: m steps in u, n in v
abbrev pub cells : ℕ → ℕ → Cells
cells m n = record { m = m; n = n }

-- from a towards b by t: a + (b − a)·t, which at 1 need not be b
abbrev pub towards : Float → Float → Float → Float
towards a b t = add binary64 a (mul binary64 (sub binary64 b a) t)

-- the same of u and of v
abbrev pub lerp : ParamPoint → ParamPoint → Float → ParamPoint
lerp a b t = param (towards a.u b.u t) (towards a.v b.v t)

-- Rules 6.2: the point of a leg at lambda t
abbrev pub leg_at : Leg → Float → ParamPoint
leg_at l t = lerp l.a l.b t

abbrev pub other : Axis → Axis
other AxisU = AxisV
other AxisV = AxisU

-- the coordinate on an axis, and the one on the other axis
abbrev pub along : Axis → ParamPoint → Float
along AxisU p = p.u
along AxisV p = p.v

abbrev pub across : Axis → ParamPoint → Float
across AxisU p = p.v
across AxisV p = p.u

-- the steps on an axis, and on the other axis
abbrev pub steps_on : Axis → Cells → ℕ
steps_on AxisU k = k.m
steps_on AxisV k = k.n

abbrev pub steps_off : Axis → Cells → ℕ
steps_off AxisU k = k.n
steps_off AxisV k = k.m

-- from −EPS to top + EPS
unfoldable pub within : Float → Float → Bool
within x top = le (neg eps) x && le x (add binary64 top eps)

-- Rules 6.2: a point within EPS of the grid, so u of 0 to M and v of 0 to N
unfoldable pub param_in_bounds : Cells → ParamPoint → Bool
param_in_bounds k p = within p.u (nat_float k.m) && within p.v (nat_float k.n)
