-- Rules 7.2: the point of an event, made from two grid points p and q by a fraction t.
-- Original: `step_index`, `edge_point`.
use Rattle.std.specs.Prelude.{Bool, ◌||◌, cond, Option, Some, None, List, ℕ, ◌+◌, ◌-◌, eqb, Float}
use Rattle.std.specs.Float.{binary64}
use Rattle.std.specs.Float.Ieee.{neg, lt, add, sub}
use Rattle.float.specs.Consts.{eps, zero64, one64}
use Rattle.float.specs.Sign.{absolute}
use Rattle.float.specs.Order.{clamped}
use Rattle.float.specs.Whole.{floor_z}
use Rattle.float.specs.Cast.{nat_float, count}
use Rattle.vector.specs.declared.Vector.{Vector}
use Rattle.vector.specs.Vectors.{plus, scaled}
use Rattle.grid.specs.Grid.{point_number, point_at}
use Rattle.param.specs.declared.ParamPoint.{ParamPoint}
use Rattle.param.specs.declared.Cells.{Cells}
use Rattle.edges.specs.declared.event.ParamEdge.{ParamEdge}
use Rattle.edges.specs.declared.event.ParamEdge.TheVariants.{U, «V», Diagonal}
use Rattle.crossing.specs.declared.Crossing.{Crossing}

-- ---- step_index

-- the value is less than EPS from n
unfoldable pub close_to : Float → ℕ → Bool
close_to x n = lt (absolute (sub binary64 x (nat_float n))) eps

-- the cell of a value from 0 to steps: the last one if it is less than EPS from the last border, else its floor
unfoldable pub cell_of : Float → ℕ → ℕ
cell_of x steps = cond (close_to x steps) (steps - 1) (count (floor_z x))

-- no answer: there are no steps, or the value is below −EPS or above steps + EPS
unfoldable pub off_axis : Float → ℕ → Bool
off_axis x steps = eqb steps 0 || (lt x (neg eps) || lt (add binary64 (nat_float steps) eps) x)

-- the cell of a value, and t: the value less the cell's index
unfoldable pub at_cell : Float → ℕ → Option (ℕ × Float)
at_cell x steps = Some (cell_of x steps, sub binary64 x (nat_float (cell_of x steps)))

-- `step_index`: a value that has an answer is clamped to 0 to steps first
unfoldable pub step_index : Float → ℕ → Option (ℕ × Float)
step_index x steps = cond (off_axis x steps) None (at_cell (clamped x zero64 (nat_float steps)) steps)

-- ---- edge_point

-- the blend of p and q by t, (1 − t)·p + t·q, one rounding per operation
unfoldable pub blend : Vector → Vector → Float → Vector
blend p q t = plus (scaled p (sub binary64 one64 t)) (scaled q t)

-- the point made from the grid points of numbers p and q by t
abbrev pub crossing : List Float → ℕ → ℕ → Float → Crossing
crossing g p q t = record { p = p; q = q; t = t; point = blend (point_at g p) (point_at g q) t }

-- on U(u), in the cells of index v: p is the grid point (u, v) and q is (u, v+1)
abbrev pub on_u : List Float → ℕ → ℕ → Option (ℕ × Float) → Option Crossing
on_u g n u (Some (v, t)) = Some (crossing g (point_number n u v) (point_number n u (v + 1)) t)
on_u g n u None = None

-- on V(v), in the cells of index u: p is the grid point (u, v) and q is (u+1, v)
abbrev pub on_v : List Float → ℕ → ℕ → Option (ℕ × Float) → Option Crossing
on_v g n v (Some (u, t)) = Some (crossing g (point_number n u v) (point_number n (u + 1) v) t)
on_v g n v None = None

-- `edge_point`: the point of an event, from its side and the leg's point x at its lambda. On the diagonal of cell
-- (u, v), p is the corner (u+1, v) and q is (u, v+1), and t is x's v less the cell's index, clamped to 0 to 1
unfoldable pub edge_point : List Float → Cells → ParamEdge → ParamPoint → Option Crossing
edge_point g k (U u) x = on_u g k.n u (step_index x.v k.n)
edge_point g k («V» v) x = on_v g k.n v (step_index x.u k.m)
edge_point g k (Diagonal u v) x =
    Some (crossing g (point_number k.n (u + 1) v) (point_number k.n u (v + 1))
    (clamped (sub binary64 x.v (nat_float v)) zero64 one64))
