-- Rules 6.2 and 6.4: the events of a leg: the candidates in their order, sorted, and without those that are too near
-- the one kept before. Original: `sorted_edge_events` and what it calls.
use Rattle.std.specs.Prelude.{Bool, true, false, cond, Option, Some, None, List, [], ◌∷◌, ◌++◌}
use Rattle.std.specs.Prelude.{ℕ, zero, suc, ◌+◌, ◌-◌, ◌≤◌, ◌<◌, min, max, Float}
use Rattle.std.specs.Float.{binary64}
use Rattle.std.specs.Float.Ieee.{lt, add, sub, div}
use Rattle.float.specs.Consts.{eps, zero64, one64}
use Rattle.float.specs.Sign.{absolute}
use Rattle.float.specs.Order.{total_order}
use Rattle.std.specs.declared.cmp.Ordering.{Ordering}
use Rattle.std.specs.declared.cmp.Ordering.TheVariants.{Less, Equal, Greater}
use Rattle.float.specs.Whole.{floor_z, ceil_z}
use Rattle.float.specs.Cast.{nat_float, count}
use Rattle.param.specs.declared.ParamPoint.{ParamPoint}
use Rattle.param.specs.declared.Leg.{Leg}
use Rattle.param.specs.declared.Cells.{Cells}
use Rattle.param.specs.declared.Axis.{Axis}
use Rattle.param.specs.declared.Axis.TheVariants.{AxisU, AxisV}
use Rattle.param.specs.Param.{along, across, leg_at, steps_on, steps_off, within, param_in_bounds}
use Rattle.edges.specs.declared.event.ParamEdge.{ParamEdge}
use Rattle.edges.specs.declared.event.ParamEdge.TheVariants.{U, «V», Diagonal}
use Rattle.edges.specs.declared.event.EdgeEvent.{EdgeEvent}
use Rattle.edges.specs.Near.{integer_step, normalize_lambda}
use Rattle.edges.specs.Cell.{diagonal_cell_at}

-- Rules 6.2: an event is a lambda with a side, `ParamEdge`
abbrev pub event : Float → ParamEdge → EdgeEvent
event l e = record { lambda = l; edge = e }

-- ---- Rules 6.2, 1: the side that a point is on (`edge_at_point`): U(u), else V(v), else a diagonal

abbrev pub diagonal_at : Option (ℕ × ℕ) → Option ParamEdge
diagonal_at (Some (u, v)) = Some (Diagonal u v)
diagonal_at None = None

abbrev pub or_v : Option ℕ → Option ParamEdge → Option ParamEdge
or_v (Some v) e = Some («V» v)
or_v None e = e

abbrev pub or_u : Option ℕ → Option ParamEdge → Option ParamEdge
or_u (Some u) e = Some (U u)
or_u None e = e

-- on a side: only a point within EPS of the grid is
unfoldable pub edge_at_point : Cells → ParamPoint → Option ParamEdge
edge_at_point k p =
    cond (param_in_bounds k p)
    (or_u (integer_step p.u k.m) (or_v (integer_step p.v k.n) (diagonal_at (diagonal_cell_at k p))))
    None

-- ---- Rules 6.2: one candidate

-- of an end of the leg, at lambda 0 or 1, if it is on a side
abbrev pub end_candidate : Float → Option ParamEdge → Option EdgeEvent
end_candidate l (Some e) = Some (event l e)
end_candidate l None = None

-- the lambda at which what goes from x by dx comes to y, if it counts
abbrev pub lambda_at : Float → Float → Float → Option Float
lambda_at y x dx = normalize_lambda (div binary64 (sub binary64 y x) dx)

-- an event on a line of so many steps, if x, where the leg meets it, is within EPS of the line
abbrev pub on_line : Float → ℕ → EdgeEvent → Option EdgeEvent
on_line x steps e = cond (within x (nat_float steps)) (Some e) None

-- the line at a step of an axis
abbrev pub line_at : Axis → ℕ → ParamEdge
line_at AxisU u = U u
line_at AxisV v = «V» v

-- of a line, at a lambda that counts: the leg's point there is within EPS of the grid on the other axis
unfoldable pub line_crossing : Axis → Cells → Leg → ℕ → Option Float → Option EdgeEvent
line_crossing x k leg step None = None
line_crossing x k leg step (Some l) = on_line (across x (leg_at leg l)) (steps_off x k) (event l (line_at x step))

abbrev pub diagonal_event : Float → Option (ℕ × ℕ) → Option EdgeEvent
diagonal_event l (Some (u, v)) = Some (event l (Diagonal u v))
diagonal_event l None = None

-- of a diagonal: the leg's point there is within EPS of the grid and on the diagonal of a cell
unfoldable pub diagonal_crossing : Cells → Leg → Option Float → Option EdgeEvent
diagonal_crossing k leg None = None
diagonal_crossing k leg (Some l) =
    cond (param_in_bounds k (leg_at leg l)) (diagonal_event l (diagonal_cell_at k (leg_at leg l))) None

-- by how much an axis changes along the leg
abbrev pub change : Axis → Leg → Float
change x leg = sub binary64 (along x leg.b) (along x leg.a)

-- 2 and 3: U(step) or V(step)
abbrev pub line_candidate : Axis → Cells → Leg → ℕ → Option EdgeEvent
line_candidate x k leg step = line_crossing x k leg step (lambda_at (nat_float step) (along x leg.a) (change x leg))

-- u + v of a point, and by how much it changes along the leg: the sum of both changes
abbrev pub sum_of : ParamPoint → Float
sum_of p = add binary64 p.u p.v

abbrev pub change_of_sum : Leg → Float
change_of_sum leg = add binary64 (sub binary64 leg.b.u leg.a.u) (sub binary64 leg.b.v leg.a.v)

-- 4: the diagonal at which u + v is `sum`
abbrev pub diagonal_candidate : Cells → Leg → ℕ → Option EdgeEvent
diagonal_candidate k leg sum = diagonal_crossing k leg (lambda_at (nat_float sum) (sum_of leg.a) (change_of_sum leg))

-- ---- Rules 6.2: the candidates in their order

-- a change that exceeds EPS in magnitude: without it nothing is tried
abbrev pub changes : Float → Bool
changes d = lt eps (absolute d)

abbrev pub listed : Option EdgeEvent → List EdgeEvent → List EdgeEvent
listed (Some e) es = e ∷ es
listed None es = es

-- n candidates from number i on
unfoldable pub list_from : (ℕ → Option EdgeEvent) → ℕ → ℕ → List EdgeEvent
list_from f zero i = []
list_from f (suc n) i = listed (f i) (list_from f n (i + 1))

-- the smaller and the larger of u + v at the two ends
abbrev pub low_sum : Leg → Float
low_sum leg = cond (lt (sum_of leg.b) (sum_of leg.a)) (sum_of leg.b) (sum_of leg.a)

abbrev pub high_sum : Leg → Float
high_sum leg = cond (lt (sum_of leg.a) (sum_of leg.b)) (sum_of leg.b) (sum_of leg.a)

-- whole numbers from the ceiling of the smaller to the floor of the larger, of which only 1 to M+N−1 have a diagonal:
-- the first, and the one past the last
abbrev pub first_sum : Leg → ℕ
first_sum leg = max 1 (count (ceil_z (low_sum leg)))

abbrev pub past_sum : Cells → Leg → ℕ
past_sum k leg = min (k.m + k.n) (count (floor_z (high_sum leg)) + 1)

-- 1: a, then b
unfoldable pub ends : Cells → Leg → List EdgeEvent
ends k leg =
    listed (end_candidate zero64 (edge_at_point k leg.a)) (listed (end_candidate one64 (edge_at_point k leg.b)) [])

-- 2 and 3: the lines of an axis, from its first to its last
unfoldable pub lines : Axis → Cells → Leg → List EdgeEvent
lines x k leg = cond (changes (change x leg)) (list_from (line_candidate x k leg) (steps_on x k + 1) 0) []

-- 4: the diagonals
unfoldable pub diagonals : Cells → Leg → List EdgeEvent
diagonals k leg =
    cond (changes (change_of_sum leg))
    (list_from (diagonal_candidate k leg) (past_sum k leg - first_sum leg) (first_sum leg))
    []

-- all of them, in the order of their numbers in the rule
unfoldable pub candidates : Cells → Leg → List EdgeEvent
candidates k leg = ends k leg ++ (lines AxisU k leg ++ (lines AxisV k leg ++ diagonals k leg))

-- ---- Rules 6.4

-- sorted by lambda in totalOrder: each event in turn goes before the first that it precedes, so after its equals
abbrev pub precedes : Ordering → Bool
precedes Less = true
precedes Equal = false
precedes Greater = false

unfoldable pub insert : EdgeEvent → List EdgeEvent → List EdgeEvent
insert e [] = e ∷ []
insert e (x ∷ xs) = cond (precedes (total_order e.lambda x.lambda)) (e ∷ (x ∷ xs)) (x ∷ insert e xs)

-- a candidate, sorted in; for inner contracts
abbrev pub pushed : Option EdgeEvent → List EdgeEvent → List EdgeEvent
pushed (Some e) sorted = insert e sorted
pushed None sorted = sorted

-- events sorted into those that are sorted
unfoldable pub sort_into : List EdgeEvent → List EdgeEvent → List EdgeEvent
sort_into [] sorted = sorted
sort_into (e ∷ es) sorted = sort_into es (insert e sorted)

-- less than EPS from the last one kept: such an event is dropped
abbrev pub close_by : Float → Float → Bool
close_by kept l = lt (absolute (sub binary64 kept l)) eps

unfoldable pub unique_after : Float → List EdgeEvent → List EdgeEvent
unique_after kept [] = []
unique_after kept (e ∷ es) = cond (close_by kept e.lambda) (unique_after kept es) (e ∷ unique_after e.lambda es)

unfoldable pub unique : List EdgeEvent → List EdgeEvent
unique [] = []
unique (e ∷ es) = e ∷ unique_after e.lambda es

-- the events of a leg
unfoldable pub sorted_edge_events : Cells → Leg → List EdgeEvent
sorted_edge_events k leg = unique (sort_into (candidates k leg) [])

-- the lambda of the next event, or 1 where there is none
abbrev pub next_lambda : List EdgeEvent → Float
next_lambda [] = one64
next_lambda (e ∷ es) = e.lambda

-- ---- what holds of every event; for inner contracts

-- an event's side is on the grid: U(u) up to M, V(v) up to N, a diagonal in a cell
abbrev pub Inside : Cells → ParamEdge → Type 0
Inside k (U u) = u ≤ k.m
Inside k («V» v) = v ≤ k.n
Inside k (Diagonal u v) = (u < k.m) × (v < k.n)

-- P, of a candidate that is an event
abbrev pub IfEvent : (EdgeEvent → Type 0) → Option EdgeEvent → Type 0
IfEvent P (Some e) = P e
IfEvent P None = Unit

abbrev pub OnGrid : Cells → EdgeEvent → Type 0
OnGrid k e = Inside k e.edge
