-- Rules 7.1: the walk along a leg: what each event pushes, and when the line is flushed.
-- Original: `append_edge_crossings`.
use Rattle.std.specs.Prelude.{Bool, ◌||◌, cond, Some, None, Option, Ok, Err, Result, List, [], ◌∷◌, ◌++◌, Float}
use Rattle.std.specs.Float.{binary64}
use Rattle.std.specs.Float.Ieee.{lt, add, mul}
use Rattle.refusal.specs.declared.Refusal.{Refusal}
use Rattle.refusal.specs.declared.Refusal.TheVariants.{NoStep}
use Rattle.float.specs.Consts.{eps, zero64, half64}
use Rattle.param.specs.declared.Cells.{Cells}
use Rattle.param.specs.declared.Leg.{Leg}
use Rattle.param.specs.declared.ParamPoint.{ParamPoint}
use Rattle.param.specs.Param.{leg_at, param_in_bounds}
use Rattle.edges.specs.declared.event.EdgeEvent.{EdgeEvent}
use Rattle.edges.specs.Events.{sorted_edge_events, next_lambda}
use Rattle.crossing.specs.declared.Crossing.{Crossing}
use Rattle.crossing.specs.Crossing.{edge_point}
use Rattle.page.specs.Moves.{Move, push, flush, stop}
use Rattle.walk.specs.declared.Decision.{Decision}

-- the middle between two lambdas, (x + y)·0.5
abbrev pub middle : Float → Float → Float
middle x y = mul binary64 (add binary64 x y) half64

-- the leg is inside between two lambdas: its middle there is within EPS of the grid; where the first plus EPS is not
-- below the second, the point `near` is asked instead
unfoldable pub between_inside : Cells → Leg → Float → Float → ParamPoint → Bool
between_inside k l x y near =
    cond (lt (add binary64 x eps) y)
    (param_in_bounds k (leg_at l (middle x y)))
    (param_in_bounds k near)

-- before an event at x: since `previous`, the lambda of the event before, or by the leg's point at x
abbrev pub before_inside : Cells → Leg → Float → Float → Bool
before_inside k l previous x = between_inside k l previous x (leg_at l x)

-- after an event at x: up to `next`, the lambda of the next event, or by b
abbrev pub after_inside : Cells → Leg → Float → Float → Bool
after_inside k l x next = between_inside k l x next l.b

-- what becomes of an event's point; Rules 7.4: 11 where `step_index` has no answer for it
abbrev pub push_of : Option Crossing → Result (Option Crossing) Refusal
push_of (Some c) = Ok (Some c)
push_of None = Err NoStep

-- one event: its point is pushed if the leg is inside before or after it, and the line goes on if it is inside after
unfoldable pub decide : List Float → Cells → Leg → Float → EdgeEvent → Float → Decision
decide g k l previous e next =
    let before = before_inside k l previous e.lambda in
    let after = after_inside k l e.lambda next in
    record {
      point = cond (before || after) (push_of (edge_point g k e.edge (leg_at l e.lambda))) (Ok None);
      inside = after;
    }

-- ---- moves

-- of the point
abbrev pub point_moves : Result (Option Crossing) Refusal → List (Move Crossing)
point_moves (Ok (Some c)) = push c ∷ []
point_moves (Ok None) = []
point_moves (Err k) = stop k ∷ []

-- the pending line is flushed unless the leg is inside
abbrev pub end_moves : Bool → List (Move Crossing)
end_moves inside = cond inside [] (flush ∷ [])

-- of one event: its point, then the flush
abbrev pub moves_of : Decision → List (Move Crossing)
moves_of d = point_moves d.point ++ end_moves d.inside

-- of events in order, after one at `previous`
unfoldable pub events_moves : List Float → Cells → Leg → Float → List EdgeEvent → List (Move Crossing)
events_moves g k l previous [] = []
events_moves g k l previous (e ∷ es) =
    moves_of (decide g k l previous e (next_lambda es)) ++ events_moves g k l e.lambda es

-- of a leg: those of its events, from 0 on, and a flush if b is not within EPS of the grid
unfoldable pub leg_moves : List Float → Cells → Leg → List (Move Crossing)
leg_moves g k l = events_moves g k l zero64 (sorted_edge_events k l) ++ end_moves (param_in_bounds k l.b)
