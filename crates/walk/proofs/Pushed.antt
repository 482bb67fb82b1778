-- What a leg pushes are points of its events' sides, so they are good where `edge_point` makes only good points of
-- these.
use Rattle.std.specs.Prelude.{Some, None, Option, Ok}
use mathlib.Core.Path.{◌≡◌, refl}
use mathlib.Core.Bool.{Bool, true, false, ◌||◌, cond}
use mathlib.Core.List.{List, [], ◌∷◌}
use lib.Ieee.{Float}
use Rattle.basics.specs.Lists.{Each}
use Rattle.float.specs.Consts.{zero64}
use Rattle.param.specs.declared.ParamPoint.{ParamPoint}
use Rattle.param.specs.declared.Cells.{Cells}
use Rattle.param.specs.declared.Leg.{Leg}
use Rattle.param.specs.Param.{leg_at, param_in_bounds}
use Rattle.edges.specs.declared.event.ParamEdge.{ParamEdge}
use Rattle.edges.specs.declared.event.EdgeEvent.{EdgeEvent}
use Rattle.edges.specs.Events.{sorted_edge_events, next_lambda}
use Rattle.crossing.specs.declared.Crossing.{Crossing}
use Rattle.crossing.specs.Crossing.{edge_point}
use Rattle.page.proofs.Moves.{AllPushed, none, pushing, flushing, stopping, both, either}
use Rattle.walk.specs.Walk.{before_inside, after_inside, push_of, decide, point_moves, end_moves}
use Rattle.walk.specs.Walk.{events_moves, leg_moves}

module _ (g : List Float) (k : Cells) (Good : Crossing → Type 0) where
  -- whatever point `edge_point` makes on a side is good
  abbrev pub GoodEdge : ParamEdge → Type 0
  GoodEdge e = (x : ParamPoint) (c : Crossing) → edge_point g k e x ≡ Some c → Good c

  -- so it is on the side of each event
  abbrev pub GoodEvents : List EdgeEvent → Type 0
  GoodEvents = Each (λ (e : EdgeEvent). GoodEdge e.edge)

  point_good : (inside : Bool) (e : Option Crossing) → ((c : Crossing) → e ≡ Some c → Good c) →
      AllPushed Good (point_moves (cond inside (push_of e) (Ok None)))
  point_good true (Some c) h = pushing (h c refl) none
  point_good true None h = stopping none
  point_good false e h = none

  end_good : (inside : Bool) → AllPushed Good (end_moves inside)
  end_good inside = either inside none (flushing none)

  events_good : (l : Leg) (previous : Float) (es : List EdgeEvent) → GoodEvents es →
      AllPushed Good (events_moves g k l previous es)
  unfolding decide events_moves
  events_good l previous [] good = none
  events_good l previous (e ∷ es) good =
      let x = leg_at l e.lambda in
      let before = before_inside k l previous e.lambda in
      let after = after_inside k l e.lambda (next_lambda es) in
      both (both (point_good (before || after) (edge_point g k e.edge x) (good.0 x)) (end_good after))
      (events_good l e.lambda es good.1)

  -- the whole leg
  pub leg_good : (l : Leg) → GoodEvents (sorted_edge_events k l) → AllPushed Good (leg_moves g k l)
  unfolding leg_moves
  leg_good l good = both (events_good l zero64 (sorted_edge_events k l) good) (end_good (param_in_bounds k l.b))
