-- What a trace pushes are points of its legs, so they are good where those of each leg's events are.
use Rattle.std.specs.Prelude.{Option}
use mathlib.Core.List.{List, [], ◌∷◌}
use Prim.Native.Nat.{ℕ, ◌+◌}
use lib.Ieee.{Float}
use Rattle.param.specs.declared.ParamPoint.{ParamPoint}
use Rattle.param.specs.declared.Cells.{Cells}
use Rattle.param.specs.declared.Leg.{Leg}
use Rattle.edges.specs.Events.{sorted_edge_events}
use Rattle.crossing.specs.declared.Crossing.{Crossing}
use Rattle.page.specs.declared.TracedPoint.{TracedPoint}
use Rattle.page.specs.Page.{traced_by}
use Rattle.page.proofs.Moves.{AllPushed, none, flushing, both, mapped}
use Rattle.walk.proofs.Pushed.{GoodEvents, leg_good}
use Rattle.trace.specs.declared.curve.Visit.{Visit}
use Rattle.trace.specs.declared.curve.Visit.TheVariants.{Break, Along, First}
use Rattle.trace.specs.Curve.{Sample, marked_point, visit_of, visit_moves, trace_moves}

module _ (g : List Float) (k : Cells) (Good : Crossing → Type 0)
    (events : (l : Leg) → GoodEvents g k Good (sorted_edge_events k l))
  where
    visit_good : (v : Visit) → AllPushed Good (visit_moves g k v)
    visit_good Break = flushing none
    visit_good (Along l) = leg_good g k Good l (events l)
    visit_good First = none

    -- a point is good if its crossing is
    abbrev GoodPoint : TracedPoint → Type 0
    GoodPoint c = Good c.crossing

    -- the whole trace
    pub trace_good : (i : ℕ) (xs : List Sample) (p : Option ParamPoint) → AllPushed GoodPoint (trace_moves g k i xs p)
    unfolding trace_moves
    trace_good i [] p = flushing none
    trace_good i (x ∷ xs) p =
        both (mapped (traced_by i) GoodPoint (visit_good (visit_of p (marked_point x))))
        (trace_good (i + 1) xs (marked_point x))
