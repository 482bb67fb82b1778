-- One turn of the walk along a leg: the events from i on are the one at i and those after it. What is left of the leg
-- after i events are the moves of the others, and its end.
use mathlib.Core.Path.{◌≡◌, refl, sym, ◌∙◌}
use mathlib.Core.List.{List, ◌∷◌}
use Prim.Native.Nat.{ℕ, ◌+◌, ◌≤◌}
use native.Mathlib.Numerals.{add-one}
use lib.ListN.{length, drop, drop_of_length-le}
use lib.Seq.{drop-cons}
use lib.Ieee.{Float}
use Rattle.std.specs.Prelude.{Some, slice_get}
use Rattle.std.proofs.lemmas.Option.{slice_get_within, get_or_from_slice_get}
use Rattle.basics.proofs.Lists.{each_at}
use Rattle.refusal.specs.Refusals.{Check}
use Rattle.float.specs.Consts.{zero64}
use Rattle.param.specs.declared.Cells.{Cells}
use Rattle.param.specs.declared.Leg.{Leg}
use Rattle.param.specs.Param.{param_in_bounds}
use Rattle.edges.specs.declared.event.EdgeEvent.{EdgeEvent}
use Rattle.edges.specs.Events.{sorted_edge_events, next_lambda, Inside, OnGrid}
use Rattle.edges.proofs.Laws.{leg_inside}
use Rattle.page.specs.declared.Sheet.{Sheet}
use Rattle.page.specs.Moves.{Outcome, follow}
use Rattle.page.specs.Page.{moves_by, Page, flush_unless, on_page}
use Rattle.page.specs.Sheets.{outcome_of}
use Rattle.page.proofs.Moves.{follow_twice}
use Rattle.page.proofs.Follow.{page_none, by_append}
use Rattle.walk.specs.declared.Decision.{Decision}
use Rattle.walk.specs.Walk.{decide, moves_of, end_moves, events_moves, leg_moves}
use Rattle.walk.proofs.Drawn.{then_end}

-- the event at i, and those after it
event_first : (es : List EdgeEvent) (i : ℕ) {e : EdgeEvent} → slice_get es i ≡ Some e →
    drop i es ≡ e ∷ drop (i + 1) es
event_first es i {e} h =
    rw (add-one, drop-cons es i e (slice_get_within es i e h), get_or_from_slice_get es i e e h)

-- its side is on the grid
pub side_inside : (k : Cells) (l : Leg) {es : List EdgeEvent} (i : ℕ) {e : EdgeEvent} → k.m ≤ 255 → k.n ≤ 255 →
    es ≡ sorted_edge_events k l → slice_get es i ≡ Some e → Inside k e.edge
side_inside k l {es} i {e} m n q h =
    rw (get_or_from_slice_get es i e e h) at
    (each_at (OnGrid k) es i e (leg_inside k l m n q) (slice_get_within es i e h))

module _ (tolerance : Float) (sample : ℕ) (g : List Float) (k : Cells) (l : Leg) where
  -- the events es, after one at `previous`, and the end of the line if b is outside
  abbrev pub left : List EdgeEvent → Float → Page → Outcome Page
  left es previous w =
      follow (on_page tolerance (moves_by sample (events_moves g k l previous es)) w)
      (flush_unless (param_in_bounds k l.b))

  pub leg_starts : (w : Page) →
      on_page tolerance (moves_by sample (leg_moves g k l)) w ≡ left (sorted_edge_events k l) zero64 w
  unfolding leg_moves
  leg_starts w =
      let es = events_moves g k l zero64 (sorted_edge_events k l) in
      let end = end_moves (param_in_bounds k l.b) in
      by_append tolerance sample es end w
      ∙ then_end tolerance sample (param_in_bounds k l.b) (on_page tolerance (moves_by sample es) w)

  pub leg_ends : (es : List EdgeEvent) (i : ℕ) (previous : Float) (w : Page) → length es ≤ i →
      left (drop i es) previous w ≡ flush_unless (param_in_bounds k l.b) w
  unfolding events_moves
  leg_ends es i previous w h = rw (drop_of_length-le es h, page_none tolerance w)

  -- the event at i, with what its calls say of it, and what is left then
  pub leg_turn : (es : List EdgeEvent) (i : ℕ) {e : EdgeEvent} (previous : Float) {next : Float} {d : Decision}
      (w : Page) (r : Check) (s : Sheet) → slice_get es i ≡ Some e → next ≡ next_lambda (drop (i + 1) es) →
      d ≡ decide g k l previous e next → outcome_of r s ≡ on_page tolerance (moves_by sample (moves_of d)) w →
      left (drop i es) previous w ≡ follow (outcome_of r s) (left (drop (i + 1) es) e.lambda)
  unfolding events_moves
  leg_turn es i {e} previous {next} {d} w r s h en ed er =
      let others = drop (i + 1) es in
      let here = moves_by sample (moves_of (decide g k l previous e (next_lambda others))) in
      rw (event_first es i h, by_append tolerance sample, er, ed, en)
      (sym (follow_twice (on_page tolerance here w)
      (on_page tolerance (moves_by sample (events_moves g k l e.lambda others)))
      (flush_unless (param_in_bounds k l.b)) (λ s. refl)))
