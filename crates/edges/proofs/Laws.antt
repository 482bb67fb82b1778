-- What holds of the events of every leg: each is on a side of the grid, lambdas are from 0 to 1 and ascend in the
-- total order, neighbours are at least EPS apart, and there are at most 1,023.
use Rattle.std.specs.Prelude.{Option, Some, None, slice_get}
use mathlib.Core.Path.{◌≡◌, refl, ap}
use mathlib.Core.Bool.{true, false}
use mathlib.Core.List.{List, [], ◌∷◌}
use Prim.Native.Nat.{ℕ, ◌+◌, ◌^◌, ◌≤◌}
use native.Mathlib.Nat.{le_trans}
use native.Mathlib.Omega.{arith}
use native.Mathlib.Numerals.{add-one}
use Rattle.std.proofs.lemmas.Option.{slice_get_within, get_or_from_slice_get}
use lib.Dec.{lit≤}
use lib.ListN.{length, drop, drop_of_length-le}
use lib.Seq.{drop-cons}
use lib.Ieee.{Float, binary64, of_bits, lt, le, eq, neg, add, is_nan}
use Rattle.float.specs.Consts.{eps, zero64, one64}
use Rattle.float.specs.Order.{total_order}
use Rattle.float.specs.Cast.{nat_float}
use Rattle.basics.specs.Lists.{Each}
use Rattle.basics.proofs.Lists.{each_at, each_implies}
use Rattle.basics.proofs.Tests.{and_both, cond_keeps, cond_case}
use Rattle.float.proofs.Less.{le_not_nan}
use Rattle.float.proofs.Bounds.{clamp_above, clamp_below}
use Rattle.float.proofs.Orders.{order_self}
use Rattle.param.specs.declared.Leg.{Leg}
use Rattle.param.specs.declared.Cells.{Cells}
use Rattle.param.specs.declared.Axis.{Axis}
use Rattle.param.specs.Param.{along, across, leg_at, steps_off, within, param_in_bounds}
use Rattle.edges.specs.declared.event.ParamEdge.{ParamEdge}
use Rattle.edges.specs.declared.event.EdgeEvent.{EdgeEvent}
use Rattle.edges.specs.Near.{normalize_lambda}
use Rattle.edges.specs.Cell.{diagonal_cell_at}
use Rattle.edges.specs.Events.{event, edge_at_point, end_candidate, lambda_at, line_at, line_crossing, change}
use Rattle.edges.specs.Events.{diagonal_event, diagonal_crossing, sum_of, change_of_sum, candidates, precedes}
use Rattle.edges.specs.Events.{sort_into, close_by, unique_after, unique, sorted_edge_events, IfEvent, OnGrid}
use Rattle.edges.specs.Order.{AscendFrom, Ascend, Placed, Storable, Sorted}
use Rattle.edges.proofs.Order.{not_precedes_transitive, sort_ascends, sorted_placed}
use Rattle.edges.proofs.Grid.{on_line_lem, end_on_grid, line_on_grid, diagonal_on_grid}
use Rattle.edges.proofs.Each.{each_event, each_candidate, each_sort, each_unique, length_sort, length_unique}
use Rattle.edges.proofs.Each.{length_candidates}

-- ---- each side is on the grid
pub events_inside : (k : Cells) (leg : Leg) → k.m ≤ 2 ^ 53 → k.n ≤ 2 ^ 53 → Each (OnGrid k) (sorted_edge_events k leg)
events_inside k leg hm hn =
    each_event (OnGrid k) k leg (end_on_grid k zero64 leg.a hm hn) (end_on_grid k one64 leg.b hm hn)
    (λ x j h. line_on_grid k leg x j (lambda_at (nat_float j) (along x leg.a) (change x leg)) (omega arith))
    (λ j. diagonal_on_grid k leg (lambda_at (nat_float j) (sum_of leg.a) (change_of_sum leg)))

-- those that the code found
pub leg_inside : (k : Cells) (leg : Leg) {es : List EdgeEvent} → k.m ≤ 255 → k.n ≤ 255 → es ≡ sorted_edge_events k leg →
    Each (OnGrid k) es
leg_inside k leg hm hn e = rw e (events_inside k leg (le_trans hm (lit≤ tt)) (le_trans hn (lit≤ tt)))

-- and the one that it reads at i
pub event_inside : (k : Cells) (es : List EdgeEvent) (i : ℕ) {e : EdgeEvent} → Each (OnGrid k) es →
    slice_get es i ≡ Some e → OnGrid k e
event_inside k es i {e} h g =
    rw (← get_or_from_slice_get es i e e g) (each_at (OnGrid k) es i e h (slice_get_within es i e g))

-- ---- read one by one
pub next_event : (es : List EdgeEvent) (i : ℕ) {e : EdgeEvent} → slice_get es i ≡ Some e →
    drop i es ≡ e ∷ drop (i + 1) es
next_event es i {e} g = rw (add-one, drop-cons es i e (slice_get_within es i e g), get_or_from_slice_get es i e e g)

-- past the last there is none
pub none_left : (es : List EdgeEvent) (i : ℕ) → length es ≤ i → drop i es ≡ []
none_left es i h = drop_of_length-le es h

-- ---- lambdas are from 0 to 1
abbrev pub ZeroToOne : Float → Type 0
ZeroToOne l = (le zero64 l ≡ true) × (le l one64 ≡ true)

abbrev pub OnLeg : EdgeEvent → Type 0
OnLeg e = ZeroToOne e.lambda

abbrev LambdaOnLeg : Option Float → Type 0
LambdaOnLeg (Some l) = ZeroToOne l
LambdaOnLeg None = Unit

pub zero_on_leg : ZeroToOne zero64
unfolding le lt eq of_bits
zero_on_leg = (refl, refl)

pub one_on_leg : ZeroToOne one64
unfolding le lt eq of_bits
one_on_leg = (refl, refl)

within_not_nan : (x top : Float) → within x top ≡ true → is_nan x ≡ false
unfolding within
within_not_nan x top h = (le_not_nan (neg eps) x (and_both (le (neg eps) x) (le x (add binary64 top eps)) h).0).1

pub normalized : (l : Float) → LambdaOnLeg (normalize_lambda l)
unfolding normalize_lambda
normalized l =
    cond_case LambdaOnLeg (within l one64) _ None
    (λ p. let n = within_not_nan l one64 p in
    (clamp_above l zero64 one64 n zero_on_leg.1, clamp_below l zero64 one64 n zero_on_leg.1))
    (λ p. tt)

pub end_on_leg : (l : Float) (e : Option ParamEdge) → ZeroToOne l → IfEvent OnLeg (end_candidate l e)
end_on_leg l (Some e) h = h
end_on_leg l None h = tt

module _ (k : Cells) (leg : Leg) where
  pub line_on_leg : (x : Axis) (step : ℕ) (r : Option Float) → LambdaOnLeg r →
      IfEvent OnLeg (line_crossing x k leg step r)
  unfolding line_crossing
  line_on_leg x step None h = tt
  line_on_leg x step (Some l) h =
      on_line_lem OnLeg (across x (leg_at leg l)) (steps_off x k) (event l (line_at x step)) h

  pub diagonal_on_leg : (r : Option Float) → LambdaOnLeg r → IfEvent OnLeg (diagonal_crossing k leg r)
  unfolding diagonal_crossing
  diagonal_on_leg None h = tt
  diagonal_on_leg (Some l) h =
      cond_keeps (IfEvent OnLeg) (param_in_bounds k (leg_at leg l)) _ None (at (diagonal_cell_at k (leg_at leg l))) tt
    where
      at : (c : Option (ℕ × ℕ)) → IfEvent OnLeg (diagonal_event l c)
      at (Some (u, v)) = h
      at None = tt

  candidates_on_leg : Each OnLeg (candidates k leg)
  candidates_on_leg =
      each_candidate OnLeg k leg (end_on_leg zero64 (edge_at_point k leg.a) zero_on_leg)
      (end_on_leg one64 (edge_at_point k leg.b) one_on_leg)
      (λ x j h. line_on_leg x j (lambda_at (nat_float j) (along x leg.a) (change x leg)) (normalized _))
      (λ j. diagonal_on_leg (lambda_at (nat_float j) (sum_of leg.a) (change_of_sum leg)) (normalized _))

  sorted_on_leg : Each OnLeg (sort_into (candidates k leg) [])
  sorted_on_leg = each_sort OnLeg (candidates k leg) [] candidates_on_leg tt

  pub events_on_leg : Each OnLeg (sorted_edge_events k leg)
  unfolding sorted_edge_events
  events_on_leg = each_unique OnLeg (sort_into (candidates k leg) []) sorted_on_leg

-- ---- they ascend and are apart
-- events of which none is closer than EPS to the one before it, the first not to x
abbrev pub ApartFrom : Float → List EdgeEvent → Type 0
ApartFrom x [] = Unit
ApartFrom x (e ∷ es) = (close_by x e.lambda ≡ false) × ApartFrom e.lambda es

abbrev pub Apart : List EdgeEvent → Type 0
Apart [] = Unit
Apart (e ∷ es) = ApartFrom e.lambda es

abbrev KeptFrom : Float → List EdgeEvent → Type 0
KeptFrom x es = AscendFrom x es × ApartFrom x es

-- what is kept ascends, and is apart: an event that was dropped, as x was, stands between the one kept before it and
-- the next
kept_after : (kept x : Float) (es : List EdgeEvent) → is_nan kept ≡ false → is_nan x ≡ false → Each Placed es →
    precedes (total_order x kept) ≡ false → AscendFrom x es → KeptFrom kept (unique_after kept es)
unfolding unique_after
kept_after kept x [] l m n h k = (tt, tt)
kept_after kept x (e ∷ es) l m n h k =
    let later : precedes (total_order e.lambda kept) ≡ false =
    not_precedes_transitive kept x e.lambda l m n.0 h k.0 in
    cond_case (KeptFrom kept) (close_by kept e.lambda) _ _
    (λ close. kept_after kept e.lambda es l n.0 n.1 later k.1)
    (λ apart. let next = kept_after e.lambda e.lambda es n.0 n.0 n.1
    (ap precedes (order_self e.lambda)) k.1 in ((later, next.0), (apart, next.1)))

kept_ascend : (es : List EdgeEvent) → Each Placed es → Ascend es → Ascend (unique es) × Apart (unique es)
unfolding unique
kept_ascend [] n h = (tt, tt)
kept_ascend (e ∷ es) n h =
    kept_after e.lambda e.lambda es n.0 n.0 n.1 (ap precedes (order_self e.lambda)) h

-- so that events in order stay so
pub unique_sorted : (es : List EdgeEvent) → Sorted es → Sorted (unique es)
unique_sorted es s =
    record {
      ascend = (kept_ascend es (sorted_placed s) s.ascend).0;
      storable = each_unique Storable es s.storable;
    }

module _ (k : Cells) (leg : Leg) where
  kept_in_order : Ascend (sorted_edge_events k leg) × Apart (sorted_edge_events k leg)
  unfolding sorted_edge_events
  kept_in_order =
      let es = sort_into (candidates k leg) [] in
      kept_ascend es (each_implies OnLeg Placed (λ e h. (le_not_nan zero64 e.lambda h.0).1) es
      (sorted_on_leg k leg)) (sort_ascends (candidates k leg) [] tt)

  pub events_ascend : Ascend (sorted_edge_events k leg)
  events_ascend = kept_in_order.0

  pub events_apart : Apart (sorted_edge_events k leg)
  events_apart = kept_in_order.1

  -- ---- there are at most 1,023
  pub events_few : k.m ≤ 255 → k.n ≤ 255 → length (sorted_edge_events k leg) ≤ 1023
  unfolding sorted_edge_events
  events_few hm hn =
      omega (
        arith,
        length_candidates k leg,
        length_sort (candidates k leg) [],
        length_unique (sort_into (candidates k leg) []),
      )
