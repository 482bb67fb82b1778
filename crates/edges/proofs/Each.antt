-- What holds of every candidate holds of every event, and there are no more events than candidates: sorting keeps to
-- the candidates, and dropping to what was sorted.
use Rattle.std.specs.Prelude.{Option, Some, None}
use mathlib.Core.Path.{◌≡◌, refl}
use mathlib.Core.Bool.{Bool, cond}
use mathlib.Core.List.{List, [], ◌∷◌, ◌++◌}
use Prim.Native.Nat.{ℕ, zero, suc, ◌+◌, ◌-◌, ◌≤◌, ◌<◌}
use native.Mathlib.Omega.{arith}
use lib.ListN.{length, length-append}
use lib.Ieee.{Float}
use Rattle.float.specs.Consts.{zero64, one64}
use Rattle.float.specs.Order.{total_order}
use Rattle.basics.specs.Lists.{Each}
use Rattle.basics.proofs.Tests.{cond_keeps}
use Rattle.basics.proofs.Lists.{each_append}
use Rattle.param.specs.declared.Leg.{Leg}
use Rattle.param.specs.declared.Cells.{Cells}
use Rattle.param.specs.declared.Axis.{Axis}
use Rattle.param.specs.declared.Axis.TheVariants.{AxisU, AxisV}
use Rattle.param.specs.Param.{steps_on}
use Rattle.edges.specs.declared.event.EdgeEvent.{EdgeEvent}
use Rattle.edges.specs.Events.{edge_at_point, end_candidate, change, line_candidate, change_of_sum, diagonal_candidate}
use Rattle.edges.specs.Events.{changes, listed, list_from, first_sum, past_sum, ends, lines, diagonals, candidates}
use Rattle.edges.specs.Events.{precedes, insert, pushed, sort_into, close_by, unique_after, unique, sorted_edge_events}
use Rattle.edges.specs.Events.{IfEvent}

module _ (P : EdgeEvent → Type 0) where
  each_listed : (c : Option EdgeEvent) (es : List EdgeEvent) → IfEvent P c → Each P es → Each P (listed c es)
  each_listed (Some e) es h k = (h, k)
  each_listed None es h k = k

  each_from : (f : ℕ → Option EdgeEvent) (k i : ℕ) → ((j : ℕ) → j < i + k → IfEvent P (f j)) → Each P (list_from f k i)
  unfolding list_from
  each_from f zero i h = tt
  each_from f (suc k) i h =
      each_listed (f i) (list_from f k (i + 1)) (h i (omega arith)) (each_from f k (i + 1) (λ j l. h j (omega arith)))

  -- candidates in a row, which are tried if an axis changes
  each_tried : (changed : Bool) (f : ℕ → Option EdgeEvent) (k i : ℕ) → ((j : ℕ) → j < i + k → IfEvent P (f j)) →
      Each P (cond changed (list_from f k i) [])
  each_tried changed f k i h = cond_keeps (Each P) changed _ [] (each_from f k i h) tt

  pub each_insert : (e : EdgeEvent) (es : List EdgeEvent) → P e → Each P es → Each P (insert e es)
  unfolding insert
  each_insert e [] h k = (h, tt)
  each_insert e (x ∷ xs) h k =
      cond_keeps (Each P) (precedes (total_order e.lambda x.lambda)) _ _ (h, k) (k.0, each_insert e xs h k.1)

  pub each_sort : (es acc : List EdgeEvent) → Each P es → Each P acc → Each P (sort_into es acc)
  unfolding sort_into
  each_sort [] acc h k = k
  each_sort (e ∷ es) acc h k = each_sort es (insert e acc) h.1 (each_insert e acc h.0 k)

  each_after : (kept : Float) (es : List EdgeEvent) → Each P es → Each P (unique_after kept es)
  unfolding unique_after
  each_after kept [] h = tt
  each_after kept (e ∷ es) h =
      cond_keeps (Each P) (close_by kept e.lambda) _ _ (each_after kept es h.1)
      (h.0, each_after e.lambda es h.1)

  pub each_unique : (es : List EdgeEvent) → Each P es → Each P (unique es)
  unfolding unique
  each_unique [] h = tt
  each_unique (e ∷ es) h = (h.0, each_after e.lambda es h.1)

  each_lines : (x : Axis) (k : Cells) (leg : Leg) →
      ((j : ℕ) → j < steps_on x k + 1 → IfEvent P (line_candidate x k leg j)) → Each P (lines x k leg)
  unfolding lines
  each_lines x k leg h =
      each_tried (changes (change x leg)) (line_candidate x k leg) (steps_on x k + 1) 0 (λ j l. h j (omega arith))

  -- the candidates of a leg
  module _ (k : Cells) (leg : Leg) (start : IfEvent P (end_candidate zero64 (edge_at_point k leg.a)))
      (end : IfEvent P (end_candidate one64 (edge_at_point k leg.b)))
      (line : (x : Axis) (j : ℕ) → j < steps_on x k + 1 → IfEvent P (line_candidate x k leg j))
      (d : (j : ℕ) → IfEvent P (diagonal_candidate k leg j)) where
    each_ends : Each P (ends k leg)
    unfolding ends
    each_ends =
        each_listed (end_candidate zero64 (edge_at_point k leg.a)) _ start
        (each_listed (end_candidate one64 (edge_at_point k leg.b)) [] end tt)

    each_diagonals : Each P (diagonals k leg)
    unfolding diagonals
    each_diagonals =
        let first = first_sum leg in
        each_tried (changes (change_of_sum leg)) (diagonal_candidate k leg) (past_sum k leg - first) first
        (λ j h. d j)

    pub each_candidate : Each P (candidates k leg)
    unfolding candidates
    each_candidate =
        let us = lines AxisU k leg in
        let vs = lines AxisV k leg in
        let ds = diagonals k leg in
        each_append P (ends k leg) (us ++ (vs ++ ds)) each_ends
        (each_append P us (vs ++ ds) (each_lines AxisU k leg (line AxisU))
        (each_append P vs ds (each_lines AxisV k leg (line AxisV)) each_diagonals))

    pub each_event : Each P (sorted_edge_events k leg)
    unfolding sorted_edge_events
    each_event = each_unique (sort_into (candidates k leg) []) (each_sort (candidates k leg) [] each_candidate tt)

-- ---- how many
length_listed : (c : Option EdgeEvent) (es : List EdgeEvent) → length (listed c es) ≤ length es + 1
length_listed (Some e) es = omega arith
length_listed None es = omega arith

length_from : (f : ℕ → Option EdgeEvent) (k i : ℕ) → length (list_from f k i) ≤ k
unfolding list_from
length_from f zero i = omega arith
length_from f (suc k) i = omega (arith, length_listed (f i) (list_from f k (i + 1)), length_from f k (i + 1))

length_insert : (e : EdgeEvent) (es : List EdgeEvent) → length (insert e es) ≡ length es + 1
unfolding insert
length_insert e [] = refl
length_insert e (x ∷ xs) =
    cond_keeps (λ (r : List EdgeEvent). length r ≡ suc (length xs) + 1)
    (precedes (total_order e.lambda x.lambda)) (e ∷ (x ∷ xs)) (x ∷ insert e xs)
    (omega arith) (omega (arith, length_insert e xs))

pub length_pushed : (c : Option EdgeEvent) (es : List EdgeEvent) → length (pushed c es) ≤ length es + 1
length_pushed (Some e) es = omega (arith, length_insert e es)
length_pushed None es = omega arith

pub length_sort : (es acc : List EdgeEvent) → length (sort_into es acc) ≡ length es + length acc
unfolding sort_into
length_sort [] acc = omega arith
length_sort (e ∷ es) acc = omega (arith, length_sort es (insert e acc), length_insert e acc)

length_after : (kept : Float) (es : List EdgeEvent) → length (unique_after kept es) ≤ length es
unfolding unique_after
length_after kept [] = omega arith
length_after kept (e ∷ es) =
    cond_keeps (λ (r : List EdgeEvent). length r ≤ suc (length es)) (close_by kept e.lambda) (unique_after kept es)
    (e ∷ unique_after e.lambda es)
    (omega (arith, length_after kept es)) (omega (arith, length_after e.lambda es))

pub length_unique : (es : List EdgeEvent) → length (unique es) ≤ length es
unfolding unique
length_unique [] = omega arith
length_unique (e ∷ es) = omega (arith, length_after e.lambda es)

length_tried : (changed : Bool) (f : ℕ → Option EdgeEvent) (k i : ℕ) → length (cond changed (list_from f k i) []) ≤ k
length_tried changed f k i =
    cond_keeps (λ (r : List EdgeEvent). length r ≤ k) changed _ [] (length_from f k i) (omega arith)

pub length_ends : (k : Cells) (leg : Leg) → length (ends k leg) ≤ 2
unfolding ends
length_ends k leg =
    let start = end_candidate zero64 (edge_at_point k leg.a) in
    let end = end_candidate one64 (edge_at_point k leg.b) in
    omega (arith, length_listed start (listed end []), length_listed end [])

pub length_lines : (x : Axis) (k : Cells) (leg : Leg) → length (lines x k leg) ≤ steps_on x k + 1
unfolding lines
length_lines x k leg = length_tried (changes (change x leg)) (line_candidate x k leg) (steps_on x k + 1) 0

length_diagonals : (k : Cells) (leg : Leg) → length (diagonals k leg) ≤ k.m + k.n - 1
unfolding diagonals
length_diagonals k leg =
    let first = first_sum leg in
    let past = past_sum k leg in
    omega (arith, length_tried (changes (change_of_sum leg)) (diagonal_candidate k leg) (past - first) first)

pub length_candidates : (k : Cells) (leg : Leg) →
    length (candidates k leg) ≤ 2 + (k.m + 1) + (k.n + 1) + (k.m + k.n - 1)
unfolding candidates
length_candidates k leg =
    simp length-append (omega (
      arith,
      length_ends k leg,
      length_lines AxisU k leg,
      length_lines AxisV k leg,
      length_diagonals k leg,
    ))
