-- Dropping close events in place: those kept so far come first in the lists, and with the events that are left they
-- make the answer.
use Rattle.std.specs.Prelude.{Option, Some, None}
use Rattle.std.specs.Option.{MatchOption, option_map_or}
use mathlib.Core.Path.{◌≡◌, refl}
use mathlib.Core.Bool.{Bool, true, false, cond}
use mathlib.Core.List.{List, [], ◌∷◌, ◌++◌, append_assoc, append-nil}
use Prim.Native.Nat.{ℕ, ◌+◌, ◌<◌, ◌≤◌}
use native.Mathlib.Omega.{arith}
use native.Mathlib.Numerals.{add-one}
use lib.ListN.{length, take, drop, get_or, set, length-set, drop_of_length-le}
use lib.Seq.{drop-cons, take-suc-set, take-set-lt, drop-set-lt}
use lib.Ieee.{Float}
use Rattle.edges.specs.declared.event.EdgeEvent.{EdgeEvent}
use Rattle.edges.specs.Events.{close_by, unique_after, unique}
use Rattle.edges.specs.Order.{event_of, held, events_in}
use Rattle.edges.proofs.Places.{held_length, held_set, in_length, event_in}

-- what the last lambda of those kept, if there is one, makes of the events that are left
abbrev pub left_by : Option Float → List EdgeEvent → List EdgeEvent
left_by None es = unique es
left_by (Some l) es = unique_after l es

-- it drops an event at x
abbrev pub drops : Float → Option Float → Bool
drops x last = option_map_or (λ l. close_by l x) last false

-- b is what `is_some_and` says of it, which P says of a lambda
pub drops_says : (last : Option Float) (x : Float) {b : Bool} (P : Float → Type 0) →
    MatchOption last (b ≡ false) P → ((l : Float) → P l → b ≡ close_by l x) → b ≡ drops x last
drops_says None x P m h = m
drops_says (Some l) x P m h = h l m

next_left : (last : Option Float) (x : EdgeEvent) (xs : List EdgeEvent) →
    left_by last (x ∷ xs) ≡ cond (drops x.lambda last) (left_by last xs) (x ∷ left_by (Some x.lambda) xs)
unfolding unique unique_after
next_left None x xs = refl
next_left (Some l) x xs = refl

none_left : (last : Option Float) → left_by last [] ≡ []
unfolding unique unique_after
none_left None = refl
none_left (Some l) = refl

-- of the first `found` events, those before i are looked at, and `kept` of them kept, the last at `last`; with what it
-- makes of the others they are the answer for es
pub record Keeping (es : List EdgeEvent) (ls : List Float) (cs : List ℕ) (found kept i : ℕ)
    (last : Option Float) : Type 0 where
  pub behind : kept ≤ i
  pub to : i ≤ found
  pub as_long : length ls ≡ length cs
  pub room : found ≤ length ls
  pub answer : unique es ≡ events_in ls cs kept ++ left_by last (drop i (events_in ls cs found))

pub keeping_starts : (ls : List Float) (cs : List ℕ) (found : ℕ) → length ls ≡ length cs → found ≤ length ls →
    Keeping (events_in ls cs found) ls cs found 0 0 None
keeping_starts ls cs found e h =
    record {
      behind = omega arith;
      to = omega arith;
      as_long = e;
      room = h;
      answer = refl;
    }

module _ {es : List EdgeEvent} {ls : List Float} {cs : List ℕ} {found kept i : ℕ} {last : Option Float}
    (m : Keeping es ls cs found kept i last) where
  module _ (f : Float) (z : ℕ) where
    abbrev here : EdgeEvent
    here = event_of (get_or ls i f) (get_or cs i z)

    next : i < found → drop i (events_in ls cs found) ≡ here ∷ drop (i + 1) (events_in ls cs found)
    next h =
        let n : i < length (events_in ls cs found) = omega (arith, in_length ls cs found m.as_long m.room) in
        rw (add-one, drop-cons (events_in ls cs found) i here n, event_in ls cs found m.as_long m.room i here f z h)

    pub keeping_dropped : i < found → drops (get_or ls i f) last ≡ true → Keeping es ls cs found kept (i + 1) last
    keeping_dropped h t =
        record {
          behind = omega (arith, m.behind);
          to = omega arith;
          as_long = m.as_long;
          room = m.room;
          answer = rw (m.answer, next h, next_left last here, t);
        }

    pub keeping_kept : i < found → drops (get_or ls i f) last ≡ false →
        Keeping es (set ls kept (get_or ls i f)) (set cs kept (get_or cs i z)) found (kept + 1) (i + 1)
        (Some (get_or ls i f))
    keeping_kept h t =
        let r = held ls cs in
        let k : kept < length r = omega (arith, m.behind, held_length ls cs m.as_long, m.room) in
        let rest : drop (i + 1) (take found (set r kept here)) ≡ drop (i + 1) (take found r) =
        rw (
          take-set-lt found r kept here (omega (arith, m.behind)),
          drop-set-lt (i + 1) (take found r) kept here (omega (arith, m.behind)),
        ) in
        record {
          behind = omega (arith, m.behind);
          to = omega arith;
          as_long = omega (arith, m.as_long, length-set ls kept (get_or ls i f), length-set cs kept (get_or cs i z));
          room = omega (arith, m.room, length-set ls kept (get_or ls i f));
          answer =
              rw (
                m.answer,
                next h,
                next_left last here,
                t,
                held_set ls cs kept (get_or ls i f) (get_or cs i z) m.as_long,
                rest,
                add-one kept,
                take-suc-set r kept here k,
                append_assoc,
              );
        }

  pub keeping_ends : found ≤ i → events_in ls cs kept ≡ unique es
  keeping_ends h =
      let past : length (events_in ls cs found) ≤ i = omega (arith, in_length ls cs found m.as_long m.room) in
      rw (m.answer, drop_of_length-le (events_in ls cs found) past, none_left last, append-nil)
