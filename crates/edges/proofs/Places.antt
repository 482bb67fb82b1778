-- Events as one list: a store to both lists is a store of an event. Room for a value is made by moving up what stands
-- from its place on; and a value put at a place of both lists is an event put there. And the place of an event, by what
-- the last lambda and a search by halves say.
use Rattle.std.proofs.Common.{◌≡◌, ℕ, zero, suc, ◌+◌, ◌-◌, ◌<◌, ◌≤◌, Bool, true, false, Option, Some, None}
use Rattle.std.proofs.Common.{List, [], ◌∷◌, length, take, drop, get_or, slice_get, Bor}
use Rattle.std.proofs.Common.{arith, refl, ap, sym, ◌∙◌}
use native.Mathlib.Numerals.{add-one}
use lib.ListN.{set, length-set, drop_of_length-le}
use lib.Seq.{drop-cons, get_or-take, get_or-set_same, set_split, take-take, take-set-le, take-set-lt, drop-set-lt}
use lib.Seq.{length-take-le}
use lib.Ieee.{Float, nan}
use Rattle.std.specs.List.Sorted.{IsPartitionedBy, IsPartitionPoint}
use Rattle.std.specs.Bool.{IsTrue}
use Rattle.std.specs.Option.{MatchOption, option_copied, option_map_or}
use Rattle.std.proofs.lemmas.Option.{slice_get-get_or}
use borrow.Author.Tests.{not-true, not-false}
use Rattle.basics.specs.Lists.{put_at}
use Rattle.float.specs.Order.{total_order}
use Rattle.edges.specs.declared.event.EdgeEvent.{EdgeEvent}
use Rattle.edges.specs.Events.{precedes, insert}
use Rattle.edges.specs.Side.{code_of}
use Rattle.edges.specs.Order.{Placed, Storable, Sorted, is_behind, event_of, held, events_in, PlaceOf, Ordered}
use Rattle.edges.proofs.Codes.{event_back}
use Rattle.edges.proofs.Order.{sorted_placed, parted, placed}

-- ---- room is made at `place` among the first `count`: from the back, each is moved up by one

-- so far those from i on are moved
pub record Moving {A : Type 0} (xs : List A) (count place : ℕ) (ys : List A) (i : ℕ) : Type 0 where
  pub from : place ≤ i
  pub to : i ≤ count
  pub as_long : length ys ≡ length xs
  pub below : take i ys ≡ take i xs
  pub above : drop (i + 1) (take (count + 1) ys) ≡ drop i (take count xs)

module _ {A : Type 0} {xs : List A} {count place : ℕ} (room : count < length xs) where
  pub moving_starts : place ≤ count → Moving xs count place xs count
  moving_starts h =
      let m : length (take (count + 1) xs) ≤ count + 1 = omega (arith, length-take-le (count + 1) xs (omega arith)) in
      let n : length (take count xs) ≤ count = omega (arith, length-take-le count xs (omega arith)) in
      record {
        from = h;
        to = omega arith;
        as_long = refl;
        below = refl;
        above = drop_of_length-le (take (count + 1) xs) m ∙ sym (drop_of_length-le (take count xs) n);
      }

  pub moving_turn : {ys : List A} {i : ℕ} (d : A) → Moving xs count place ys i → place < i →
      Moving xs count place (set ys i (get_or ys (i - 1) d)) (i - 1)
  moving_turn {ys} {i} d m h =
      let j = i - 1 in
      let x = get_or ys j d in
      let t = take (count + 1) ys in
      let old = take count xs in
      let e : j + 1 ≡ i = omega arith in
      let before : j < i = omega arith in
      let counted : j < count = omega arith in
      let stood : x ≡ get_or old j d =
      rw (← get_or-take i ys j d, m.below, get_or-take i xs j d, get_or-take count xs j d) in
      let fits : i < length t = omega (arith, length-take-le (count + 1) ys (omega arith)) in
      let moved : drop i (take (count + 1) (set ys i x)) ≡ x ∷ drop (i + 1) t =
      rw (
        take-set-lt (count + 1) ys i x (omega arith),
        drop-cons (set t i x) i d (omega (arith, length-set t i x)),
        get_or-set_same t i x d fits,
        drop-set-lt (suc i) t i x (omega arith),
        add-one i,
      ) in
      let next : drop j old ≡ get_or old j d ∷ drop (j + 1) old =
      rw add-one (drop-cons old j d (omega (arith, length-take-le count xs (omega arith)))) in
      record {
        from = omega arith;
        to = omega arith;
        as_long = length-set ys i x ∙ m.as_long;
        below =
            take-set-le j ys i x (omega arith) ∙ sym (take-take j i ys (omega arith)) ∙ ap (take j) m.below
            ∙ take-take j i xs (omega arith);
        above = rw (next, ← stood, e, moved, m.above);
      }

  pub moving_ends : {ys : List A} {i : ℕ} (x : A) → Moving xs count place ys i → i ≤ place →
      take (count + 1) (set ys place x) ≡ put_at place x (take count xs)
  moving_ends {ys} {i} x m h =
      let e : i ≡ place = omega arith in
      let t = take (count + 1) ys in
      let fits : place < length t = omega (arith, length-take-le (count + 1) ys (omega arith)) in
      rw (
        take-set-lt (count + 1) ys place x (omega arith),
        set_split t place x,
        take-take place (count + 1) ys (omega arith),
        ← e,
        m.below,
        take-take i count xs (omega arith),
        ← add-one i,
        m.above,
      )

-- ---- the two lists as one
pub held_length : (ls : List Float) (cs : List ℕ) → length ls ≡ length cs → length (held ls cs) ≡ length ls
unfolding held
held_length [] cs e = refl
held_length (l ∷ ls) [] e = absurd (omega arith)
held_length (l ∷ ls) (c ∷ cs) e = ap suc (held_length ls cs (omega arith))

pub held_set : (ls : List Float) (cs : List ℕ) (i : ℕ) (x : Float) (y : ℕ) → length ls ≡ length cs →
    held (set ls i x) (set cs i y) ≡ set (held ls cs) i (event_of x y)
unfolding held
held_set [] [] i x y e = refl
held_set [] (c ∷ cs) i x y e = absurd (omega arith)
held_set (l ∷ ls) [] i x y e = absurd (omega arith)
held_set (l ∷ ls) (c ∷ cs) zero x y e = refl
held_set (l ∷ ls) (c ∷ cs) (suc i) x y e = rw (held_set ls cs i x y (omega arith))

held_at : (ls : List Float) (cs : List ℕ) (i : ℕ) (d : EdgeEvent) (f : Float) (z : ℕ) → length ls ≡ length cs →
    i < length ls → get_or (held ls cs) i d ≡ event_of (get_or ls i f) (get_or cs i z)
unfolding held
held_at [] cs i d f z e h = absurd (omega arith)
held_at (l ∷ ls) [] i d f z e h = absurd (omega arith)
held_at (l ∷ ls) (c ∷ cs) zero d f z e h = refl
held_at (l ∷ ls) (c ∷ cs) (suc i) d f z e h = held_at ls cs i d f z (omega arith) (omega arith)

held_put : (p : ℕ) (x : Float) (y : ℕ) (ls : List Float) (cs : List ℕ) → length ls ≡ length cs →
    held (put_at p x ls) (put_at p y cs) ≡ put_at p (event_of x y) (held ls cs)
unfolding held
held_put zero x y ls cs e = refl
held_put (suc p) x y [] [] e = refl
held_put (suc p) x y [] (c ∷ cs) e = absurd (omega arith)
held_put (suc p) x y (l ∷ ls) [] e = absurd (omega arith)
held_put (suc p) x y (l ∷ ls) (c ∷ cs) e = rw (held_put p x y ls cs (omega arith))

held_take : (n : ℕ) (ls : List Float) (cs : List ℕ) → take n (held ls cs) ≡ held (take n ls) (take n cs)
unfolding held
held_take zero ls cs = refl
held_take (suc n) [] cs = refl
held_take (suc n) (l ∷ ls) [] = refl
held_take (suc n) (l ∷ ls) (c ∷ cs) = rw (held_take n ls cs)

pub events_put : (ls : List Float) (cs : List ℕ) (n p : ℕ) (x : Float) (y : ℕ) (ms : List Float) (ds : List ℕ) →
    length ls ≡ length cs → n ≤ length ls →
    take (n + 1) ms ≡ put_at p x (take n ls) → take (n + 1) ds ≡ put_at p y (take n cs) →
    events_in ms ds (n + 1) ≡ put_at p (event_of x y) (events_in ls cs n)
events_put ls cs n p x y ms ds e h q r =
    rw (held_take (n + 1) ms ds, q, r, held_take n ls cs)
    (held_put p x y (take n ls) (take n cs) (length-take-le n ls h ∙ sym (length-take-le n cs (omega arith))))

module _ (ls : List Float) (cs : List ℕ) (count : ℕ) (e : length ls ≡ length cs) (h : count ≤ length ls) where
  pub in_length : length (events_in ls cs count) ≡ count
  in_length = length-take-le count (held ls cs) (omega (arith, held_length ls cs e))

  -- the event at i
  pub event_in : (i : ℕ) (d : EdgeEvent) (f : Float) (z : ℕ) → i < count →
      get_or (events_in ls cs count) i d ≡ event_of (get_or ls i f) (get_or cs i z)
  event_in i d f z k = get_or-take count (held ls cs) i d k ∙ held_at ls cs i d f z e (omega arith)

pub events_length : {ls : List Float} {cs : List ℕ} {count : ℕ} → Ordered ls cs count →
    length (events_in ls cs count) ≡ count
events_length {ls} {cs} {count} o =
    in_length ls cs count (omega (arith, o.lambdas_length, o.codes_length)) (omega (arith, o.few, o.lambdas_length))

-- what is read of both lists at i
pub read_event : {ls : List Float} {cs : List ℕ} {count : ℕ} → Ordered ls cs count → (i : ℕ) →
    i < length (events_in ls cs count) →
    slice_get (events_in ls cs count) i ≡ Some (event_of (get_or ls i nan) (get_or cs i 0))
read_event {ls} {cs} {count} o i h =
    let e : length ls ≡ length cs = omega (arith, o.lambdas_length, o.codes_length) in
    let n : count ≤ length ls = omega (arith, o.few, o.lambdas_length) in
    let d = event_of (get_or ls i nan) (get_or cs i 0) in
    let k : i < count = omega (arith, events_length o) in
    slice_get-get_or (events_in ls cs count) i d h ∙ ap Some (event_in ls cs count e n i d nan 0 k)

-- ---- the last of a list, if there is one, and what a test says of it
abbrev pub last_of : {A : Type 0} → List A → Option A
last_of xs = slice_get xs (length xs - 1)

-- r is what `last` answers, and b what `is_none_or` says of it, which P says of an element
pub last_says : {A : Type 0} (xs : List A) (test : A → Bool) (r : Option (Bor A)) {b : Bool} (P : Bor A → Type 0) →
    option_copied r ≡ last_of xs → MatchOption r (IsTrue b) P → ((x : Bor A) → P x → b ≡ test x.now) →
    b ≡ option_map_or test (last_of xs) true
last_says xs test None P e m h = rw (← e) m
last_says xs test (Some x) P e m h = rw (← e) (h x m)

-- ---- the place of a lambda, as the code tests for it: behind those that it does not precede
module _ (l : Float) (ls : List Float) where
  -- where l goes behind the last, it goes to the end
  pub goes_last : option_map_or (is_behind l) (last_of ls) true ≡ true → PlaceOf l ls (length ls) (length ls)
  goes_last t =
      record {
        most = omega arith;
        after = λ i h. not-true _ (last i h);
        before = λ h. absurd (omega arith);
      }
    where
      last : (i : ℕ) → i + 1 ≡ length ls → is_behind l (get_or ls i nan) ≡ true
      last i h =
          let q : length ls - 1 ≡ i = omega arith in
          rw (q, slice_get-get_or ls i nan (omega arith)) at t

  -- else the search by halves finds where
  pub goes_there : (p : ℕ) → p ≤ length ls →
      IsPartitionPoint (λ k. is_behind l k ≡ true) (λ k. is_behind l k ≡ false) ls p → PlaceOf l ls (length ls) p
  goes_there p h f =
      record {
        most = h;
        after = λ i q. not-true _ (f.0 i nan (omega arith) (omega arith));
        before = λ q. not-false _ (f.1 p nan (omega arith) (omega arith));
      }

-- ---- an event put where its lambda's place is
module _ (ls : List Float) (cs : List ℕ) (count : ℕ) (same : length ls ≡ length cs) (room : count ≤ length ls)
    (s : Sorted (events_in ls cs count)) (e : EdgeEvent) where
  abbrev found : List Float
  found = take count ls

  abbrev es : List EdgeEvent
  es = events_in ls cs count

  in_found : length found ≡ count
  in_found = length-take-le count ls room

  asked : (i : ℕ) (d : Float) (x : EdgeEvent) → i < length found → get_or found i d ≡ (get_or es i x).lambda
  asked i d x l =
      let k : i < count = omega (arith, in_found) in
      rw (get_or-take count ls i d k, event_in ls cs count same room i x d (get_or cs i 0) k)

  pub parted_lambdas : Placed e → IsPartitionedBy (is_behind e.lambda) found
  parted_lambdas n i j d l h t =
      let x : EdgeEvent = e in
      let m : length es ≡ length found = omega (arith, in_found, in_length ls cs count same room) in
      ap (is_behind e.lambda) (asked i d x (omega arith))
      ∙ parted e n es s.ascend (sorted_placed s) i j x l (omega arith)
      (sym (ap (is_behind e.lambda) (asked j d x h)) ∙ t)

  pub inserted : (place : ℕ) (ms : List Float) (ds : List ℕ) {c : ℕ} → Storable e → c ≡ code_of e.edge →
      PlaceOf e.lambda found (length found) place →
      take (count + 1) ms ≡ put_at place e.lambda (take count ls) →
      take (count + 1) ds ≡ put_at place c (take count cs) →
      events_in ms ds (count + 1) ≡ insert e es
  inserted place ms ds {c} n q f h k =
      let m : length es ≡ length found = omega (arith, in_found, in_length ls cs count same room) in
      events_put ls cs count place e.lambda c ms ds same room h k
      ∙ ap (λ (x : EdgeEvent). put_at place x es) (event_back e q n.0)
      ∙ placed e n.1 es place e s.ascend (sorted_placed s) (omega (arith, f.most))
      (λ i g. ap ahead_of (sym (asked i nan e (omega (arith, f.most)))) ∙ f.after i g)
      (λ g. ap ahead_of (sym (asked place nan e (omega arith))) ∙ f.before (omega arith))
    where
      ahead_of : Float → Bool
      ahead_of l = precedes (total_order e.lambda l)
