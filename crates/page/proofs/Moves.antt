-- Moves are run one list after another. What a run keeps: an invariant of one state, and a relation of two, each by
-- one induction over the moves.
use mathlib.Core.Path.{◌≡◌, refl, sym}
use mathlib.Core.Bool.{Bool, true, false, true≢false, cond}
use mathlib.Core.List.{List, [], ◌∷◌, ◌++◌, map}
use Rattle.refusal.specs.declared.Refusal.{Refusal}
use Rattle.page.specs.Moves.{Move, push, flush, stop, map_move, Outcome, on, off, follow, move, run}

-- what follows an outcome, in two parts
pub follow_twice : {S : Type 0} (x : Outcome S) (h k : S → Outcome S) {l : S → Outcome S} →
    ((s : S) → l s ≡ follow (h s) k) → follow x l ≡ follow (follow x h) k
follow_twice (on s) h k e = e s
follow_twice (off r s) h k e = refl

follow_on : {S : Type 0} (x : Outcome S) → follow x on ≡ x
follow_on (on s) = refl
follow_on (off r s) = refl

module _ {A S : Type 0} (p : A → S → Outcome S) (f : S → Outcome S) where
  -- one list after another
  pub run_append : (ms ns : List (Move A)) (s : S) → run p f (ms ++ ns) s ≡ follow (run p f ms s) (run p f ns)
  unfolding run
  run_append [] ns s = refl
  run_append (x ∷ ms) ns s = follow_twice (move p f x s) (run p f ms) (run p f ns) (run_append ms ns)

  pub run_none : (s : S) → run p f [] s ≡ on s
  unfolding run
  run_none s = refl

  pub run_one : (x : Move A) (s : S) → run p f (x ∷ []) s ≡ move p f x s
  unfolding run
  run_one x s = follow_on (move p f x s)

-- ---- what is pushed

-- P of all that is pushed
pub data AllPushed {A : Type 0} (P : A → Type 0) : List (Move A) → Type 0 where
  none : AllPushed P []
  pushing : {c : A} {ms : List (Move A)} → P c → AllPushed P ms → AllPushed P (push c ∷ ms)
  flushing : {ms : List (Move A)} → AllPushed P ms → AllPushed P (flush ∷ ms)
  stopping : {k : Refusal} {ms : List (Move A)} → AllPushed P ms → AllPushed P (stop k ∷ ms)

pub both : {A : Type 0} {P : A → Type 0} {ms ns : List (Move A)} → AllPushed P ms → AllPushed P ns →
    AllPushed P (ms ++ ns)
both none k = k
both (pushing c h) k = pushing c (both h k)
both (flushing h) k = flushing (both h k)
both (stopping h) k = stopping (both h k)

pub either : {A : Type 0} {P : A → Type 0} (b : Bool) {ms ns : List (Move A)} → AllPushed P ms → AllPushed P ns →
    AllPushed P (cond b ms ns)
either true h k = h
either false h k = k

-- of what mapped moves push, where P holds of f of all that the moves push
pub mapped : {A B : Type 0} (f : A → B) (P : B → Type 0) {ms : List (Move A)} → AllPushed (λ (a : A). P (f a)) ms →
    AllPushed P (map (map_move f) ms)
mapped f P none = none
mapped f P (pushing c h) = pushing c (mapped f P h)
mapped f P (flushing h) = flushing (mapped f P h)
mapped f P (stopping h) = stopping (mapped f P h)

-- what holds of everything
pub all_pushed : {A : Type 0} (P : A → Type 0) → ((c : A) → P c) → (ms : List (Move A)) → AllPushed P ms
all_pushed P h [] = none
all_pushed P h (push c ∷ ms) = pushing (h c) (all_pushed P h ms)
all_pushed P h (flush ∷ ms) = flushing (all_pushed P h ms)
all_pushed P h (stop k ∷ ms) = stopping (all_pushed P h ms)

-- nothing is asked of what is pushed
abbrev pub Any : {A : Type 0} → A → Type 0
Any c = Unit {0}

pub any_pushed : {A : Type 0} (ms : List (Move A)) → AllPushed Any ms
any_pushed = all_pushed Any (λ c. tt)

-- ---- what a run keeps

-- P of the state of an outcome that goes on
abbrev pub Holding : {S : Type 0} → (S → Type 0) → Outcome S → Type 0
Holding P (on s) = P s
Holding P (off k s) = Unit {0}

-- what follows an outcome of which P holds
pub follow_holds : {S : Type 0} (P Q : S → Type 0) (x : Outcome S) (k : S → Outcome S) → Holding P x →
    ((s : S) → P s → Holding Q (k s)) → Holding Q (follow x k)
follow_holds P Q (on s) k h e = e s h
follow_holds P Q (off r s) k h e = tt

-- THE LAW: what is said of a state, where it stays true after a good push and after a flush
module _ {A S : Type 0} (Good : A → Type 0) (P : S → Type 0) (p : A → S → Outcome S) (f : S → Outcome S)
    (pushes : (c : A) → Good c → (s : S) → P s → Holding P (p c s))
    (flushes : (s : S) → P s → Holding P (f s))
  where
    pub run_keeps : {ms : List (Move A)} → AllPushed Good ms → (s : S) → P s → Holding P (run p f ms s)
    unfolding run
    run_keeps none s h = h
    run_keeps (pushing {c} {ms} good a) s h =
        follow_holds P P (p c s) (run p f ms) (pushes c good s h) (run_keeps a)
    run_keeps (flushing {ms} a) s h = follow_holds P P (f s) (run p f ms) (flushes s h) (run_keeps a)
    run_keeps (stopping a) s h = tt

-- ---- two states side by side

-- both walks go on in related states, or both end by one refusal, the first in a state of which Q holds
pub data Related {S T : Type 0} (R : S → T → Type 0) (Q : S → Type 0) : Outcome S → Outcome T → Type 0 where
  both_on : {s : S} {t : T} → R s t → Related R Q (on s) (on t)
  both_off : {k : Refusal} {s : S} {t : T} → Q s → Related R Q (off k s) (off k t)

module _ {S T : Type 0} {R : S → T → Type 0} {Q : S → Type 0} where
  follow_related : {x : Outcome S} {y : Outcome T} (f : S → Outcome S) (h : T → Outcome T) → Related R Q x y
      → ((s : S) (t : T) → R s t → Related R Q (f s) (h t)) → Related R Q (follow x f) (follow y h)
  follow_related f h (both_on {s} {t} r) k = k s t r
  follow_related f h (both_off q) k = both_off q

  -- two tests that agree
  pub test_related : (a b : Bool) {x x' : Outcome S} {y y' : Outcome T} → a ≡ b → (b ≡ true → Related R Q x y) →
      (b ≡ false → Related R Q x' y') → Related R Q (cond a x x') (cond b y y')
  test_related true true e p q = p refl
  test_related false false e p q = q refl
  test_related true false e p q = absurd (true≢false e)
  test_related false true e p q = absurd (true≢false (sym e))

module _ {A S T : Type 0} (R : S → T → Type 0) (Q : S → Type 0) (p : A → S → Outcome S) (f : S → Outcome S)
    (p' : A → T → Outcome T) (f' : T → Outcome T)
    (ends : (s : S) (t : T) → R s t → Q s)
    (pushes : (c : A) (s : S) (t : T) → R s t → Related R Q (p c s) (p' c t))
    (flushes : (s : S) (t : T) → R s t → Related R Q (f s) (f' t))
  where
    pub run_related : (ms : List (Move A)) (s : S) (t : T) → R s t → Related R Q (run p f ms s) (run p' f' ms t)
    unfolding run
    run_related [] s t r = both_on r
    run_related (push c ∷ ms) s t r = follow_related (run p f ms) (run p' f' ms) (pushes c s t r) (run_related ms)
    run_related (flush ∷ ms) s t r = follow_related (run p f ms) (run p' f' ms) (flushes s t r) (run_related ms)
    run_related (stop k ∷ ms) s t r = both_off (ends s t r)
