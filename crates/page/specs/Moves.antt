-- Rules 7.1 and 7.3: what a walk does to the lines, as a list of moves, and such a list run on any state that can push
-- and flush.
use Rattle.std.specs.Prelude.{List, [], ◌∷◌}
use Rattle.refusal.specs.declared.Refusal.{Refusal}

-- a move: an A is pushed to the pending line, the pending line is flushed, or a refusal ends the walk
pub data Move (A : Type 0) : Type 0 where
  push : A → Move A
  flush : Move A
  stop : Refusal → Move A

-- the same move, with f of what is pushed
abbrev pub map_move : {A B : Type 0} → (A → B) → Move A → Move B
map_move f (push c) = push (f c)
map_move f flush = flush
map_move f (stop k) = stop k

-- what comes of moves on a state: the walk goes on, or a refusal ends it
pub data Outcome (S : Type 0) : Type 0 where
  on : S → Outcome S
  off : Refusal → S → Outcome S

-- what is done after an outcome, where the walk goes on
abbrev pub follow : {S : Type 0} → Outcome S → (S → Outcome S) → Outcome S
follow (on s) k = k s
follow (off r s) k = off r s

module _ {A S : Type 0} (pushes : A → S → Outcome S) (flushes : S → Outcome S) where
  -- one move
  abbrev pub move : Move A → S → Outcome S
  move (push c) s = pushes c s
  move flush s = flushes s
  move (stop k) s = off k s

  -- the moves in order
  unfoldable pub run : List (Move A) → S → Outcome S
  run [] s = on s
  run (x ∷ ms) s = follow (move x s) (run ms)
