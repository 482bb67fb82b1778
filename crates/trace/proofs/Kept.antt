-- Every line that a trace keeps has at least two points: only a flush keeps a line, and it keeps none that is shorter.
use mathlib.Core.List.{List, [], ◌∷◌, ◌++◌}
use Prim.Native.Nat.{ℕ, ◌+◌, ◌≤◌}
use native.Mathlib.Omega.{arith}
use lib.ListN.{length, length-append}
use lib.Ieee.{Float}
use Rattle.page.specs.declared.TracedPoint.{TracedPoint}
use Rattle.page.specs.Moves.{Move}
use Rattle.page.proofs.Moves.{Any, any_pushed, Holding}
use Rattle.trace.specs.Drawing.{Drawing, nothing_drawn, Room, draw}
use Rattle.trace.proofs.Keeps.{draw_keeps}

-- no line has fewer than two points: neither between two starts, nor between the last start and the count of points
abbrev pub TwoOrMore : List ℕ → ℕ → Type 0
TwoOrMore [] count = Unit {0}
TwoOrMore (s ∷ []) count = s + 2 ≤ count
TwoOrMore (s ∷ (t ∷ ss)) count = (s + 2 ≤ t) × TwoOrMore (t ∷ ss) count

-- one line more, of the points from n up to k
one_more : (ss : List ℕ) (n k : ℕ) → TwoOrMore ss n → n + 2 ≤ k → TwoOrMore (ss ++ (n ∷ [])) k
one_more [] n k h l = l
one_more (s ∷ []) n k h l = (h, l)
one_more (s ∷ (t ∷ ss)) n k h l = (h.0, one_more (t ∷ ss) n k h.1 l)

-- the kept lines of a drawing
abbrev pub Long : Drawing → Type 0
Long d = TwoOrMore d.starts (length d.drawn)

pub lines_long : (tolerance : Float) (room : Room) (ms : List (Move TracedPoint)) →
    Holding Long (draw tolerance room ms nothing_drawn)
lines_long tolerance room ms =
    draw_keeps Long Any
    (λ c good d h. h)
    (λ d h l. rw length-append (one_more d.starts (length d.drawn) (length d.drawn + length d.segment) h
    (omega arith)))
    (λ d h. h)
    tolerance room (any_pushed ms) nothing_drawn tt
