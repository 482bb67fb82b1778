-- The joinings of a shape that the theorem is proved for: the covered ones (Rules 5.2) and, where corners pass the
-- rules twice, also Reverse at offset 0 beside Forward at offset 0. Demand 3 is promised for the seams that are found
-- (`CoveredJoining`); Joinings shows that these make such a shape.
use Prim.Native.Nat.{ℕ, ◌<◌}
use mathlib.Core.Path.{◌≡◌}
use Rattle.surface.specs.Surface.{Seam, unjoined, forward, reverse, Rule, once, twice, Shape}

-- a seam that is alone: at offset 0, in either direction
abbrev pub AtZero : Seam → Type 0
AtZero unjoined = ⊥
AtZero (forward o) = o ≡ 0
AtZero (reverse o) = o ≡ 0

-- A seam beside one that is forward at offset 0: forward, or reverse; reverse at offset 0 only where corners pass the
-- rules twice. An offset is one of the row: below its steps.
abbrev pub Beside : Rule → Seam → ℕ → Type 0
Beside r unjoined steps = ⊥
Beside r (forward o) steps = o < steps
Beside once (reverse o) steps = (0 < o) × (o < steps)
Beside twice (reverse o) steps = o < steps

-- no seam, one of them, both
pub data Covered (s : Shape) : Type 0 where
  neither : s.su ≡ unjoined → s.sv ≡ unjoined → Covered s
  only_u : AtZero s.su → s.sv ≡ unjoined → Covered s
  only_v : s.su ≡ unjoined → AtZero s.sv → Covered s
  both_u : Beside s.rule s.su s.N → s.sv ≡ forward 0 → Covered s
  both_v : s.su ≡ forward 0 → Beside s.rule s.sv s.M → Covered s
