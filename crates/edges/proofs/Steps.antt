-- A whole step that a value is close to is at most the last, since `integer_step` tests it.
use Rattle.std.specs.Prelude.{Option, Some, None}
use mathlib.Core.Bool.{◌&&◌}
use Prim.Native.Nat.{ℕ, ◌^◌, ◌≤◌}
use lib.Ieee.{Float, binary64, lt, le, sub}
use Rattle.float.specs.Consts.{eps, zero64}
use Rattle.float.specs.Sign.{absolute}
use Rattle.float.specs.Whole.{rounded}
use Rattle.float.specs.Cast.{nat_float}
use Rattle.basics.proofs.Tests.{and_both, cond_case}
use Rattle.float.proofs.Range.{counted}
use Rattle.edges.specs.Near.{integer_step}

-- a step is at most n
abbrev pub StepWithin : ℕ → Option ℕ → Type 0
StepWithin n (Some k) = k ≤ n
StepWithin n None = Unit

pub step_within : (x : Float) (n : ℕ) → n ≤ 2 ^ 53 → StepWithin n (integer_step x n)
unfolding integer_step
step_within x n h =
    let near = lt (absolute (sub binary64 x (rounded x))) eps in
    let low = le zero64 (rounded x) in
    let high = le (rounded x) (nat_float n) in
    cond_case (StepWithin n) (near && (low && high)) _ None
    (λ t. let inside = and_both low high (and_both near (low && high) t).1 in
    (counted (rounded x) n h inside.0 inside.1).1)
    (λ t. tt)
