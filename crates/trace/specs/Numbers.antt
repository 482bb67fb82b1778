-- Rules 7.5: what holds of the numbers that a trace leaves beside its points, whatever the grid, the tolerances, the
-- samples and the lists lent.
use Rattle.std.specs.Prelude.{◌≡◌, List, ℕ, ◌-◌, ◌≤◌, ◌<◌, length, get_or, Float}
use Rattle.refusal.specs.Refusals.{Answer}
use Rattle.tolerance.specs.declared.Tolerances.{Tolerances}
use Rattle.lent.specs.declared.Counts.{Counts}
use Rattle.lent.specs.Lent.{Afterwards}
use Rattle.page.specs.Page.{Lists}
use Rattle.trace.specs.Trace.{trace_flat}
use Rattle.trace.specs.Demand.{points_in, EachPoint}

-- the number beside point i
abbrev pub sample_number : Lists → ℕ → ℕ
sample_number l i = get_or l.samples i 0

-- number k is of a sample that ends a leg: there are sample k and one before it, and both are points
pub record EndsLeg (marks : List ℕ) (k : ℕ) : Type 0 where
  pub not_first : 1 ≤ k
  pub below : k < length marks
  pub point : get_or marks k 0 ≡ 1
  pub point_before : get_or marks (k - 1) 0 ≡ 1

-- no point that a trace draws has a lower number than one before it, be that of the same line or of another
abbrev pub NeverFall : Afterwards (Answer Counts) Lists → Type 0
NeverFall t =
    (i j : ℕ) → i ≤ j → j < points_in t.answer → sample_number t.lists i ≤ sample_number t.lists j

-- of the answer and the lists that a trace of these marks leaves
pub record NumbersHold (marks : List ℕ) (t : Afterwards (Answer Counts) Lists) : Type 0 where
  pub each_ends_leg : EachPoint (λ l i. EndsLeg marks (sample_number l i)) t
  pub never_fall : NeverFall t

-- of every trace across a grid, at all tolerances
abbrev pub NumbersMet : List Float → ℕ → ℕ → Type 0
NumbersMet g m n =
    (tolerances : Tolerances) (pairs : List Float) (marks : List ℕ) (l : Lists) →
    NumbersHold marks (trace_flat g m n tolerances pairs marks l)
