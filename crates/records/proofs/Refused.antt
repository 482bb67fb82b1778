-- More than 65,537 marks are refused whatever they and the tolerances are: by 1 if M or N does not fit, else by 2,
-- since their length is tested before anything else of them and before the tolerances.
use mathlib.Core.Path.{◌≡◌, refl}
use mathlib.Core.Bool.{Bool, true, false, ◌&&◌}
use mathlib.Core.List.{List}
use Prim.Native.Nat.{ℕ, ◌*◌, ◌<◌}
use lib.Dec.{eqb}
use lib.ListN.{length}
use lib.Ieee.{Float}
use borrow.Author.Tests.{lt-leb}
use Rattle.std.specs.Prelude.{Err}
use Rattle.refusal.specs.declared.Refusal.TheVariants.{Steps, Length}
use Rattle.refusal.specs.Refusals.{Check, passed, refused, unless, and_then}
use Rattle.tolerance.specs.declared.Tolerances.{Tolerances}
use Rattle.grid.specs.Grid.{steps_fit, length_fits, grid_check}
use Rattle.lent.specs.Lent.{afterwards}
use Rattle.page.specs.Page.{Lists}
use Rattle.trace.specs.Trace.{trace_check, trace_flat}
use Rattle.trace.proofs.Ended.{refused_before}

module _ (g : List Float) (m n : ℕ) (tolerances : Tolerances) (pairs : List Float) (marks : List ℕ) (l : Lists)
    {b : Bool} (e : b ≡ steps_fit m n) where
  wrong_steps : b ≡ false → trace_check g m n tolerances pairs marks ≡ Err Steps
  unfolding trace_check grid_check
  wrong_steps f = rw (← e, f)

  too_many : b ≡ true → 65537 < length marks → trace_check g m n tolerances pairs marks ≡ Err Length
  unfolding trace_check grid_check
  too_many t h =
      rw (← e, t, lt-leb (length marks) 65537 h) (go (length_fits g m n) (eqb (length pairs) (2 * length marks)) _ _ _)
    where
      go : (a c : Bool) (x y z : Check) →
          and_then (unless a Length (and_then (and_then (unless (c && false) Length passed) x) y)) z ≡ Err Length
      go true true x y z = refl
      go true false x y z = refl
      go false c x y z = refl

  pub steps_refused : b ≡ false → afterwards (refused 1) l ≡ trace_flat g m n tolerances pairs marks l
  steps_refused f = refused_before g m n tolerances pairs marks l (wrong_steps f)

  pub length_refused : b ≡ true → 65537 < length marks →
      afterwards (refused 2) l ≡ trace_flat g m n tolerances pairs marks l
  length_refused t h = refused_before g m n tolerances pairs marks l (too_many t h)
