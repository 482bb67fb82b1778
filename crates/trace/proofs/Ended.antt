-- `trace_flat` by what the open call did: it refused before the walk and left the lists alone, or it walked.
use mathlib.Core.Path.{◌≡◌, refl, sym}
use mathlib.Core.Bool.{true, false, true≢false}
use mathlib.Core.List.{List}
use Prim.Native.Nat.{ℕ}
use lib.Ieee.{Float}
use Rattle.std.specs.Prelude.{None, Ok, Err}
use Rattle.std.specs.Result.{is_err}
use Rattle.refusal.specs.declared.Refusal.{Refusal}
use Rattle.refusal.specs.Refusals.{Check, passed, refused, number_of}
use Rattle.tolerance.specs.declared.Tolerances.{Tolerances}
use Rattle.lent.specs.Lent.{afterwards}
use Rattle.param.specs.Param.{cells}
use Rattle.page.specs.declared.Sheet.{Sheet}
use Rattle.page.specs.Page.{Lists, on_page}
use Rattle.page.specs.Sheets.{lists_of, page_of, outcome_of}
use Rattle.trace.specs.Curve.{samples_of, trace_moves}
use Rattle.trace.specs.Trace.{trace_check, trace_flat}
use Rattle.trace.proofs.Agree.{first_page, page_left, ended, trace_ends}

-- the page that is left, by whether the walk was refused
pub when_refused : (r : Check) (s : Sheet) → true ≡ is_err r → page_left (outcome_of r s) ≡ first_page (lists_of s)
when_refused (Ok u) s e = absurd (true≢false e)
when_refused (Err k) s e = refl

pub when_walked : (r : Check) (s : Sheet) → false ≡ is_err r → page_left (outcome_of r s) ≡ page_of s
when_walked (Ok u) s e = refl
when_walked (Err k) s e = absurd (true≢false (sym e))

module _ (g : List Float) (m n : ℕ) (tolerances : Tolerances) (pairs : List Float) (marks : List ℕ) (l : Lists) where
  pub refused_before : {k : Refusal} → trace_check g m n tolerances pairs marks ≡ Err k →
      afterwards (refused (number_of k)) l ≡ trace_flat g m n tolerances pairs marks l
  unfolding trace_flat
  refused_before e = rw e

  pub walked : trace_check g m n tolerances pairs marks ≡ passed →
      ended (on_page tolerances.line (trace_moves g (cells m n) 0 (samples_of marks pairs) None) (first_page l))
      ≡ trace_flat g m n tolerances pairs marks l
  unfolding trace_flat
  walked e = rw e (trace_ends tolerances.line l g (cells m n) 0 (samples_of marks pairs) None)
