-- `trace::samples::check_trace` meets its contract: where the grid's tests pass, those of the lengths did.
use mathlib.Core.Path.{sym, ◌∙◌}
use Rattle.grid.proofs.Laws.{grid_passed}
use Rattle.trace.proofs.samples.check_trace.Goals as goal

pub returns-in_err-samples-clause-check : goal.returns-in_err-samples-clause-check
returns-in_err-samples-clause-check c =
    let own = (grid_passed _ _ _ _ (sym c.in_ok-grid.ensures.check)).own in
    absurd (let h = rw c.in_err-samples.was at (sym c.and.ensures ∙ own) in cc)
