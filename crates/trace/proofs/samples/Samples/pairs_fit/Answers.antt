-- `trace::samples::Samples::pairs_fit` meets its contract, by what `all` says of its closure.
use mathlib.Core.Path.{◌∙◌}
use lib.ListN.{length}
use Rattle.std.proofs.Common.{rules, tests, arith}
use Rattle.std.proofs.lemmas.Iterator.{YieldsList-from_range}
use Rattle.std.proofs.lemmas.Iterator.Search.{all_from_yields_List}
use Rattle.trace.proofs.Checks.{fits_at, pairs_in_turn}
use Rattle.trace.proofs.samples.Samples.pairs_fit.Goals as goal

pub returns : goal.returns
returns c =
    let s = c.args.self.now in
    all_from_yields_List (fits_at s.pairs.now s.marks.now s.fits.0) _ _ _ c.all.ensures.ran
    (YieldsList-from_range 0 (length s.marks.now) (length s.marks.now) (rw c.len.ensures) (omega arith))
    (λ x b q k. search (rules, tests))
    ∙ pairs_in_turn s.pairs.now s.marks.now s.fits.0
