-- `trace::samples::Samples::marks_fit` meets its contract, by what `all` says of its closure.
use mathlib.Core.Path.{◌∙◌}
use lib.Dec.{leb}
use Rattle.std.proofs.Common.{rules, tests}
use Rattle.std.proofs.lemmas.Iterator.{YieldsList-from_slice}
use Rattle.std.proofs.lemmas.Iterator.Search.{all_from_yields_List}
use Rattle.trace.proofs.Checks.{marks_at_most}
use Rattle.trace.proofs.samples.Samples.marks_fit.Goals as goal

pub returns : goal.returns
returns c =
    all_from_yields_List (λ k. leb k 1) _ _ _ c.all.ensures.ran (YieldsList-from_slice c.args.self.now.marks.now cc)
    (λ x b q k. search (rules, tests))
    ∙ marks_at_most c.args.self.now.marks.now
