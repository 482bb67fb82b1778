-- `texture::sample::sample_point` meets its contract: where there is no plan, its refusal comes first.
use Rattle.std.proofs.lemmas.Result.{err_from_is_err_and}
use Rattle.texture.specs.Sample.{sample_point}
use Rattle.texture.proofs.Plans.{plan_failed}
use Rattle.texture.proofs.sample.sample_point.Goals as goal

pub returns-in_err-sample : goal.returns-in_err-sample
unfolding sample_point
returns-in_err-sample c =
    let p = err_from_is_err_and c.from_residual.result c.from_residual.ensures.1 in
    rw (p.1, p.2) (plan_failed _ _ _ _ _ _ c.in_err-sample.ensures)
