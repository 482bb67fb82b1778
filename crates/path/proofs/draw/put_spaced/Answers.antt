-- `path::draw::put_spaced` meets its contract: every place holds its number.
use Rattle.std.proofs.Common.{◌+◌, ◌*◌, ℕ, arith}
use Rattle.std.proofs.lemmas.List.FromFn.{fill_by_all}
use Rattle.path.proofs.draw.put_spaced.Goals as goal

pub returns : goal.returns
returns c =
    let a = c.args in
    fill_by_all (λ (k : ℕ). a.first + k * a.stride) _ _ 0 c.loop-k.auto.starts
    (λ k h. c.loop-k.invariant k (omega arith))
