-- `path::draw::starts` meets its contract: the starts of the lines along u, those along v, and zero past them.
use Rattle.std.proofs.Common.{◌+◌, ◌-◌, length, arith, rules}
use Rattle.std.proofs.lemmas.Grind.{common_steps}
use Rattle.path.proofs.Lines.{starts_drawn}
use Rattle.path.proofs.draw.starts.Goals as goal

pub returns : goal.returns
returns c =
    let a = c.args in
    let k = a.grid.now.cells in
    starts_drawn _ _ _ _ _ _ _ _ _ (length a.starts.now - (k.m + k.n + 2)) c.put_spaced.ensures (omega arith)
    c.put_spaced-2.ensures (omega arith) (search (rules, common_steps)) (omega arith)
