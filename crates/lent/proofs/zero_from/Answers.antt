-- `lent::zero_from` meets its contract: all of what was cut off is zero, and nothing else is moved.
use Rattle.std.proofs.Common.{arith, ◌≡◌, ◌-◌, ◌∙◌, sym, length}
use Prim.Native.Nat.{min}
use lib.ListN.{replicate}
use Rattle.std.proofs.lemmas.List.{take_all}
use Rattle.lent.proofs.Zeroes.{zeroed_past_end}
use Rattle.lent.proofs.zero_from.Goals as goal

pub returns : goal.returns
returns g c =
    let a = c.args in
    let o = c.loop-place in
    let l = a.list.now in
    let from : c.min-from.result ≡ min a.from (length l) = omega arith in
    let count : o.place-index ≡ length l - c.min-from.result = omega arith in
    let whole : replicate o.place-index a.zero ≡ o.place-items =
    sym o.invariant ∙ take_all o.place-index o.place-items (omega arith) in
    zeroed_past_end l a.zero c.min-from.result a.from o.place-items from (rw (← count) (sym whole))
