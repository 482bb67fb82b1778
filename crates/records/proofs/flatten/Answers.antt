-- `records::flatten` meets its contract: each record is put after those before it.
use Prim.Native.Nat.{◌+◌, ◌-◌, ◌*◌}
use native.Mathlib.Omega.{arith}
use lib.ListN.{length-set}
use borrow.Author.Rules.{rules}
use Rattle.page.proofs.Writes.{two_written}
use Rattle.records.proofs.Flattening.{pairs_more, marks_more}
use Rattle.records.proofs.flatten.Goals as goal

pub loop-i-preserved : goal.loop-i-preserved
loop-i-preserved c =
    let o = c.loop-i in
    let ss = c.args.records.now in
    let put =
    two_written o.pairs (2 * o.i) (2 * o.i + 2 - 2 * o.i) c.copy_from_slice.new.self _ _ (omega arith)
    c.copy_from_slice.ensures.after (omega arith) in (
      rw put (simp length-set o.invariant.0),
      search rules,
      rw put (pairs_more ss o.i _ c.loop-i-test.true o.pairs (omega arith) o.invariant.2),
      marks_more ss o.i _ c.loop-i-test.true o.marks (omega arith) o.invariant.3,
    )
