-- `replay::replay` is safe and ends: fewer cases differ than the next case's number.
use Rattle.std.proofs.Common.{◌<◌}
use Rattle.replay.proofs.replay.Given as goal

abbrev pub invariant-loop-index : goal.invariant-loop-index
invariant-loop-index g l = l.differ < l.index
