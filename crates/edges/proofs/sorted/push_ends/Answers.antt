-- `edges::sorted::push_ends` meets its contract: the two candidates are those of the definition, in its order.
use native.Mathlib.Omega.{arith}
use Rattle.float.specs.Consts.{zero64, one64}
use Rattle.edges.proofs.Each.{length_pushed}
use Rattle.edges.proofs.Laws.{zero_on_leg, one_on_leg}
use Rattle.edges.proofs.Storable.{end_storable}
use Rattle.edges.proofs.Gather.{ends_pushed}
use Rattle.edges.proofs.sorted.push_ends.Goals as goal

pub push-requires-clause-storable : goal.push-requires-clause-storable
push-requires-clause-storable c =
    rw (c.end_candidate.ensures, c.edge_at_point.ensures)
    (end_storable c.args.cells c.requires.few.0 c.requires.few.1 zero64 c.args.leg.a zero_on_leg)

pub push-requires-2-clause-room : goal.push-requires-2-clause-room
push-requires-2-clause-room c =
    rw c.push.ensures (omega (arith, length_pushed c.end_candidate.result c.args.events.now))

pub push-requires-2-clause-storable : goal.push-requires-2-clause-storable
push-requires-2-clause-storable c =
    rw (c.end_candidate-2.ensures, c.edge_at_point-2.ensures)
    (end_storable c.args.cells c.requires.few.0 c.requires.few.1 one64 c.args.leg.b one_on_leg)

pub returns : goal.returns
returns c =
    ends_pushed c.args.cells c.args.leg c.args.events.now c.edge_at_point.ensures c.edge_at_point-2.ensures
    c.end_candidate.ensures c.end_candidate-2.ensures c.push.ensures c.push-2.ensures
