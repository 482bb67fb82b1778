-- `edges::scratch::insert_event` meets its contract: its lambda and the number of its side are put at the place that
-- the search found, which is the event's.
use Rattle.std.proofs.Common.{◌≤◌, length, arith}
use Rattle.edges.specs.Order.{events_in}
use Rattle.edges.proofs.Places.{parted_lambdas, inserted}
use Rattle.edges.proofs.Order.{sorted_insert}
use Rattle.edges.proofs.scratch.insert_event.Goals as goal
use Rattle.edges.proofs.scratch.insert_event.Goals.{Start}

room : (c : Start) → c.args.count ≤ length c.args.lambdas.now
room c = omega (arith, c.requires.0)

pub place_of-place-requires : goal.place_of-place-requires
place_of-place-requires c =
    let a = c.args in
    parted_lambdas a.lambdas.now a.codes.now a.count c.requires.1 (room (goal.at.place_of-place-requires c).Start)
    c.requires.3 a.event c.requires.2.1

pub returns : goal.returns
returns c =
    let a = c.args in
    let es = events_in a.lambdas.now a.codes.now a.count in
    let put =
    inserted a.lambdas.now a.codes.now a.count c.requires.1 (room (goal.at.returns c).Start) c.requires.3 a.event
    c.place_of-place.result _ _ c.requires.2 c.code_of.ensures c.place_of-place.ensures c.put_at.ensures.put
    c.put_at-2.ensures.put in
    (put, sorted_insert a.event es c.requires.2 c.requires.3 put)
