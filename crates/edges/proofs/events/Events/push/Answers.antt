-- `edges::events::Events::push` meets its contract: it is that of the two lists, in which there is room.
use Rattle.std.proofs.Common.{rules, ap, ◌∙◌, ◌<◌, arith}
use Rattle.edges.specs.Events.{pushed}
use Rattle.edges.proofs.Places.{events_length}
use Rattle.edges.proofs.events.Events.push.Goals as goal
use Rattle.edges.proofs.events.Events.push.Goals.{After-self}

room : (c : After-self) → c.self.inside.count < 1023
room c = rw (← c.self.view_is, events_length c.self.invariant) at c.requires.room

pub push_candidate-self-inside-requires : goal.push_candidate-self-inside-requires
push_candidate-self-inside-requires c =
    let o = c.self.invariant in (
      omega (arith, room (goal.at.push_candidate-self-inside-requires c).After-self, o.lambdas_length),
      omega (arith, o.lambdas_length, o.codes_length),
      c.requires.storable,
      o.sorted,
    )

pub invariant_of-self : goal.invariant_of-self
invariant_of-self c =
    let o = c.self.invariant in
    record {
      lambdas_length = search rules;
      codes_length = search rules;
      few = omega (arith, room (goal.at.invariant_of-self c).After-self, c.push_candidate-self-inside.ensures.0);
      sorted = c.push_candidate-self-inside.ensures.2;
    }

pub returns : goal.returns
returns c = c.push_candidate-self-inside.ensures.1 ∙ ap (pushed c.args.candidate) c.self.view_is
