-- `edges::events::Events::unique` meets its contract: it is that of the two lists, and what is kept stays in order.
use Rattle.std.proofs.Common.{rules, ap, ◌∙◌, arith}
use Rattle.edges.specs.Events.{unique}
use Rattle.edges.specs.Order.{events_in}
use Rattle.edges.proofs.Laws.{unique_sorted}
use Rattle.edges.proofs.events.Events.unique.Goals as goal

pub invariant_of-self : goal.invariant_of-self
invariant_of-self c =
    let s = c.self.inside in
    let o = c.self.invariant in
    record {
      lambdas_length = search rules;
      codes_length = search rules;
      few = omega (arith, o.few, c.unique-self-inside.ensures.0);
      sorted = rw c.unique-self-inside.ensures.1 (unique_sorted (events_in s.lambdas s.codes s.count) o.sorted);
    }

pub returns : goal.returns
returns c = c.unique-self-inside.ensures.1 ∙ ap unique c.self.view_is
