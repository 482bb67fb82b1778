-- `edges::events::Events::at` meets its contract: what stands at i in both lists is event i.
use Rattle.edges.proofs.Places.{read_event}
use Rattle.edges.proofs.events.Events.at.Goals as goal

pub returns : goal.returns
returns c =
    rw (← c.self.view_is, c.event_at.ensures)
    (read_event c.self.invariant c.args.i (rw (← c.self.view_is) at c.requires))
