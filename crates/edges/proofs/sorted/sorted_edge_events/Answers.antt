-- `edges::sorted::sorted_edge_events` meets its contract: group after group is sorted in, for all of which there is
-- room, and close ones are dropped.
use mathlib.Core.Path.{ap, ◌∙◌}
use mathlib.Core.List.{[]}
use Prim.Native.Nat.{◌≤◌}
use native.Mathlib.Omega.{arith}
use lib.ListN.{length}
use Rattle.param.specs.declared.Axis.TheVariants.{AxisU, AxisV}
use Rattle.edges.specs.Events.{unique, sorted_edge_events}
use Rattle.edges.proofs.Gather.{ends_grow, lines_grow, groups_sorted}
use Rattle.edges.proofs.sorted.sorted_edge_events.Goals as goal
use Rattle.edges.proofs.sorted.sorted_edge_events.Goals.{After-push_ends}

-- how many there are after the first group
few_ends : (c : After-push_ends) → length c.push_ends.new.events ≤ 2
few_ends c = ends_grow c.args.cells c.args.leg [] (rw c.clear.ensures at c.push_ends.ensures)

pub push_lines-requires-clause-room : goal.push_lines-requires-clause-room
push_lines-requires-clause-room c = omega (arith, few_ends (goal.at.push_lines-requires-clause-room c).After-push_ends)

pub push_lines-requires-2-clause-room : goal.push_lines-requires-2-clause-room
push_lines-requires-2-clause-room c =
    omega (
      arith,
      few_ends (goal.at.push_lines-requires-2-clause-room c).After-push_ends,
      lines_grow AxisU c.args.cells c.args.leg c.push_ends.new.events c.push_lines.ensures,
    )

pub push_diagonals-requires-clause-room : goal.push_diagonals-requires-clause-room
push_diagonals-requires-clause-room c =
    omega (
      arith,
      few_ends (goal.at.push_diagonals-requires-clause-room c).After-push_ends,
      lines_grow AxisU c.args.cells c.args.leg c.push_ends.new.events c.push_lines.ensures,
      lines_grow AxisV c.args.cells c.args.leg c.push_lines.new.events c.push_lines-2.ensures,
    )

pub returns : goal.returns
unfolding sorted_edge_events
returns c =
    let k = c.args.cells in
    c.unique.ensures
    ∙ ap unique (groups_sorted k c.args.leg (rw c.clear.ensures at c.push_ends.ensures) c.push_lines.ensures
    c.push_lines-2.ensures c.push_diagonals.ensures)
