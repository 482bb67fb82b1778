use mathlib.Core.Path.{◌≡◌}
use lib.ListN.{drop}
use Rattle.page.specs.Page.{moves_by, on_page}
use Rattle.page.specs.Sheets.{page_of, same_lists}
use Rattle.walk.specs.Walk.{leg_moves}
use Rattle.walk.proofs.Walked.{left}
use Rattle.walk.proofs.append_edge_crossings.Given as goal

abbrev pub invariant-loop-i : goal.invariant-loop-i
invariant-loop-i l = same_lists l.initial.sheet l.sheet
    × (on_page l.tolerance (moves_by l.sample (leg_moves l.grid.points.now l.grid.cells l.leg))
    (page_of l.initial.sheet)
    ≡ left l.tolerance l.sample l.grid.points.now l.grid.cells l.leg (drop l.i l.events) l.previous (page_of l.sheet))
