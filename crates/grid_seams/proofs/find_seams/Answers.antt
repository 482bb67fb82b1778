-- `grid_seams::find_seams` meets its contract: a grid that passes its tests has steps both ways.
use mathlib.Core.Path.{sym}
use Rattle.grid.proofs.Laws.{grid_passed}
use Rattle.grid_seams.proofs.find_seams.Goals as goal

pub search_grid-requires : goal.search_grid-requires
search_grid-requires c =
    let grid = c.in_ok-grid.ensures.grid in
    let steps = (grid_passed _ _ _ _ (sym c.in_ok-grid.ensures.check)).shaped.steps in
    rw grid.1 (steps.m_least, steps.n_least)
