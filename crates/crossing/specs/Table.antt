-- Rules 7.2, known results: `step_index`, by computation.
use Rattle.std.specs.Prelude.{◌≡◌, refl, Bool, true, Some, None}
use Rattle.std.specs.Float.{binary64}
use Rattle.std.specs.Float.Ieee.{of_bits, neg}
use Rattle.float.specs.Consts.{eps, zero64, one64}
use Rattle.grid.specs.Grid.{point_at}
use Rattle.edges.specs.Table as events
use Rattle.crossing.specs.Crossing.{close_to, cell_of, off_axis, at_cell, step_index, blend, edge_point}

-- `unfolding computed` opens every definition that a closed result needs, here or in a trace
unfoldable pub computed : Bool
unfolding events.computed point_at close_to cell_of off_axis at_cell step_index blend edge_point
computed = true

-- the value 4 of 4 steps is in cell 3, by 1
pub last_border : step_index (of_bits binary64 0x4010000000000000) 4 ≡ Some (3, one64)
unfolding computed
last_border = refl

-- the value −EPS of 4 steps is in cell 0, by 0
pub before_first : step_index (neg eps) 4 ≡ Some (0, zero64)
unfolding computed
before_first = refl

-- the value 0 has no answer where there are no steps
pub no_steps : step_index zero64 0 ≡ None
unfolding computed
no_steps = refl
