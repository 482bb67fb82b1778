-- Rules 7.2, 3, 4, 6 and 7: known results of all layers in one place, about the definitions that the contracts cite.
-- Each is computed in the layer that it is about (`Table` of `cyclic`, `surface`, `edges`, `crossing` and `trace`).
use Rattle.std.specs.Prelude.{Some, None}
use Rattle.std.specs.Prelude.{◌≡◌, [], ◌∷◌}
use Rattle.std.proofs.Common.{ap}
use Rattle.std.specs.Float.{binary64}
use Rattle.std.specs.Float.Ieee.{of_bits, neg}
use Rattle.refusal.specs.Refusals.{Answer, ok}
use Rattle.float.specs.Consts.{eps, zero64, one64, half64}
use Rattle.cyclic.specs.declared.mapping.CyclicMapping.TheVariants.{Forward, Reverse}
use Rattle.cyclic.specs.Mapping.{map_index, map_index_inv}
use Rattle.cyclic.specs.Search.{searched, new_vector}
use Rattle.cyclic.specs.Table as seams
use Rattle.cyclic.specs.Table.{along, two64, three64, quarter64, above_quarter, two_fifths, ahead_row, turned_row}
use Rattle.cyclic.specs.Table.{nearly_closed, nearly_closed_further}
use Rattle.surface.specs.Surface.{tri, triangles, pair, flipped}
use Rattle.surface.specs.Found.{surface_with}
use Rattle.surface.specs.Table as surfaces
use Rattle.edges.specs.declared.event.ParamEdge.TheVariants.{U, «V», Diagonal}
use Rattle.param.specs.Param.{param, leg, cells}
use Rattle.edges.specs.Events.{event, sorted_edge_events}
use Rattle.edges.specs.Table as events
use Rattle.edges.specs.Table.{quarter, three_quarters, minus_half, minus_zero}
use Rattle.crossing.specs.Crossing.{step_index}
use Rattle.crossing.specs.Table as crossing
use Rattle.lent.specs.declared.Counts.{Counts}
use Rattle.lent.specs.Lent.{Afterwards, counts}
use Rattle.page.specs.Page.{Lists}
use Rattle.trace.specs.Table as traces
use Rattle.trace.specs.Table.{traced, numbered, coarse}

-- Rules 7.2, `step_index`: 4 of 4 steps is in cell 3 by 1, −EPS of 4 steps in cell 0 by 0; without steps no answer
pub step_index_lem : (step_index (of_bits binary64 0x4010000000000000) 4 ≡ Some (3, one64))
    × (step_index (neg eps) 4 ≡ Some (0, zero64)) × (step_index zero64 0 ≡ None)
step_index_lem = (crossing.last_border, crossing.before_first, crossing.no_steps)

-- Rules 3.4, Forward at offset 1 of 4 steps: 4 goes to 1, and 0 comes from 3
pub forward : (map_index (Forward 1 4) 4 ≡ ok 1) × (map_index_inv (Forward 1 4) 0 ≡ ok 3)
forward = (seams.forward_image, seams.forward_inverse)

-- Rules 3.4, Reverse of 4 steps: at offset 0, 1 comes from 3; at offset 1, 2 comes from 3, and 4 from 1
pub reverse : (map_index_inv (Reverse 0 4) 1 ≡ ok 3) × (map_index_inv (Reverse 1 4) 2 ≡ ok 3)
    × (map_index_inv (Reverse 1 4) 4 ≡ ok 1)
reverse = (seams.reverse_zero, seams.reverse_two, seams.reverse_four)

-- Rules 3.3, rows by their x (`along`): one is the other backwards, found after 6 comparisons
pub rows_reversed : new_vector (along (zero64 ∷ one64 ∷ two64 ∷ three64 ∷ []))
    (along (three64 ∷ two64 ∷ one64 ∷ zero64 ∷ [])) eps ≡ ok (searched (Some (Reverse 0 3)) 6)
rows_reversed = seams.turned

-- Rules 3.3: closed rows, one shifted by 2 of 3 steps, found after 10 comparisons
pub rows_shifted : new_vector (along (zero64 ∷ one64 ∷ two64 ∷ zero64 ∷ []))
    (along (one64 ∷ two64 ∷ zero64 ∷ one64 ∷ [])) eps ≡ ok (searched (Some (Forward 2 3)) 10)
rows_shifted = seams.shifted

-- Rules 3.3: rows that are not closed and do not fit, after 3 comparisons
pub rows_apart : new_vector (along (zero64 ∷ one64 ∷ two64 ∷ [])) (along (one64 ∷ two64 ∷ three64 ∷ [])) eps
    ≡ ok (searched None 3)
rows_apart = seams.apart

-- Rules 2.3, at other tolerances than EPS: 0 1 2 3 and 3.25 2.25 1.25 0.25 join in reverse at the f64 after 0.25, and
-- not at 0.25; 0 1 2 0.4 and 1 2 0 1.4 are closed and shifted by 2 of 3 steps at 0.5, and do not join at 0.4
pub rows_at_tolerances :
    (new_vector ahead_row turned_row quarter64 ≡ ok (searched None 3))
    × (new_vector ahead_row turned_row above_quarter ≡ ok (searched (Some (Reverse 0 3)) 6))
    × (new_vector nearly_closed nearly_closed_further half64 ≡ ok (searched (Some (Forward 2 3)) 10))
    × (new_vector nearly_closed nearly_closed_further two_fifths ≡ ok (searched None 3))
rows_at_tolerances =
    (seams.apart_at_quarter, seams.turned_above_quarter, seams.shifted_at_half, seams.open_at_two_fifths)

-- Rules 4.3: the two triangles of one cell without seams
pub no_seam : triangles (surface_with 1 1 None None) ≡ tri 0 2 1 ∷ tri 2 3 1 ∷ []
no_seam = surfaces.no_seam

-- Rules 4.4: the flipped pairs of 3 by 3 cells whose u seam is reversed at offset 0, without a v seam
pub u_reversed : flipped (surface_with 3 3 (Some (Reverse 0 3)) None) ≡ pair 0 17 ∷ pair 2 15 ∷ pair 4 13 ∷ []
u_reversed = surfaces.reversed_u

-- Rules 6 and 7: in one cell, the two events from (0, 0.25) to (0.75, 0.25), and p, q and t of their points. `traced`
-- traces these two samples across a unit square, into lists with room for two points
pub along_u :
    (sorted_edge_events (cells 1 1) (leg (param zero64 quarter) (param three_quarters quarter))
    ≡ event zero64 (U 0) ∷ event one64 (Diagonal 0 0) ∷ [])
    × ((traced zero64 quarter three_quarters quarter).lists.sides ≡ 0 ∷ 1 ∷ 2 ∷ 1 ∷ [])
    × ((traced zero64 quarter three_quarters quarter).lists.fractions ≡ quarter ∷ quarter ∷ [])
along_u = (
  events.along_u,
  ap (λ (t : Afterwards (Answer Counts) Lists). t.lists.sides) traces.along_u,
  ap (λ (t : Afterwards (Answer Counts) Lists). t.lists.fractions) traces.along_u,
)

-- Rules 7.5: in one cell, the samples that points were made by: from (0, 0.25) by (0.75, 0.25) to (1, 0.25); and from
-- (0, 0.25) to (0.75, 0.25) and, after a break, from (0, 0.75) to (1, 0.75). `numbered` traces samples across a unit
-- square, into lists with room for some points
pub sample_numbers :
    ((numbered (zero64 ∷ quarter ∷ three_quarters ∷ quarter ∷ one64 ∷ quarter ∷ []) (1 ∷ 1 ∷ 1 ∷ []) 3).lists.samples
    ≡ 1 ∷ 1 ∷ 2 ∷ [])
    × ((numbered (zero64 ∷ quarter ∷ three_quarters ∷ quarter ∷ zero64 ∷ zero64 ∷ zero64 ∷ three_quarters ∷ one64
    ∷ three_quarters ∷ []) (1 ∷ 1 ∷ 0 ∷ 1 ∷ 1 ∷ []) 5).lists.samples ≡ 1 ∷ 1 ∷ 4 ∷ 4 ∷ 4 ∷ [])
sample_numbers = (traces.two_legs, traces.break_counted)

-- Rules 2.3 and 7.3: the same three samples at tolerances of lines: all three points at 0.25, two at 0.5. `coarse`
-- traces them across a unit square
pub line_tolerances : ((coarse quarter).answer ≡ ok (counts 3 1)) × ((coarse half64).answer ≡ ok (counts 2 1))
line_tolerances = (traces.three_points, traces.two_points)

-- Rules 6: in one cell, the only event from (0, 0) to (0.5, −0.5): U(0) at 0 comes after it, too near, and is dropped
pub minus_zero_first : sorted_edge_events (cells 1 1) (leg (param zero64 zero64) (param half64 minus_half))
    ≡ event minus_zero («V» 0) ∷ []
minus_zero_first = events.minus_zero_first
