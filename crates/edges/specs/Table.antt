-- Rules 6, known results: the events of some legs at M = N = 1, by computation.
use Rattle.std.specs.Prelude.{◌≡◌, refl, Bool, true, [], ◌∷◌, Float}
use Rattle.std.specs.Float.{binary64}
use Rattle.std.specs.Float.Ieee.{of_bits, of_int, neg, lt, le, eq, add, sub, mul, div, round, to_unsigned}
use Rattle.float.specs.Consts.{eps, zero64, one64, half64}
use Rattle.float.specs.Sign.{negative, absolute}
use Rattle.float.specs.Order.{clamped, total_order}
use Rattle.float.specs.Whole.{floor_z, ceil_z, rounded}
use Rattle.float.specs.Cast.{nat_float}
use Rattle.param.specs.Param.{param, leg, cells, lerp, within, param_in_bounds}
use Rattle.edges.specs.declared.event.ParamEdge.TheVariants.{U, «V», Diagonal}
use Rattle.edges.specs.Near.{integer_step, normalize_lambda}
use Rattle.edges.specs.Cell.{index_of, on_diagonal, try_cell, diagonal_cell_at}
use Rattle.edges.specs.Events.{event, edge_at_point, line_crossing, diagonal_crossing, list_from, ends, lines}
use Rattle.edges.specs.Events.{diagonals, candidates, insert, sort_into, unique_after, unique, sorted_edge_events}

-- `unfolding computed` opens every definition that a closed result needs
unfoldable pub computed : Bool
unfolding
    within param_in_bounds integer_step normalize_lambda index_of on_diagonal try_cell diagonal_cell_at edge_at_point
    line_crossing diagonal_crossing list_from ends lines diagonals candidates insert sort_into unique_after unique
    sorted_edge_events eps negative absolute clamped total_order floor_z ceil_z rounded nat_float of_bits of_int neg
    lt le eq add sub mul div round to_unsigned
computed = true

abbrev pub quarter : Float
quarter = of_bits binary64 0x3FD0000000000000

abbrev pub three_quarters : Float
three_quarters = of_bits binary64 0x3FE8000000000000

abbrev pub minus_half : Float
minus_half = of_bits binary64 0xBFE0000000000000

abbrev pub minus_zero : Float
minus_zero = of_bits binary64 0x8000000000000000

-- from (0, 0.25) to (0.75, 0.25): U(0) at lambda 0 and Diagonal(0, 0) at lambda 1
pub along_u : sorted_edge_events (cells 1 1) (leg (param zero64 quarter) (param three_quarters quarter))
    ≡ event zero64 (U 0) ∷ (event one64 (Diagonal 0 0) ∷ [])
unfolding computed
along_u = refl

-- from (0, 0) to (0.5, −0.5): V(0) at lambda −0 alone, since U(0) at 0 comes after it, too near, and is dropped
pub minus_zero_first : sorted_edge_events (cells 1 1) (leg (param zero64 zero64) (param half64 minus_half))
    ≡ event minus_zero («V» 0) ∷ []
unfolding computed
minus_zero_first = refl

-- from (0.25, 0.25) to (0.75, 0.75): the diagonal at lambda 0.5
across : sorted_edge_events (cells 1 1) (leg (param quarter quarter) (param three_quarters three_quarters))
    ≡ event half64 (Diagonal 0 0) ∷ []
unfolding computed
across = refl

-- at lambda 1 the leg's point need not be b: from 1 towards 10^-17 it is 0
lerp_at_one : lerp (param one64 zero64) (param (of_bits binary64 0x3C670EF54646D497) zero64) one64 ≡ param zero64 zero64
unfolding computed
lerp_at_one = refl
