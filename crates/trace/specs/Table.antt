-- Rules 7, known results: traces at M = N = 1, by computation.
use Rattle.std.specs.Prelude.{◌≡◌, refl, Bool, true, List, [], ◌∷◌, ℕ, ◌*◌, replicate, Float}
use Rattle.std.specs.Float.{nan, binary64}
use Rattle.std.specs.Float.Ieee.{of_bits, add}
use Rattle.refusal.specs.Refusals.{Answer, ok, refused}
use Rattle.float.specs.Consts.{eps, zero64, one64, half64}
use Rattle.float.specs.Sign.{is_finite}
use Rattle.float.specs.Order.{larger}
use Rattle.tolerance.specs.Tolerance.{tolerances, every_eps}
use Rattle.vector.specs.Vectors.{all_close}
use Rattle.grid.specs.Grid.{coordinates_fit, grid_check}
use Rattle.edges.specs.Table.{quarter, three_quarters}
use Rattle.crossing.specs.Table as crossing
use Rattle.lent.specs.declared.Counts.{Counts}
use Rattle.lent.specs.Lent.{Afterwards, afterwards, counts}
use Rattle.page.specs.Moves.{run}
use Rattle.page.specs.Page.{Lists, lists}
use Rattle.walk.specs.Walk.{between_inside, decide, events_moves, leg_moves}
use Rattle.trace.specs.Curve.{samples_of, trace_moves}
use Rattle.trace.specs.Drawing.{push_segment_point, flush_segment}
use Rattle.trace.specs.Trace.{marks_fit, pairs_fit, trace_check, in_turn, trace_flat}

-- `unfolding computed` opens every definition that a closed result needs
unfoldable pub computed : Bool
unfolding
    crossing.computed larger all_close coordinates_fit grid_check samples_of between_inside decide events_moves
    leg_moves trace_moves run push_segment_point flush_segment marks_fit pairs_fit trace_check in_turn trace_flat
    is_finite
computed = true

-- a unit square as a grid of M = N = 1; lists with room for some points and lines, with no zero in them; and the trace
-- of two samples, at EPS, in lists with room for two points and one line
abbrev square : List Float
square = zero64 ∷ zero64 ∷ zero64 ∷ zero64 ∷ one64 ∷ zero64 ∷ one64 ∷ zero64 ∷ zero64 ∷ one64 ∷ one64 ∷ zero64 ∷ []

abbrev room : ℕ → ℕ → Lists
room points lines =
    lists (replicate (3 * points) one64) (replicate lines 7) (replicate (2 * points) 7) (replicate points one64)
    (replicate points 7)

abbrev pub traced : Float → Float → Float → Float → Afterwards (Answer Counts) Lists
traced u v u' v' = trace_flat square 1 1 every_eps (u ∷ v ∷ u' ∷ v' ∷ []) (1 ∷ 1 ∷ []) (room 2 1)

-- from (0, 0.25) to (0.75, 0.25): one line of two points, the first made from 0 and 1, the second from 2 and 1, both
-- by 0.25, and both by sample 1
pub along_u : traced zero64 quarter three_quarters quarter
    ≡ afterwards (ok (counts 2 1))
    (lists (zero64 ∷ quarter ∷ zero64 ∷ three_quarters ∷ quarter ∷ zero64 ∷ []) (0 ∷ []) (0 ∷ 1 ∷ 2 ∷ 1 ∷ [])
    (quarter ∷ quarter ∷ []) (1 ∷ 1 ∷ []))
unfolding computed
along_u = refl

-- from (0.25, 0.25) to (0.75, 0.75): one point, which is no line
no_line : (traced quarter quarter three_quarters three_quarters).answer ≡ ok (counts 0 0)
unfolding computed
no_line = refl

-- from (1, 1048576) to (1, 1 + EPS): refused with 11, and every place is zero
no_step : traced one64 (of_bits binary64 0x4130000000000000) one64 (add binary64 one64 eps)
    ≡ afterwards (refused 11)
    (lists (zero64 ∷ zero64 ∷ zero64 ∷ zero64 ∷ zero64 ∷ zero64 ∷ []) (0 ∷ []) (0 ∷ 0 ∷ 0 ∷ 0 ∷ [])
    (zero64 ∷ zero64 ∷ []) (0 ∷ 0 ∷ []))
unfolding computed
no_step = refl

-- ---- Rules 7.5: the number beside each point

-- the trace of samples in lists with room for as many points and two lines
abbrev pub numbered : List Float → List ℕ → ℕ → Afterwards (Answer Counts) Lists
numbered pairs marks points = trace_flat square 1 1 every_eps pairs marks (room points 2)

-- (0, 0.25), (0.75, 0.25) and (1, 0.25): two points by the leg to sample 1, one by that to sample 2
pub two_legs : (numbered (zero64 ∷ quarter ∷ three_quarters ∷ quarter ∷ one64 ∷ quarter ∷ []) (1 ∷ 1 ∷ 1 ∷ []) 3
    ).lists.samples ≡ 1 ∷ 1 ∷ 2 ∷ []
unfolding computed
two_legs = refl

-- (0, 0.25) and (0.75, 0.25), a break, (0, 0.75) and (1, 0.75): the break is counted
pub break_counted :
    (numbered (zero64 ∷ quarter ∷ three_quarters ∷ quarter ∷ zero64 ∷ zero64 ∷ zero64 ∷ three_quarters ∷ one64
    ∷ three_quarters ∷ []) (1 ∷ 1 ∷ 0 ∷ 1 ∷ 1 ∷ []) 5
    ).lists.samples ≡ 1 ∷ 1 ∷ 4 ∷ 4 ∷ 4 ∷ []
unfolding computed
break_counted = refl

-- (0, 0.25) twice and then (0.75, 0.25): the point that sample 2 would make again is left out, so the first keeps 1
first_stays : (numbered (zero64 ∷ quarter ∷ zero64 ∷ quarter ∷ three_quarters ∷ quarter ∷ []) (1 ∷ 1 ∷ 1 ∷ []) 2
    ).lists.samples ≡ 1 ∷ 2 ∷ []
unfolding computed
first_stays = refl

-- the first two samples where all lists but the numbers' have room for both points: refused with 12, all places zero
no_number : trace_flat square 1 1 every_eps (zero64 ∷ quarter ∷ three_quarters ∷ quarter ∷ []) (1 ∷ 1 ∷ [])
    (lists (room 2 1).points (room 2 1).starts (room 2 1).sides (room 2 1).fractions (7 ∷ []))
    ≡ afterwards (refused 12)
    (lists (zero64 ∷ zero64 ∷ zero64 ∷ zero64 ∷ zero64 ∷ zero64 ∷ []) (0 ∷ []) (0 ∷ 0 ∷ 0 ∷ 0 ∷ [])
    (zero64 ∷ zero64 ∷ []) (0 ∷ []))
unfolding computed
no_number = refl

-- ---- Rules 2.3: other tolerances of lines

-- (0, 0.25), (0.75, 0.25) and (1, 0.25), of which the last two make points 0.25 apart
abbrev pub coarse : Float → Afterwards (Answer Counts) Lists
coarse line =
    trace_flat square 1 1 (tolerances one64 one64 line)
    (zero64 ∷ quarter ∷ three_quarters ∷ quarter ∷ one64 ∷ quarter ∷ []) (1 ∷ 1 ∷ 1 ∷ []) (room 3 1)

-- at 0.25 they are not close, at 0.5 the last is left out
pub three_points : (coarse quarter).answer ≡ ok (counts 3 1)
unfolding computed
three_points = refl

pub two_points : (coarse half64).answer ≡ ok (counts 2 1)
unfolding computed
two_points = refl

-- 13 for a tolerance that a trace does not use, before 4 for the grid, 9 for the mark and 10; the lists stay
pub unused_refused : trace_flat (nan ∷ nan ∷ nan ∷ nan ∷ nan ∷ nan ∷ nan ∷ nan ∷ nan ∷ nan ∷ nan ∷ nan ∷ []) 1 1
    (tolerances one64 zero64 one64) (nan ∷ nan ∷ []) (2 ∷ []) (room 1 1) ≡ afterwards (refused 13) (room 1 1)
unfolding computed
unused_refused = refl
