-- Rules 11 and 8: the trace of flat samples: its refusals, its answer, and what it leaves in the lent lists.
use Rattle.std.specs.Prelude.{Bool, true, Some, None, Option, ◌&&◌, ◌||◌}
use Rattle.std.specs.Prelude.{List, [], ◌∷◌, ◌++◌, ℕ, ◌*◌, eqb, leb, length, Float}
use Rattle.std.specs.Float.{binary64}
use Rattle.std.specs.Float.Ieee.{of_bits}
use Rattle.float.specs.Consts.{zero64}
use Rattle.float.specs.Sign.{at_most}
use Rattle.refusal.specs.declared.Refusal.TheVariants.{Length, Mark, Sample}
use Rattle.refusal.specs.Refusals.{Check, passed, Answer, ok, refused, number_of, unless, and_then}
use Rattle.tolerance.specs.declared.Tolerances.{Tolerances}
use Rattle.tolerance.specs.Tolerance.{tolerances_check}
use Rattle.lent.specs.declared.Counts.{Counts}
use Rattle.lent.specs.Lent.{filled, Afterwards, afterwards, if_passed, counts}
use Rattle.grid.specs.Grid.{grid_check}
use Rattle.param.specs.declared.ParamPoint.{ParamPoint}
use Rattle.param.specs.Param.{cells}
use Rattle.page.specs.declared.TracedPoint.{TracedPoint}
use Rattle.page.specs.Moves.{Outcome, on, off}
use Rattle.page.specs.Page.{Lists, lists}
use Rattle.trace.specs.Curve.{sample, samples_of, marked_point, trace_moves}
use Rattle.trace.specs.Drawing.{Drawing, Room, room_in, nothing_drawn, draw}

-- ---- Rules 11.1, 11.2: the tests before the walk

-- 2, of the samples: two numbers for each mark, and no more than 65,537 marks
abbrev pub samples_length_fits : List Float → List ℕ → Bool
samples_length_fits pairs marks = eqb (length pairs) (2 * length marks) && leb (length marks) 65537

-- refusal 2 of the samples
abbrev pub check_lengths : List Float → List ℕ → Check
check_lengths pairs marks = unless (samples_length_fits pairs marks) Length passed

-- 9: every mark is 0 or 1
unfoldable pub marks_fit : List ℕ → Bool
marks_fit [] = true
marks_fit (k ∷ ks) = (eqb k 0 || eqb k 1) && marks_fit ks

-- 1,048,576, the largest magnitude of a coordinate of a sample
abbrev pub max_sample : Float
max_sample = of_bits binary64 0x4130000000000000

-- a break, whose coordinates are not looked at, or a point, both of whose are finite and at most that in magnitude
abbrev pub sample_fits : Option ParamPoint → Bool
sample_fits None = true
sample_fits (Some p) = at_most p.u max_sample && at_most p.v max_sample

-- 10: every sample fits
-- (lists whose lengths do not belong together are refused before, by 2)
unfoldable pub pairs_fit : List Float → List ℕ → Bool
pairs_fit ps [] = true
pairs_fit [] (k ∷ ks) = true
pairs_fit (u ∷ []) (k ∷ ks) = true
pairs_fit (u ∷ (v ∷ ps)) (k ∷ ks) = sample_fits (marked_point (sample k u v)) && pairs_fit ps ks

-- refusals 1, 2 (grid, then samples), 13, 4, 9 and 10, in this order
unfoldable pub trace_check : List Float → ℕ → ℕ → Tolerances → List Float → List ℕ → Check
trace_check g m n tolerances pairs marks =
    and_then (grid_check g m n (and_then (check_lengths pairs marks) (tolerances_check tolerances)))
    (unless (marks_fit marks) Mark
    (unless (pairs_fit pairs marks) Sample passed))

-- ---- Rules 8.1, 8.2: what stands in the lists

-- what a point puts into each list: three numbers, two, one and one
abbrev pub point_of : TracedPoint → List Float
point_of c = let point = c.crossing.point in point.x ∷ point.y ∷ point.z ∷ []

abbrev pub side_of : TracedPoint → List ℕ
side_of c = c.crossing.p ∷ c.crossing.q ∷ []

abbrev pub fraction_of : TracedPoint → List Float
fraction_of c = c.crossing.t ∷ []

abbrev pub sample_number_of : TracedPoint → List ℕ
sample_number_of c = c.sample ∷ []

-- what elements put there, one after another
unfoldable pub in_turn : {A B : Type 0} → (B → List A) → List B → List A
in_turn f [] = []
in_turn f (b ∷ bs) = f b ++ in_turn f bs

-- the lists after these points and starts: every place past them is zero
abbrev pub lists_with : List TracedPoint → List ℕ → Lists → Lists
lists_with cs ss l =
    lists (filled zero64 (in_turn point_of cs) l.points)
    (filled 0 ss l.starts)
    (filled 0 (in_turn side_of cs) l.sides)
    (filled zero64 (in_turn fraction_of cs) l.fractions)
    (filled 0 (in_turn sample_number_of cs) l.samples)

-- ---- the call

-- the moves of all samples, numbered from 0, with nothing before the first, drawn, where close means by a tolerance
abbrev pub drawing_of : Float → List Float → ℕ → ℕ → List Float → List ℕ → Room → Outcome Drawing
drawing_of tolerance g m n pairs marks room =
    draw tolerance room (trace_moves g (cells m n) 0 (samples_of marks pairs) None) nothing_drawn

-- Rules 8.2, 8.3: the counts and the lists; 11 and 12 leave every place zero
abbrev pub finished : Outcome Drawing → Lists → Afterwards (Answer Counts) Lists
finished (on d) l =
    afterwards (ok (counts (length d.drawn) (length d.starts))) (lists_with d.drawn d.starts l)
finished (off k d) l = afterwards (refused (number_of k)) (lists_with [] [] l)

-- the open call: refusals before the walk leave the lists as they were; neighbouring points of a line are close by the
-- tolerance of lines
unfoldable pub trace_flat : List Float → ℕ → ℕ → Tolerances → List Float → List ℕ → Lists →
    Afterwards (Answer Counts) Lists
trace_flat g m n tolerances pairs marks l =
    if_passed (trace_check g m n tolerances pairs marks) l
    (finished (drawing_of tolerances.line g m n pairs marks (room_in l)) l)
