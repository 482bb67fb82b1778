-- Rules 6.1, 7.1 and 7.5: samples, and the moves of samples in order, whatever the lines are held in.
-- Original: `trace_parametric_edge_curve`.
use Rattle.std.specs.Prelude.{◌≡◌, cond, Some, None, Option}
use Rattle.std.specs.Prelude.{List, [], ◌∷◌, ◌++◌, ℕ, ◌+◌, ◌*◌, ◌≤◌, eqb, length, get_or, Float}
use Rattle.std.specs.Float.{nan}
use Rattle.param.specs.declared.ParamPoint.{ParamPoint}
use Rattle.param.specs.declared.Cells.{Cells}
use Rattle.param.specs.Param.{param, leg}
use Rattle.crossing.specs.declared.Crossing.{Crossing}
use Rattle.page.specs.declared.TracedPoint.{TracedPoint}
use Rattle.page.specs.Moves.{Move, flush}
use Rattle.page.specs.Page.{moves_by}
use Rattle.walk.specs.Walk.{leg_moves}
use Rattle.trace.specs.declared.curve.Visit.{Visit}
use Rattle.trace.specs.declared.curve.Visit.TheVariants.{Break, Along, First}

-- Rules 6.1: a sample is a point if its mark is 1, and a break if it is 0
pub record Sample : Type 0 where
  pub mark : ℕ
  pub point : ParamPoint

abbrev pub sample_at : ℕ → ParamPoint → Sample
sample_at k p = record { mark = k; point = p }

abbrev pub sample : ℕ → Float → Float → Sample
sample k u v = sample_at k (param u v)

-- the samples that a list of marks and a flat list of u and v in turn stand for (lists whose lengths do not belong
-- together are refused before, by 2)
unfoldable pub samples_of : List ℕ → List Float → List Sample
samples_of [] ps = []
samples_of (k ∷ ks) [] = []
samples_of (k ∷ ks) (u ∷ []) = []
samples_of (k ∷ ks) (u ∷ (v ∷ ps)) = sample k u v ∷ samples_of ks ps

-- the pair of sample i in such a flat list
abbrev pub param_at : List Float → ℕ → ParamPoint
param_at ps i = param (get_or ps (2 * i) nan) (get_or ps (2 * i + 1) nan)

-- what inner functions ask for of two such lists: their lengths belong together, and are not too long
abbrev pub SamplesFit : List Float → List ℕ → Type 0
SamplesFit ps ks = (length ps ≡ 2 * length ks) × (length ks ≤ 65537)

-- ---- Rules 7.1 and 7.5

-- the point of a sample, or none of a break
abbrev pub marked_point : Sample → Option ParamPoint
marked_point x = cond (eqb x.mark 0) None (Some x.point)

-- a point with p before it: the end of a leg if p is a point, else a first point
abbrev pub leg_from : Option ParamPoint → ParamPoint → Visit
leg_from (Some a) b = Along (leg a b)
leg_from None b = First

-- what a sample is to the walk, with p before it
abbrev pub visit_of : Option ParamPoint → Option ParamPoint → Visit
visit_of p None = Break
visit_of p (Some b) = leg_from p b

-- a break flushes the pending line, a leg is walked along, a first point does nothing
abbrev pub visit_moves : List Float → Cells → Visit → List (Move Crossing)
visit_moves g k Break = flush ∷ []
visit_moves g k (Along l) = leg_moves g k l
visit_moves g k First = []

-- samples in order, of which the first has number i and p before it, each counted, a break too; a point bears the
-- number of the sample that its leg leads to; after the last sample the pending line is flushed
unfoldable pub trace_moves : List Float → Cells → ℕ → List Sample → Option ParamPoint → List (Move TracedPoint)
trace_moves g k i [] p = flush ∷ []
trace_moves g k i (x ∷ xs) p =
    moves_by i (visit_moves g k (visit_of p (marked_point x))) ++ trace_moves g k (i + 1) xs (marked_point x)
