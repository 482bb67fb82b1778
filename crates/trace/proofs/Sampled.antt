-- One sample by what it is, and one turn of the trace over the samples: those from i on are the one at i and those
-- after it.
use mathlib.Core.Path.{◌≡◌, refl, ap, sym, ◌∙◌}
use mathlib.Core.List.{List, [], ◌∷◌}
use Prim.Native.Nat.{ℕ, zero, suc, ◌+◌, ◌*◌, ◌≤◌, ◌<◌}
use native.Mathlib.Numerals.{add-one}
use native.Mathlib.Omega.{arith}
use lib.ListN.{length, drop, get_or, drop_of_length-le}
use lib.Seq.{drop-cons}
use lib.Ieee.{Float, nan}
use Rattle.std.specs.Prelude.{Option, Ok, Err}
use Rattle.refusal.specs.declared.Refusal.{Refusal}
use Rattle.refusal.specs.Refusals.{Check}
use Rattle.param.specs.declared.ParamPoint.{ParamPoint}
use Rattle.param.specs.declared.Cells.{Cells}
use Rattle.page.specs.declared.Sheet.{Sheet}
use Rattle.page.specs.Moves.{flush, Outcome, on, follow}
use Rattle.page.specs.Page.{moves_by, Page, flush_page, on_page}
use Rattle.page.specs.Sheets.{page_of, outcome_of}
use Rattle.page.proofs.Follow.{down, stops, page_append, page_none, page_one}
use Rattle.walk.specs.Walk.{leg_moves}
use Rattle.trace.specs.declared.curve.Visit.{Visit}
use Rattle.trace.specs.declared.curve.Visit.TheVariants.{Break, Along, First}
use Rattle.trace.specs.Curve.{Sample, sample_at, sample, samples_of, param_at, marked_point, visit_of}
use Rattle.trace.specs.Curve.{visit_moves, trace_moves}

-- ---- one sample, by what it is

module _ (tolerance : Float) (number : ℕ) (g : List Float) (k : Cells) where
  abbrev visited : Visit → Page → Outcome Page
  visited Break w = flush_page w
  visited (Along l) w = on_page tolerance (moves_by number (leg_moves g k l)) w
  visited First w = on w

  pub visit_drawn : (v : Visit) (w : Page) →
      on_page tolerance (moves_by number (visit_moves g k v)) w ≡ visited v w
  visit_drawn Break w = page_one tolerance flush w
  visit_drawn (Along l) w = refl
  visit_drawn First w = page_none tolerance w

-- ---- the list of samples

samples_length : (ks : List ℕ) (ps : List Float) → length ps ≡ 2 * length ks → length (samples_of ks ps) ≡ length ks
unfolding samples_of
samples_length [] ps h = refl
samples_length (k ∷ ks) [] h = absurd (omega arith)
samples_length (k ∷ ks) (u ∷ []) h = absurd (omega arith)
samples_length (k ∷ ks) (u ∷ (v ∷ ps)) h = ap suc (samples_length ks ps (omega arith))

samples_at : (ks : List ℕ) (ps : List Float) (i : ℕ) (z : Sample) → length ps ≡ 2 * length ks → i < length ks →
    get_or (samples_of ks ps) i z ≡ sample_at (get_or ks i 0) (param_at ps i)
unfolding samples_of
samples_at [] ps i z h t = absurd (omega arith)
samples_at (k ∷ ks) [] i z h t = absurd (omega arith)
samples_at (k ∷ ks) (u ∷ []) i z h t = absurd (omega arith)
samples_at (k ∷ ks) (u ∷ (v ∷ ps)) zero z h t = refl
samples_at (k ∷ ks) (u ∷ (v ∷ ps)) (suc i) z h t =
    let e : 2 * suc i ≡ suc (suc (2 * i)) = omega arith in
    let q : 2 * suc i + 1 ≡ suc (suc (2 * i + 1)) = omega arith in
    rw (q, e) (samples_at ks ps i z (omega arith) (omega arith))

module _ (tolerance : Float) (g : List Float) (k : Cells) (ks : List ℕ) (ps : List Float) where
  -- what is left of the trace: the samples from i on, with p before them
  abbrev pub left : ℕ → Option ParamPoint → Page → Outcome Page
  left i p = on_page tolerance (trace_moves g k i (drop i (samples_of ks ps)) p)

  module _ (h : length ps ≡ 2 * length ks) (i : ℕ) (p : Option ParamPoint) (w : Page) where
    pub trace_flushes : length ks ≤ i → left i p w ≡ flush_page w
    unfolding trace_moves
    trace_flushes t =
        let past : length (samples_of ks ps) ≤ i = omega (arith, samples_length ks ps h) in
        rw (drop_of_length-le (samples_of ks ps) past) (page_one tolerance flush w)

    -- sample i, with what its calls say of it, and what is left then
    pub trace_turn : {o : Option ParamPoint} {v : Visit} (r : Check) (s : Sheet) → i < length ks →
        o ≡ marked_point (sample_at (get_or ks i 0) (param_at ps i)) → v ≡ visit_of p o →
        outcome_of r s ≡ on_page tolerance (moves_by i (visit_moves g k v)) w →
        left i p w ≡ follow (outcome_of r s) (left (i + 1) o)
    unfolding trace_moves
    trace_turn {o} {v} r s t eo ev er =
        let z = sample 0 nan nan in
        let x = sample_at (get_or ks i 0) (param_at ps i) in
        let there : i < length (samples_of ks ps) = omega (arith, samples_length ks ps h) in
        let first : drop i (samples_of ks ps) ≡ x ∷ drop (i + 1) (samples_of ks ps) =
        rw (add-one i, drop-cons (samples_of ks ps) i z there, samples_at ks ps i z h t) in
        rw (first, er, ev, eo)
        (page_append tolerance (moves_by i (visit_moves g k (visit_of p (marked_point x))))
        (trace_moves g k (i + 1) (drop (i + 1) (samples_of ks ps)) (marked_point x)) w)

    -- where the calls of sample i go on, so does the trace, from the page that they leave; where they refuse, it is refused
    module _ {o : Option ParamPoint} {v : Visit} (r : Check) (s : Sheet) (t : i < length ks)
        (eo : o ≡ marked_point (sample_at (get_or ks i 0) (param_at ps i))) (ev : v ≡ visit_of p o)
        (er : outcome_of r s ≡ on_page tolerance (moves_by i (visit_moves g k v)) w)
      where
        pub trace_goes : {u : Unit} → r ≡ Ok u → left i p w ≡ left (i + 1) o (page_of s)
        trace_goes e = trace_turn r s t eo ev er ∙ down (outcome_of r s) (left (i + 1) o) r s refl e

        pub trace_stops : {n : Refusal} → r ≡ Err n → outcome_of (Err n) s ≡ left i p w
        trace_stops e = stops (outcome_of r s) (left (i + 1) o) r s refl e ∙ sym (trace_turn r s t eo ev er)
