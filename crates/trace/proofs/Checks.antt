-- The tests of the marks and of the points, and what a trace that passes all tests is known by.
use mathlib.Core.Path.{◌≡◌, refl}
use mathlib.Core.Bool.{Bool, true, ◌&&◌, ◌||◌}
use mathlib.Core.List.{List, [], ◌∷◌}
use Prim.Native.Nat.{ℕ, zero, suc, ◌+◌, ◌*◌, ◌≤◌, ◌<◌}
use native.Mathlib.Numerals.{add-one}
use lib.Dec.{eqb, leb}
use lib.ListN.{length, get_or, drop, drop_of_length-le}
use lib.Seq.{drop-cons}
use lib.Ieee.{Float, nan}
use borrow.Author.Tests.{ne_eqb, eqb-true, leb-true}
use Rattle.std.specs.List.{list_all, range_with_len}
use Rattle.std.proofs.Common.{arith}
use Rattle.std.proofs.lemmas.Bool.Decides.{nat_tests}
use Rattle.basics.proofs.Tests.{and_both}
use Rattle.refusal.specs.declared.Refusal.TheVariants.{Length, Mark, Sample}
use Rattle.refusal.specs.Refusals.{Check, passed, unless, and_then}
use Rattle.refusal.proofs.Laws.{unless_passed, then_passed}
use Rattle.tolerance.specs.declared.Tolerances.{Tolerances}
use Rattle.tolerance.specs.Tolerance.{tolerances_check}
use Rattle.grid.specs.Grid.{grid_check}
use Rattle.grid.proofs.Laws.{Shaped, grid_passed}
use Rattle.trace.specs.Curve.{sample_at, param_at, marked_point}
use Rattle.trace.specs.Trace.{samples_length_fits, check_lengths, marks_fit, sample_fits, pairs_fit, trace_check}

-- ---- the tests of the code

mark_at_most : (k : ℕ) → leb k 1 ≡ (eqb k 0 || eqb k 1)
mark_at_most k = grind (arith, nat_tests)

pub marks_at_most : (ks : List ℕ) → list_all (λ k. leb k 1) ks ≡ marks_fit ks
unfolding marks_fit
marks_at_most [] = refl
marks_at_most (k ∷ ks) = rw (mark_at_most k, marks_at_most ks)

module _ (ps : List Float) (ks : List ℕ) (e : length ps ≡ 2 * length ks) where
  abbrev pub fits_at : ℕ → Bool
  fits_at i = sample_fits (marked_point (sample_at (get_or ks i 0) (param_at ps i)))

  -- those from i on: the one at i, and those after it
  pair_here : (i : ℕ) → i < length ks → pairs_fit (drop (2 * i) ps) (drop i ks)
      ≡ (fits_at i && pairs_fit (drop (2 * (i + 1)) ps) (drop (i + 1) ks))
  unfolding pairs_fit
  pair_here i h =
      let a : 2 * i < length ps = omega arith in
      let b : suc (2 * i) < length ps = omega arith in
      let q : 2 * (i + 1) ≡ suc (suc (2 * i)) = omega arith in
      let o : 2 * i + 1 ≡ suc (2 * i) = omega arith in
      rw (q, o, add-one, drop-cons ks i 0, drop-cons ps (2 * i) nan, drop-cons ps (suc (2 * i)) nan)

  from : (i n : ℕ) → i + n ≡ length ks → list_all fits_at (range_with_len i n) ≡ pairs_fit (drop (2 * i) ps) (drop i ks)
  unfolding pairs_fit
  from i zero t = let past : length ks ≤ i = omega arith in rw (drop_of_length-le ks past)
  from i (suc n) t = rw (pair_here i (omega arith), from (i + 1) n (omega arith))

  pub pairs_in_turn : list_all fits_at (range_with_len 0 (length ks)) ≡ pairs_fit ps ks
  pairs_in_turn = from 0 (length ks) (omega arith)

-- ---- what a trace that passes is known by

fit_one : (ks : List ℕ) → marks_fit ks ≡ true → (i : ℕ) → (get_or ks i 0 ≡ 0 → ⊥) → get_or ks i 0 ≡ 1
unfolding marks_fit
fit_one [] f i h = absurd (h refl)
fit_one (k ∷ ks) f zero h =
    let e : (eqb k 0 || eqb k 1) ≡ true = (and_both (eqb k 0 || eqb k 1) (marks_fit ks) f).0 in
    eqb-true k 1 (simp (ne_eqb k 0 h) at e)
fit_one (k ∷ ks) f (suc i) h = fit_one ks (and_both (eqb k 0 || eqb k 1) (marks_fit ks) f).1 i h

module _ (g : List Float) (m n : ℕ) (tolerances : Tolerances) (pairs : List Float) (marks : List ℕ)
    (h : trace_check g m n tolerances pairs marks ≡ passed) where
  -- what is tested of the grid, with what the call itself tests after 2 and before 4
  abbrev own : Check
  own = and_then (check_lengths pairs marks) (tolerances_check tolerances)

  abbrev after : Check
  after = unless (marks_fit marks) Mark (unless (pairs_fit pairs marks) Sample passed)

  parts : (grid_check g m n own ≡ passed) × (after ≡ passed)
  unfolding trace_check
  parts = then_passed (grid_check g m n own) after h

  -- its grid has the points of its cells, and its samples' lengths belong together
  pub checked : Shaped g m n × (length pairs ≡ 2 * length marks) × (length marks ≤ 65537)
  checked =
      let grid = grid_passed g m n own parts.0 in
      let lengths = (then_passed (check_lengths pairs marks) (tolerances_check tolerances) grid.own).0 in
      let fit = (unless_passed (samples_length_fits pairs marks) Length passed lengths).0 in
      let l = and_both (eqb (length pairs) (2 * length marks)) (leb (length marks) 65537) fit in
      (grid.shaped, eqb-true (length pairs) (2 * length marks) l.0, leb-true (length marks) 65537 l.1)

  -- its marks are 0 or 1, so one that is not 0 is 1
  pub mark_one : (i : ℕ) → (get_or marks i 0 ≡ 0 → ⊥) → get_or marks i 0 ≡ 1
  mark_one =
      fit_one marks (unless_passed (marks_fit marks) Mark (unless (pairs_fit pairs marks) Sample passed) parts.1).0
