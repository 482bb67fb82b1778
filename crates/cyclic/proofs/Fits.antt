-- What it means that a seam fits two rows, for any closeness; and the seam that a search finds does: its offset was
-- tried, and each point was found close.
use Prim.Native.Nat.{ℕ, ◌+◌, ◌≤◌, ◌<◌}
use native.Mathlib.Omega.{arith}
use mathlib.Core.Path.{◌≡◌, refl, sym, ◌∙◌}
use mathlib.Core.Logic.{⊎_elim}
use mathlib.Core.Bool.{Bool, true, false, ◌&&◌, ◌||◌, true≢false, cond}
use lib.Dec.{eqb, ltb}
use borrow.Author.Tests.{eqb-true, ltb-true, eq-eqb, lt-ltb}
use Rattle.std.specs.Prelude.{Some, None}
use Rattle.basics.proofs.Tests.{and_both, or_one, must, cannot}
use Rattle.cyclic.specs.declared.mapping.CyclicMapping.{CyclicMapping}
use Rattle.cyclic.specs.Mapping.{Seam, image, offset_of, steps_of}
use Rattle.cyclic.specs.Search.{Row, Closeness, closed, search_rows}
use Rattle.cyclic.specs.Fits.{of_rows, offset_tried, points_fit, seam_fits}
use Rattle.cyclic.proofs.Mappings.{image_within}
use Rattle.cyclic.proofs.Remains.{Run}
use Rattle.cyclic.proofs.Laws.{Fits, offsets_tried, tells, closed_both, found, found_below}

-- both rows are closed
abbrev pub BothClosed : Closeness → Row → Row → ℕ → Type 0
BothClosed close a b n = (close (a 0) (a n) ≡ true) × (close (b 0) (b n) ≡ true)

-- a mapping of rows of n steps that fits them
pub record Fitting (close : Closeness) (a b : Row) (n : ℕ) (m : CyclicMapping) : Type 0 where
  pub steps : steps_of m ≡ n
  pub below : offset_of m < n
  pub closed_off_zero : (offset_of m ≡ 0 → ⊥) → BothClosed close a b n
  pub fits : Fits close a b m

-- a mapping of rows of n steps
pub rows_known : (n : ℕ) (m : CyclicMapping) → of_rows n m ≡ true → (steps_of m ≡ n) × (offset_of m < n)
rows_known n m h =
    let own = and_both (eqb (steps_of m) n) (ltb (offset_of m) n) h in
    (eqb-true (steps_of m) n own.0, ltb-true (offset_of m) n own.1)

module _ (close : Closeness) (a b : Row) (n : ℕ) where
  both_closed : (closed close a b n).fits ≡ true → BothClosed close a b n
  both_closed h = and_both (close (a 0) (a n)) (close (b 0) (b n)) (sym (closed_both close a b n) ∙ h)

  closed_is : BothClosed close a b n → (closed close a b n).fits ≡ true
  closed_is h = closed_both close a b n ∙ rw (h.0, h.1)

  -- what the test says is what is meant
  pub fits_known : (m : CyclicMapping) → seam_fits close a b n (Some m) ≡ true → Fitting close a b n m
  unfolding seam_fits
  fits_known m h =
      let all = and_both (of_rows n m) (offset_tried close a b n (offset_of m) && points_fit close a b m) h in
      let own = rows_known n m all.0 in
      let rest = and_both (offset_tried close a b n (offset_of m)) (points_fit close a b m) all.1 in
      record {
        steps = own.0;
        below = own.1;
        closed_off_zero =
            λ off. ⊎_elim (λ e. absurd (off (eqb-true (offset_of m) 0 e))) both_closed
            (or_one (eqb (offset_of m) 0) (closed close a b n).fits rest.0);
        fits = (tells close a b m 0).0 rest.1;
      }

  pub known_fits : (m : CyclicMapping) → Fitting close a b n m → seam_fits close a b n (Some m) ≡ true
  unfolding seam_fits
  known_fits m k =
      let own : of_rows n m ≡ true = rw (eq-eqb (steps_of m) n k.steps, lt-ltb (offset_of m) n k.below) in
      rw (own, offset_tried_lem, points_fit_lem)
    where
      offset_tried_lem : offset_tried close a b n (offset_of m) ≡ true
      offset_tried_lem = go (eqb (offset_of m) 0) refl
        where
          go : (t : Bool) → eqb (offset_of m) 0 ≡ t → t || (closed close a b n).fits ≡ true
          go true e = refl
          go false e = closed_is (k.closed_off_zero (λ z. true≢false (sym (eq-eqb (offset_of m) 0 z) ∙ e)))

      points_fit_lem : points_fit close a b m ≡ true
      points_fit_lem = must (points_fit close a b m) (λ e. (tells close a b m 0).1 e k.fits)

  -- the offsets that a search tries are 0 and, where the rows are closed, all others
  tried_closed : (o : ℕ) → o < offsets_tried close a b n → (o ≡ 0 → ⊥) → BothClosed close a b n
  tried_closed o h off = go (close (a 0) (a n) && close (b 0) (b n)) refl h
    where
      go : (t : Bool) → close (a 0) (a n) && close (b 0) (b n) ≡ t → o < cond t n 1 → BothClosed close a b n
      go true e l = and_both (close (a 0) (a n)) (close (b 0) (b n)) e
      go false e l = absurd (off (omega arith))

  -- the points tried: all of them fit, or one does not
  pub all_close : (m : CyclicMapping) → Run close a b m (steps_of m + 1) → points_fit close a b m ≡ true
  all_close m f = must (points_fit close a b m) (λ e. (tells close a b m 0).1 e (λ j l. f j (omega arith)))

  pub one_apart : (m : CyclicMapping) (j : ℕ) → j ≤ steps_of m → close (a j) (b (image m j)) ≡ false →
      points_fit close a b m ≡ false
  one_apart m j l h =
      cannot (points_fit close a b m) (λ e. true≢false (sym ((tells close a b m 0).0 e j l) ∙ h))

  -- None always fits
  none_fits : seam_fits close a b n None ≡ true
  unfolding seam_fits
  none_fits = refl

  -- what a search finds fits
  pub found_fit : 1 ≤ n → seam_fits close a b n (search_rows close a b n).seam ≡ true
  found_fit h = go (search_rows close a b n).seam refl
    where
      go : (s : Seam) → (search_rows close a b n).seam ≡ s → seam_fits close a b n s ≡ true
      go None e = none_fits
      go (Some m) e =
          let f = found close a b n e in
          known_fits m
          (record {
            steps = f.steps;
            below = found_below close a b n h e;
            closed_off_zero = tried_closed (offset_of m) (omega (arith, f.below));
            fits = f.fits;
          })

-- for a loop over the points of a mapping
pub ruleset by_points = (image_within, all_close, one_apart)
