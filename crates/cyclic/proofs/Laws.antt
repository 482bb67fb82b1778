-- What a search's answer says, for any closeness and any two rows: a found mapping fits at every point, its offset was
-- tried and no earlier one fits, forward was tried before reverse; without one no tried offset fits; and how many
-- comparisons there can be. Each follows by induction on the offsets that are tried.
use Prim.Native.Nat.{ℕ, zero, suc, ◌+◌, ◌*◌, ◌≤◌, ◌<◌}
use native.Mathlib.Nat.{eq-or-lt_of_le, suc-mul, mul_assoc, mul_left_comm, mul-le-mul_right}
use native.Mathlib.Omega.{arith}
use mathlib.Core.Path.{◌≡◌, refl, sym, subst, ◌∙◌}
use mathlib.Core.Logic.{⊎_elim}
use mathlib.Core.Bool.{Bool, true, false, ◌&&◌, true≢false, cond}
use Rattle.std.specs.Prelude.{Some, None}
use Rattle.basics.proofs.Tests.{cond_keeps}
use Rattle.cyclic.specs.declared.mapping.CyclicMapping.{CyclicMapping}
use Rattle.cyclic.specs.declared.mapping.CyclicMapping.TheVariants.{Forward, Reverse}
use Rattle.cyclic.specs.declared.seam.SeamSearch.{SeamSearch}
use Rattle.cyclic.specs.declared.seam.Tried.{Tried}
use Rattle.cyclic.specs.Mapping.{Seam, image, offset_of, steps_of, is_reverse}
use Rattle.cyclic.specs.Search.{Row, Closeness, tried, searched, try_from, closed, search_from, search_rows}

-- point j of a is close to its image
abbrev pub CloseAt : Closeness → Row → Row → CyclicMapping → ℕ → Type 0
CloseAt close a b m j = close (a j) (b (image m j)) ≡ true

-- row a fits row b by m: each point of a is close to its image
abbrev pub Fits : Closeness → Row → Row → CyclicMapping → Type 0
Fits close a b m = (j : ℕ) → j ≤ steps_of m → CloseAt close a b m j

-- offset o fits neither way
abbrev pub Neither : Closeness → Row → Row → ℕ → ℕ → Type 0
Neither close a b n o = (Fits close a b (Forward o n) → ⊥) × (Fits close a b (Reverse o n) → ⊥)

-- how many offsets are tried: all where both rows are closed, else offset 0
abbrev pub offsets_tried : Closeness → Row → Row → ℕ → ℕ
offsets_tried close a b n = cond (close (a 0) (a n) && close (b 0) (b n)) n 1

-- the mapping that a search of k offsets from o on finds
pub record Joins (close : Closeness) (a b : Row) (n o k : ℕ) (m : CyclicMapping) : Type 0 where
  pub steps : steps_of m ≡ n
  pub least : o ≤ offset_of m
  pub below : offset_of m < o + k
  pub fits : Fits close a b m
  pub earlier : (i : ℕ) → o ≤ i → i < offset_of m → Neither close a b n i
  pub not_forward : is_reverse m ≡ true → Fits close a b (Forward (offset_of m) n) → ⊥

-- what such a search says by its answer
abbrev pub Outcome : Closeness → Row → Row → ℕ → ℕ → ℕ → Seam → Type 0
Outcome close a b n o k (Some m) = Joins close a b n o k m
Outcome close a b n o k None = (i : ℕ) → o ≤ i → i < o + k → Neither close a b n i

-- the answer at offset o: forward, then reverse, then what is left
abbrev one_offset : ℕ → ℕ → Tried → Tried → SeamSearch → SeamSearch
one_offset n o f r s =
    cond f.fits (searched (Some (Forward o n)) f.made)
    (cond r.fits (searched (Some (Reverse o n)) r.made) s)

-- as many offsets as steps at most
pub offsets_most : (n : ℕ) (t : Bool) → 1 ≤ n → cond t n 1 ≤ n
offsets_most n t l = cond_keeps (λ (k : ℕ). k ≤ n) t n 1 (omega arith) l

module _ (close : Closeness) (a b : Row) where
  -- Points

  -- k + 1 points fit: the first is close, and the others fit
  first_close : (m : CyclicMapping) (k j c : ℕ) → (try_from close a b m (suc k) j c).fits ≡ true →
      CloseAt close a b m j × ((try_from close a b m k (j + 1) (c + 1)).fits ≡ true)
  unfolding try_from
  first_close m k j c = go (close (a j) (b (image m j)))
    where
      go : (t : Bool) → (cond t (try_from close a b m k (j + 1) (c + 1)) (tried false (c + 1))).fits ≡ true →
          (t ≡ true) × ((try_from close a b m k (j + 1) (c + 1)).fits ≡ true)
      go true h = (refl, h)
      go false h = absurd (true≢false (sym h))

  tried_close : (m : CyclicMapping) (k j c : ℕ) → (try_from close a b m k j c).fits ≡ true → (i : ℕ) → j ≤ i → i < j + k →
      CloseAt close a b m i
  tried_close m zero j c h i l g = absurd (omega arith)
  tried_close m (suc k) j c h i l g =
      let t = first_close m k j c h in
      ⊎_elim (λ e. rw (← e) t.0) (λ e. tried_close m k (j + 1) (c + 1) t.1 i (omega arith) (omega arith))
      (eq-or-lt_of_le l)

  close_tried : (m : CyclicMapping) (k j c : ℕ) → ((i : ℕ) → j ≤ i → i < j + k → CloseAt close a b m i) →
      (try_from close a b m k j c).fits ≡ true
  unfolding try_from
  close_tried m zero j c f = refl
  close_tried m (suc k) j c f =
      rw (f j (omega arith) (omega arith)) (close_tried m k (j + 1) (c + 1) (λ i l g. f i (omega arith) (omega arith)))

  made_most : (m : CyclicMapping) (k j c : ℕ) → (try_from close a b m k j c).made ≤ c + k
  unfolding try_from
  made_most m zero j c = omega arith
  made_most m (suc k) j c =
      let h = made_most m k (j + 1) (c + 1) in
      cond_keeps (λ (t : Tried). t.made ≤ c + suc k) (close (a j) (b (image m j))) _ _ (omega arith) (omega arith)

  -- t tells whether row a fits row b by m
  abbrev pub Tells : CyclicMapping → Tried → Type 0
  Tells m t = (t.fits ≡ true → Fits close a b m) × (t.fits ≡ false → Fits close a b m → ⊥)

  -- and so does trying all points
  pub tells : (m : CyclicMapping) (c : ℕ) → Tells m (try_from close a b m (steps_of m + 1) 0 c)
  tells m c = (
    λ h j l. tried_close m (steps_of m + 1) 0 c h j (omega arith) (omega arith),
    λ h f. true≢false (sym (close_tried m (steps_of m + 1) 0 c (λ i l g. f i (omega arith))) ∙ h),
  )

  -- Offsets

  -- one offset more in front, which fits neither way
  extend : (n o k : ℕ) (s : Seam) → Neither close a b n o → Outcome close a b n (o + 1) k s →
      Outcome close a b n o (suc k) s
  extend n o k (Some m) h t =
      record {
        steps = t.steps;
        least = omega (arith, t.least);
        below = omega (arith, t.below);
        fits = t.fits;
        earlier = λ i l g. ⊎_elim (λ e. rw (← e) h) (λ e. t.earlier i (omega arith) g) (eq-or-lt_of_le l);
        not_forward = t.not_forward;
      }
  extend n o k None h t =
      λ i l g. ⊎_elim (λ e. rw (← e) h) (λ e. t i (omega arith) (omega arith)) (eq-or-lt_of_le l)

  -- a mapping at the first offset
  joins_first : (n k : ℕ) (m : CyclicMapping) → steps_of m ≡ n → Fits close a b m →
      (is_reverse m ≡ true → Fits close a b (Forward (offset_of m) n) → ⊥) →
      Joins close a b n (offset_of m) (suc k) m
  joins_first n k m e f g =
      record {
        steps = e;
        least = omega arith;
        below = omega arith;
        fits = f;
        earlier = λ i l h. absurd (omega arith);
        not_forward = g;
      }

  one_offset_lem : (n o k : ℕ) (f r : Tried) (s : SeamSearch) → Tells (Forward o n) f → Tells (Reverse o n) r →
      Outcome close a b n (o + 1) k s.seam →
      Outcome close a b n o (suc k) (one_offset n o f r s).seam
  one_offset_lem n o k f r s tf tr t = go f.fits r.fits refl refl
    where
      go : (x y : Bool) → f.fits ≡ x → r.fits ≡ y →
          Outcome close a b n o (suc k)
          (cond x (searched (Some (Forward o n)) f.made)
          (cond y (searched (Some (Reverse o n)) r.made) s)).seam
      go true y e g = joins_first n k (Forward o n) refl (tf.0 e) (λ h. absurd (true≢false (sym h)))
      go false true e g = joins_first n k (Reverse o n) refl (tr.0 g) (λ h. tf.1 e)
      go false false e g = extend n o k s.seam (tf.1 e, tr.1 g) t

  outcome_from : (n k o c : ℕ) → Outcome close a b n o k (search_from close a b n k o c).seam
  unfolding search_from
  outcome_from n zero o c = λ i l g. absurd (omega arith)
  outcome_from n (suc k) o c =
      let f = try_from close a b (Forward o n) (n + 1) 0 c in
      let r = try_from close a b (Reverse o n) (n + 1) 0 f.made in
      one_offset_lem n o k f r (search_from close a b n k (o + 1) r.made) (tells (Forward o n) c)
      (tells (Reverse o n) f.made)
      (outcome_from n k (o + 1) r.made)

  -- whether the rows are closed, as Rules 3.2 says it
  pub closed_both : (n : ℕ) → (closed close a b n).fits ≡ close (a 0) (a n) && close (b 0) (b n)
  unfolding closed
  closed_both n = go (close (a 0) (a n))
    where
      go : (t : Bool) → (cond t (tried (close (b 0) (b n)) 2) (tried false 1)).fits ≡ t && close (b 0) (b n)
      go true = refl
      go false = refl

  -- what a search's answer says
  pub outcome : (n : ℕ) → Outcome close a b n 0 (offsets_tried close a b n) (search_rows close a b n).seam
  unfolding search_rows
  outcome n = rw (← closed_both n) (outcome_from n (cond (closed close a b n).fits n 1) 0 (closed close a b n).made)

  -- A mapping was found

  pub found : (n : ℕ) {m : CyclicMapping} → (search_rows close a b n).seam ≡ Some m →
      Joins close a b n 0 (offsets_tried close a b n) m
  found n e = subst (Outcome close a b n 0 (offsets_tried close a b n)) e (outcome n)

  -- its steps are the rows'
  pub found_steps : (n : ℕ) {m : CyclicMapping} → (search_rows close a b n).seam ≡ Some m → steps_of m ≡ n
  found_steps n e = (found n e).steps

  -- its offset is below steps
  pub found_below : (n : ℕ) {m : CyclicMapping} → 1 ≤ n → (search_rows close a b n).seam ≡ Some m → offset_of m < n
  found_below n l e = omega (arith, (found n e).below, offsets_most n (close (a 0) (a n) && close (b 0) (b n)) l)

  -- it fits at every point
  pub found_fits : (n : ℕ) {m : CyclicMapping} → (search_rows close a b n).seam ≡ Some m → Fits close a b m
  found_fits n e = (found n e).fits

  -- no earlier offset fits either way
  pub found_first : (n : ℕ) {m : CyclicMapping} → (search_rows close a b n).seam ≡ Some m → (o : ℕ) → o < offset_of m →
      Neither close a b n o
  found_first n e o l = (found n e).earlier o (omega arith) l

  -- where reverse was found, forward does not fit at its offset
  pub found_not_forward : (n o : ℕ) → (search_rows close a b n).seam ≡ Some (Reverse o n) →
      Fits close a b (Forward o n) → ⊥
  found_not_forward n o e = (found n e).not_forward refl

  -- there is no mapping if and only if none of the offsets tried fits in either direction

  pub none_fits : (n : ℕ) → (search_rows close a b n).seam ≡ None → (o : ℕ) → o < offsets_tried close a b n →
      Neither close a b n o
  none_fits n e o l =
      subst (Outcome close a b n 0 (offsets_tried close a b n)) e (outcome n) o (omega arith) (omega arith)

  pub none_found : (n : ℕ) → ((o : ℕ) → o < offsets_tried close a b n → Neither close a b n o) →
      (search_rows close a b n).seam ≡ None
  none_found n f = go (search_rows close a b n).seam (outcome n)
    where
      either : (m : CyclicMapping) → steps_of m ≡ n → Fits close a b m → Neither close a b n (offset_of m) → ⊥
      either (Forward o k) e g h = h.0 (rw e at g)
      either (Reverse o k) e g h = h.1 (rw e at g)

      go : (s : Seam) → Outcome close a b n 0 (offsets_tried close a b n) s → s ≡ None
      go (Some m) t = absurd (either m t.steps t.fits (f (offset_of m) (omega (arith, t.below))))
      go None t = refl

  -- Comparisons: at most 2 for the ends, and 2·(n + 1) at each offset

  one_offset_most : (n o : ℕ) (f r : Tried) (s : SeamSearch) (t : ℕ) → f.made ≤ t → r.made ≤ t → s.comparisons ≤ t →
      (one_offset n o f r s).comparisons ≤ t
  one_offset_most n o f r s t hf hr hs =
      cond_keeps (λ (x : SeamSearch). x.comparisons ≤ t) f.fits _ _ hf
      (cond_keeps (λ (x : SeamSearch). x.comparisons ≤ t) r.fits _ _ hr hs)

  count_from : (n k o c : ℕ) → (search_from close a b n k o c).comparisons ≤ c + k * (2 * (n + 1))
  unfolding search_from
  count_from n zero o c = omega arith
  count_from n (suc k) o c =
      let f = try_from close a b (Forward o n) (n + 1) 0 c in
      let r = try_from close a b (Reverse o n) (n + 1) 0 f.made in
      let hf = made_most (Forward o n) (n + 1) 0 c in
      let hr = made_most (Reverse o n) (n + 1) 0 f.made in
      let hs = count_from n k (o + 1) r.made in
      let e = suc-mul k (2 * (n + 1)) in
      one_offset_most n o f r (search_from close a b n k (o + 1) r.made) (c + suc k * (2 * (n + 1))) (omega arith)
      (omega arith) (omega arith)

  pub ends_most : (n : ℕ) → (closed close a b n).made ≤ 2
  unfolding closed
  ends_most n = cond_keeps (λ (t : Tried). t.made ≤ 2) (close (a 0) (a n)) _ _ (omega arith) (omega arith)

  pub count_most : (n : ℕ) → 1 ≤ n → (search_rows close a b n).comparisons ≤ 2 + 2 * n * (n + 1)
  unfolding search_rows
  count_most n l =
      let k = cond (closed close a b n).fits n 1 in
      let h = count_from n k 0 (closed close a b n).made in
      let e : k ≤ n = offsets_most n (closed close a b n).fits l in
      omega (arith, ends_most n, mul-le-mul_right (2 * (n + 1)) e, mul_left_comm n 2 (n + 1), mul_assoc 2 n (n + 1))
