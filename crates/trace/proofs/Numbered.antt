-- The numbers beside the points. The moves of sample i bear the number i, and only a sample that ends a leg pushes
-- points; samples are walked in order, so no point is drawn after one with a higher number.
use Rattle.std.specs.Prelude.{Some, None, Option, Ok, Err}
use Rattle.refusal.specs.Refusals.{Check}
use mathlib.Core.Path.{◌≡◌, refl}
use mathlib.Core.Bool.{Bool, true, false, cond}
use mathlib.Core.List.{List, [], ◌∷◌, ◌++◌, append-nil, append_assoc}
use Prim.Native.Nat.{ℕ, zero, suc, ◌+◌, ◌-◌, ◌≤◌, ◌<◌}
use native.Mathlib.Nat.{add-zero, zero-add}
use native.Mathlib.Omega.{arith}
use lib.Dec.{eqb}
use lib.ListN.{length, get_or}
use lib.Ieee.{Float}
use borrow.Author.Tests.{eqb-false}
use Rattle.tolerance.specs.declared.Tolerances.{Tolerances}
use Rattle.lent.specs.Lent.{if_passed}
use Rattle.param.specs.declared.ParamPoint.{ParamPoint}
use Rattle.param.specs.declared.Cells.{Cells}
use Rattle.param.specs.Param.{leg, cells}
use Rattle.crossing.specs.declared.Crossing.{Crossing}
use Rattle.page.specs.declared.TracedPoint.{TracedPoint}
use Rattle.page.specs.Moves.{Outcome, on, off}
use Rattle.page.specs.Page.{Lists, traced_by, moves_by}
use Rattle.page.proofs.Moves.{run_append, AllPushed, none, flushing, both, mapped, all_pushed, Holding, follow_holds}
use Rattle.walk.specs.Walk.{leg_moves}
use Rattle.trace.specs.Curve.{Sample, sample, samples_of, marked_point, visit_of, visit_moves, trace_moves}
use Rattle.trace.specs.Drawing.{Drawing, nothing_drawn, Room, room_in, push_segment_point, flush_segment, draw}
use Rattle.trace.specs.Trace.{trace_check, drawing_of, finished, trace_flat}
use Rattle.trace.specs.Demand.{EachPoint}
use Rattle.trace.specs.Numbers.{sample_number, EndsLeg, NeverFall, NumbersMet}
use Rattle.trace.proofs.Checks.{mark_one}
use Rattle.trace.proofs.Shown.{all}
use Rattle.trace.proofs.Keeps.{draw_keeps}
use Rattle.trace.proofs.Drawn.{drawn_good}
use Rattle.trace.proofs.Points.{no_point, stands, each_point}

-- ---- only a sample that ends a leg pushes points

-- the number of a point is of such a sample
abbrev AtLegEnd : List ℕ → TracedPoint → Type 0
AtLegEnd marks c = EndsLeg marks c.sample

module _ (g : List Float) (k : Cells) (marks : List ℕ)
    (one : (i : ℕ) → (get_or marks i 0 ≡ 0 → ⊥) → get_or marks i 0 ≡ 1)
  where
    -- what p says of the sample before sample i
    abbrev Before : ℕ → Option ParamPoint → Type 0
    Before i (Some a) = (1 ≤ i) × (get_or marks (i - 1) 0 ≡ 1)
    Before i None = Unit {0}

    module _ (i : ℕ) (below : i < length marks) where
      -- what holds of each crossing that sample i pushes: it does not depend on the crossing
      abbrev Pushed : Crossing → Type 0
      Pushed c = EndsLeg marks i

      point_ends : (p : Option ParamPoint) (b : ParamPoint) → Before i p → get_or marks i 0 ≡ 1 →
          AllPushed Pushed (visit_moves g k (visit_of p (Some b)))
      point_ends (Some a) b h e =
          all_pushed Pushed
          (λ c. record { not_first = h.0; below = below; point = e; point_before = h.1 }) (leg_moves g k (leg a b))
      point_ends None b h e = none

      -- sample i, whose mark is m
      visit_ends : (m : ℕ) (u v : Float) (p : Option ParamPoint) → Before i p → get_or marks i 0 ≡ m →
          AllPushed Pushed (visit_moves g k (visit_of p (marked_point (sample m u v))))
      visit_ends m u v p h e = go (eqb m 0) refl
        where
          go : (t : Bool) → eqb m 0 ≡ t → AllPushed Pushed
              (visit_moves g k (visit_of p (cond t None (Some (sample m u v).point))))
          go true q = flushing none
          go false q = point_ends p (sample m u v).point h (one i (λ z. eqb-false m 0 q (rw (← e) z)))

      -- and what it is to the next one
      after_before : (m : ℕ) (u v : Float) → get_or marks i 0 ≡ m → Before (i + 1) (marked_point (sample m u v))
      after_before m u v e = go (eqb m 0) refl
        where
          go : (t : Bool) → eqb m 0 ≡ t → Before (i + 1) (cond t None (Some (sample m u v).point))
          go true q = tt
          go false q =
              let back : i + 1 - 1 ≡ i = omega arith in
              (omega arith, rw back (one i (λ z. eqb-false m 0 q (rw (← e) z))))

    -- the samples from i on, whose marks are ks
    ends_legs : (i : ℕ) (ks : List ℕ) (ps : List Float) (p : Option ParamPoint) → Before i p →
        ((j : ℕ) → get_or marks (i + j) 0 ≡ get_or ks j 0) → i + length ks ≡ length marks →
        AllPushed (AtLegEnd marks) (trace_moves g k i (samples_of ks ps) p)
    unfolding samples_of trace_moves
    ends_legs i [] ps p h at n = flushing none
    ends_legs i (m ∷ ks) [] p h at n = flushing none
    ends_legs i (m ∷ ks) (u ∷ []) p h at n = flushing none
    ends_legs i (m ∷ ks) (u ∷ (v ∷ ps)) p h at n =
        let below : i < length marks = omega arith in
        let here : get_or marks i 0 ≡ m = simp add-zero at (at 0) in
        let next : (j : ℕ) → get_or marks (i + 1 + j) 0 ≡ get_or ks j 0 =
        λ j. let e : i + 1 + j ≡ i + suc j = omega arith in rw e (at (suc j)) in
        both (mapped (traced_by i) (AtLegEnd marks) (visit_ends i below m u v p h here))
        (ends_legs (i + 1) ks ps (marked_point (sample m u v)) (after_before i below m u v here) next (omega arith))

-- ---- samples are walked in order

-- the numbers of points in order: none is below lo, below the one before it, or above hi
abbrev Rising : ℕ → ℕ → List TracedPoint → Type 0
Rising lo hi [] = lo ≤ hi
Rising lo hi (c ∷ cs) = (lo ≤ c.sample) × Rising c.sample hi cs

rising_ends : (lo hi : ℕ) (cs : List TracedPoint) → Rising lo hi cs → lo ≤ hi
rising_ends lo hi [] h = h
rising_ends lo hi (c ∷ cs) h = omega (arith, h.0, rising_ends c.sample hi cs h.1)

rising_front : (lo hi : ℕ) (cs ds : List TracedPoint) → Rising lo hi (cs ++ ds) → Rising lo hi cs
rising_front lo hi [] ds h = rising_ends lo hi ds h
rising_front lo hi (c ∷ cs) ds h = (h.0, rising_front c.sample hi cs ds h.1)

rising_more : (lo hi : ℕ) (cs : List TracedPoint) (c : TracedPoint) → Rising lo hi cs → c.sample ≡ hi →
    Rising lo hi (cs ++ (c ∷ []))
rising_more lo hi [] c h e = (omega arith, omega arith)
rising_more lo hi (x ∷ cs) c h e = (h.0, rising_more x.sample hi cs c h.1 e)

rising_higher : (lo hi top : ℕ) (cs : List TracedPoint) → Rising lo hi cs → hi ≤ top → Rising lo top cs
rising_higher lo hi top [] h l = omega arith
rising_higher lo hi top (c ∷ cs) h l = (h.0, rising_higher c.sample hi top cs h.1 l)

rising_low : (lo hi : ℕ) (cs : List TracedPoint) (j : ℕ) → Rising lo hi cs → j < length cs →
    lo ≤ (get_or cs j no_point).sample
rising_low lo hi [] j h l = absurd (omega arith)
rising_low lo hi (c ∷ cs) zero h l = h.0
rising_low lo hi (c ∷ cs) (suc j) h l =
    omega (arith, h.0, rising_low c.sample hi cs j h.1 (omega arith))

rising_at : (lo hi : ℕ) (cs : List TracedPoint) (i j : ℕ) → Rising lo hi cs → i ≤ j → j < length cs →
    (get_or cs i no_point).sample ≤ (get_or cs j no_point).sample
rising_at lo hi [] i j h p l = absurd (omega arith)
rising_at lo hi (c ∷ cs) zero zero h p l = omega arith
rising_at lo hi (c ∷ cs) zero (suc j) h p l = rising_low c.sample hi cs j h.1 (omega arith)
rising_at lo hi (c ∷ cs) (suc i) zero h p l = absurd (omega arith)
rising_at lo hi (c ∷ cs) (suc i) (suc j) h p l = rising_at c.sample hi cs i j h.1 (omega arith) (omega arith)

-- the points of a drawing, the pending ones too
abbrev RisingTo : ℕ → Drawing → Type 0
RisingTo hi d = Rising 0 hi (all d)

module _ (tolerance : Float) (room : Room) where
  -- moves that bear the number hi
  moves_rise : (hi : ℕ) {ms : List _} → AllPushed (λ (c : TracedPoint). c.sample ≡ hi) ms → (d : Drawing) →
      RisingTo hi d → Holding (RisingTo hi) (draw tolerance room ms d)
  moves_rise hi =
      draw_keeps (RisingTo hi) (λ (c : TracedPoint). c.sample ≡ hi)
      (λ c e d h. rw (← append_assoc) (rising_more 0 hi (all d) c h e))
      (λ d h l. rw append-nil h)
      (λ d h. rw append-nil (rising_front 0 hi d.drawn d.segment h))
      tolerance room

  trace_rises : (g : List Float) (k : Cells) (i : ℕ) (xs : List Sample) (p : Option ParamPoint) (d : Drawing) →
      RisingTo i d → Holding (RisingTo (i + length xs)) (draw tolerance room (trace_moves g k i xs p) d)
  unfolding trace_moves
  trace_rises g k i [] p d h = rw add-zero (moves_rise i (flushing none) d h)
  trace_rises g k i (x ∷ xs) p d h =
      let first = moves_by i (visit_moves g k (visit_of p (marked_point x))) in
      let others = trace_moves g k (i + 1) xs (marked_point x) in
      let up : i + length (x ∷ xs) ≡ i + 1 + length xs = omega arith in
      rw (run_append (push_segment_point tolerance room) (flush_segment room) first others d, up)
      (follow_holds (RisingTo i) (RisingTo (i + 1 + length xs)) (draw tolerance room first d)
      (draw tolerance room others) (moves_rise i (mapped (traced_by i) (λ (c : TracedPoint). c.sample ≡ i)
      (all_pushed (λ (c : Crossing). i ≡ i) (λ c. refl) (visit_moves g k (visit_of p (marked_point x))))) d h)
      (λ s r. trace_rises g k (i + 1) xs (marked_point x) s (rising_higher 0 i (i + 1) (all s) r (omega arith))))

-- ---- the lists

finished_never_falls : (l : Lists) (hi : ℕ) (y : Outcome Drawing) → Holding (RisingTo hi) y → NeverFall (finished y l)
finished_never_falls l hi (off k d) h i j p q = absurd (omega arith)
finished_never_falls l hi (on d) h i j p q =
    let cs = d.drawn in
    rw ((stands cs d.starts l i (omega arith)).sample_is, (stands cs d.starts l j q).sample_is)
    (rising_at 0 hi cs i j (rising_front 0 hi cs d.segment h) p q)

module _ (g : List Float) (m n : ℕ) (tolerances : Tolerances) (pairs : List Float) (marks : List ℕ) (l : Lists) where
  numbers_never_fall : NeverFall (trace_flat g m n tolerances pairs marks l)
  unfolding trace_flat
  numbers_never_fall = go (trace_check g m n tolerances pairs marks)
    where
      go : (c : Check) →
          NeverFall (if_passed c l (finished (drawing_of tolerances.line g m n pairs marks (room_in l)) l))
      go (Err c) = λ i j p q. absurd (omega arith)
      go (Ok u) =
          finished_never_falls l (0 + length (samples_of marks pairs))
          (drawing_of tolerances.line g m n pairs marks (room_in l))
          (trace_rises tolerances.line (room_in l) g (cells m n) 0 (samples_of marks pairs) None nothing_drawn
          (omega arith))

  numbers_end : EachPoint (λ (l : Lists) (i : ℕ). EndsLeg marks (sample_number l i))
      (trace_flat g m n tolerances pairs marks l)
  numbers_end =
      each_point (AtLegEnd marks) (λ (l : Lists) (i : ℕ). EndsLeg marks (sample_number l i))
      (λ c ends l i s. rw s.sample_is ends) g m n tolerances pairs marks l
      (λ e. drawn_good (AtLegEnd marks) tolerances.line (room_in l)
      (ends_legs g (cells m n) marks (mark_one g m n tolerances pairs marks e) 0 marks pairs None tt
      (λ j. simp zero-add) (omega arith)))

pub numbers_met : (g : List Float) (m n : ℕ) → NumbersMet g m n
numbers_met g m n tolerances pairs marks l =
    record {
      each_ends_leg = numbers_end g m n tolerances pairs marks l;
      never_fall = numbers_never_fall g m n tolerances pairs marks l;
    }
