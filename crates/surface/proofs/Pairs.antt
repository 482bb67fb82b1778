-- The list of flipped pairs: that `insert` keeps it ascending, what `process` puts into it, how long it is at most, and
-- that its numbers are of triangles in the list.
use Prim.Native.Nat.{ℕ, zero, suc, ◌+◌, ◌≤◌, ◌<◌}
use mathlib.Core.Path.{◌≡◌, refl, sym, ap, ◌∙◌}
use mathlib.Core.Logic.{◌⊎◌, inl, inr, ⊎_elim}
use mathlib.Core.Bool.{Bool, true, false, ◌&&◌, cond}
use mathlib.Core.List.Memᴰ
use mathlib.Core.List.{List, [], ◌∷◌, Memᴰ}
use native.Mathlib.Omega.{arith}
use native.Mathlib.Nat.{eq-or-lt_of_le}
use lib.Dec.{eqb, ltb}
use lib.ListN.{length}
use borrow.Author.Tests.{eq-eqb, ne_eqb, ltb-true, ltb-false, lt-ltb}
use Rattle.surface.specs.Surface.{Seam, reverse, reversed, Shape, slot, proper, triangles, Pair, pair, ordered}
use Rattle.surface.specs.Surface.{insert, triangle_number, step_on, process, flipped, low_u, high_u, low_v, high_v}
use Rattle.surface.specs.Surface.{wrap_ends}
use Rattle.basics.proofs.Tests.{and_both, cond_keeps, cond_case}
use Rattle.basics.proofs.Numbers.{eqb_cases}
use Rattle.cyclic.proofs.Mappings.{three}
use Rattle.surface.proofs.Steps.{Offset, laid_on, Meet, reverse_step}
use Rattle.surface.proofs.Triangles.{number_below}
use Rattle.surface.proofs.Halves.{low_u_lt, high_u_lt, low_v_lt, high_v_lt}

-- ---- the step of row a that `process` finds

both_ne : (a b c d : ℕ) → (a ≡ b → c ≡ d → ⊥) → (eqb a b && eqb c d) ≡ false
both_ne a b c d h = ⊎_elim (λ w. rw w.0 (ne_eqb c d (h w.1))) (λ w. rw w.0) (eqb_cases a b)

both_eq : (a b c d : ℕ) → a ≡ b → c ≡ d → (eqb a b && eqb c d) ≡ true
both_eq a b c d p q = rw (eq-eqb a b p, eq-eqb c d q)

-- the lower of two indices that follow each other, and of a row's two ends
lower_up : (n a : ℕ) → (n ≡ 2 → ⊥) → wrap_ends n (a + 1) a ≡ a
lower_up n a h =
    rw (
      both_ne (a + 1 + 1) n a 0 (λ p q. omega arith),
      both_ne (a + 1) n (a + 1) 0 (λ p q. omega arith),
      ne_eqb (a + 1 + 1) a (λ p. omega arith),
      eq-eqb (a + 1) (a + 1) refl,
    )

lower_end : (n a : ℕ) → a + 1 ≡ n → wrap_ends n 0 a ≡ a
lower_end n zero e = rw (both_eq (0 + 1) n 0 0 e refl)
lower_end n (suc a) e = rw (both_ne (0 + 1) n (suc a) 0 (λ p q. omega arith), both_eq (suc a + 1) n 0 0 e refl)

lower : (c : Bool) (n i j a : ℕ) → (n ≡ 2 → ⊥) → j ≡ a → Meet c n i (a + 1) → wrap_ends n i j ≡ a
lower c n i j a h p (inl w) = rw (p, w) (lower_up n a h)
lower c n i j a h p (inr w) = rw (p, w.1) (lower_end n a w.2)

-- a reversed seam's step, as process_flipped finds it
pub step_on_lem : (o : ℕ) (c : Bool) (n y : ℕ) → (n ≡ 2 → ⊥) → Offset o c n → y < n →
    step_on (reverse o) n y ≡ laid_on (reverse o) n y
unfolding step_on
step_on_lem o c n y h f k = let r = reverse_step o c n y f k in lower c n _ _ _ h r.0 r.1

-- ---- into an ascending list

pub pair_eq : (p q : Pair) → p.low ≡ q.low → p.high ≡ q.high → p ≡ q
pair_eq p q e f = ap (λ (z : ℕ). pair z p.high) e ∙ ap (pair q.low) f

-- two numbers in order
pub ordered_up : (a b : ℕ) → a < b → pair a b ≡ ordered a b
ordered_up a b h = pair_eq (pair a b) (ordered a b) (omega arith) (omega arith)

pub ordered_down : (a b : ℕ) → b ≤ a → pair b a ≡ ordered a b
ordered_down a b h = pair_eq (pair b a) (ordered a b) (omega arith) (omega arith)

picks : (a b c d : Bool) (x y z : List Pair) →
    (cond a x (cond b y (cond c x (cond d y z))) ≡ x)
    ⊎ ((cond a x (cond b y (cond c x (cond d y z))) ≡ y)
    ⊎ ((cond a x (cond b y (cond c x (cond d y z))) ≡ z) × (a ≡ false) × (b ≡ false) × (c ≡ false) × (d ≡ false)))
picks true b c d x y z = inl refl
picks false true c d x y z = inr (inl refl)
picks false false true d x y z = inl refl
picks false false false true x y z = inr (inl refl)
picks false false false false x y z = inr (inr (refl, refl, refl, refl, refl))

-- where `insert` puts p: in front of r, behind it, or nowhere, since p is r
insert_form : (p r : Pair) (rs : List Pair) →
    (insert p (r ∷ rs) ≡ p ∷ r ∷ rs) ⊎ ((insert p (r ∷ rs) ≡ r ∷ insert p rs) ⊎
    ((insert p (r ∷ rs) ≡ r ∷ rs) × (p ≡ r)))
insert_form p r rs =
    three
    (picks (ltb p.low r.low) (ltb r.low p.low) (ltb p.high r.high) (ltb r.high p.high)
    (p ∷ r ∷ rs) (r ∷ insert p rs) (r ∷ rs))
    (λ w. inl w)
    (λ w. inr (inl w))
    (λ w. inr (inr (
      w.0,
      pair_eq p r
          (omega (arith, ltb-false p.low r.low w.1, ltb-false r.low p.low w.2))
          (omega (arith, ltb-false p.high r.high w.3, ltb-false r.high p.high w.4)),
    )))

pub mem_in : {q : Pair} {l k : List Pair} → l ≡ k → Memᴰ q l → Memᴰ q k
mem_in e m = rw e at m

insert_cases : (p : Pair) (ps : List Pair) (q : Pair) → Memᴰ q (insert p ps) → (q ≡ p) ⊎ Memᴰ q ps
insert_cases p [] q m = Memᴰ.cases_cons m
insert_cases p (r ∷ rs) q m =
    three (insert_form p r rs)
    (λ w. Memᴰ.cases_cons (mem_in w m))
    (λ w. ⊎_elim (λ e. inr (Memᴰ.head e)) (λ n. ⊎_elim (λ e. inl e) (λ o. inr (Memᴰ.tail o))
    (insert_cases p rs q n)) (Memᴰ.cases_cons (mem_in w m)))
    (λ w. inr (mem_in w.0 m))

insert_there : (p : Pair) (ps : List Pair) (q : Pair) → Memᴰ q ps → Memᴰ q (insert p ps)
insert_there p [] q m = Memᴰ.tail m
insert_there p (r ∷ rs) q m =
    three (insert_form p r rs)
    (λ w. mem_in (sym w) (Memᴰ.tail m))
    (λ w. mem_in (sym w) (⊎_elim (λ e. Memᴰ.head e) (λ n. Memᴰ.tail (insert_there p rs q n))
    (Memᴰ.cases_cons m)))
    (λ w. mem_in (sym w.0) m)

insert_here : (p : Pair) (ps : List Pair) → Memᴰ p (insert p ps)
insert_here p [] = Memᴰ.head refl
insert_here p (r ∷ rs) =
    three (insert_form p r rs)
    (λ w. mem_in (sym w) (Memᴰ.head refl))
    (λ w. mem_in (sym w) (Memᴰ.tail (insert_here p rs)))
    (λ w. mem_in (sym w.0) (Memᴰ.head w.1))

-- ---- ascending

-- Rules 4.4: the order of the list, as a property of it
abbrev pub Before : Pair → Pair → Type 0
Before p q = (p.low < q.low) ⊎ ((p.low ≡ q.low) × (p.high < q.high))

abbrev pub Ascending : List Pair → Type 0
Ascending [] = Unit {0}
Ascending (p ∷ ps) = ((q : Pair) → Memᴰ q ps → Before p q) × Ascending ps

before_trans : (p q r : Pair) → Before p q → Before q r → Before p r
before_trans p q r (inl a) (inl b) = inl (omega arith)
before_trans p q r (inl a) (inr b) = inl (omega arith)
before_trans p q r (inr a) (inl b) = inl (omega arith)
before_trans p q r (inr a) (inr b) = inr (omega arith)

insert_ascending : (p : Pair) (ps : List Pair) → Ascending ps → Ascending (insert p ps)
insert_ascending p [] a = (λ q m. absurd (Memᴰ.not-nil m), tt)
insert_ascending p (r ∷ rs) a =
    let below = insert_ascending p rs a.1 in
    cond_case Ascending (ltb p.low r.low) _ _ (λ e. front (inl (ltb-true p.low r.low e)))
    (λ e₁. cond_case Ascending (ltb r.low p.low) _ _ (λ e. behind below (inl (ltb-true r.low p.low e)))
    (λ e₂. cond_case Ascending (ltb p.high r.high) _ _
    (λ e. front (inr (level e₁ e₂, ltb-true p.high r.high e)))
    (λ e₃. cond_case Ascending (ltb r.high p.high) _ _
    (λ e. behind below (inr (sym (level e₁ e₂), ltb-true r.high p.high e)))
    (λ e₄. a))))
  where
    level : ltb p.low r.low ≡ false → ltb r.low p.low ≡ false → p.low ≡ r.low
    level e f = omega (arith, ltb-false p.low r.low e, ltb-false r.low p.low f)

    front : Before p r → Ascending (p ∷ r ∷ rs)
    front b = (
      λ q m. ⊎_elim (λ e. rw e b) (λ n. before_trans p r q b (a.0 q n)) (Memᴰ.cases_cons m),
      a,
    )

    behind : Ascending (insert p rs) → Before r p → Ascending (r ∷ insert p rs)
    behind below b = (
      λ q m. ⊎_elim (λ e. rw e b) (λ n. a.0 q n) (insert_cases p rs q m),
      below,
    )

-- ---- what `process` does to a list

-- A claim P on the list after so many steps holds at the end if it holds at the start and each step keeps it, whether
-- it puts a pair down or not.
module _ (s : Shape) (m : Seam) (steps : ℕ) (low high : ℕ → ℕ) (P : ℕ → List Pair → Type 0) where
  abbrev Skips : ℕ → Type 0
  Skips n = (y : ℕ) (qs : List Pair) → y < n → P y qs → P (suc y) qs

  abbrev Puts : ℕ → Type 0
  Puts n =
      (y : ℕ) (qs : List Pair) → y < n → step_on m steps y < steps → proper (slot s (low (step_on m steps y))) ≡ true →
      proper (slot s (high y)) ≡ true →
      P y qs → P (suc y) (insert (ordered (triangle_number s (low (step_on m steps y))) (triangle_number s (high y))) qs)

  process_keeps : (n : ℕ) (ps : List Pair) → P 0 ps → Skips n → Puts n → P n (process s m steps low high n ps)
  unfolding process
  process_keeps zero ps p skip put = p
  process_keeps (suc n) ps p skip put =
      let rest = process s m steps low high n ps in
      let before : P n rest =
      process_keeps n ps p (λ y qs h. skip y qs (omega arith)) (λ y qs h. put y qs (omega arith)) in
      let i = low (step_on m steps n) in
      cond_case (P (suc n)) (ltb (step_on m steps n) steps) _ _
      (λ e. cond_case (P (suc n)) (proper (slot s i) && proper (slot s (high n))) _ _
      (λ f. let g = and_both (proper (slot s i)) (proper (slot s (high n))) f in
      put n rest (omega arith) (ltb-true (step_on m steps n) steps e) g.0 g.1 before)
      (λ f. skip n rest (omega arith) before))
      (λ e. skip n rest (omega arith) before)

-- and so for the flipped pairs, which two such runs make
module _ (s : Shape) (P : List Pair → Type 0) where
  abbrev Kept : Seam → ℕ → (ℕ → ℕ) → (ℕ → ℕ) → Type 0
  Kept m steps low high = Puts s m steps low high (λ k. P) steps

  flipped_keeps : P [] → Kept s.su s.N (low_u s) (high_u s) → Kept s.sv s.M (low_v s) (high_v s) → P (flipped s)
  unfolding flipped
  flipped_keeps p us vs =
      cond_case P (reversed s.sv) _ _
      (λ e. process_keeps s s.sv s.M (low_v s) (high_v s) (λ k. P) s.M _ after_u (λ y qs h r. r) vs)
      (λ e. after_u)
    where
      after_u : P (cond (reversed s.su) (process s s.su s.N (low_u s) (high_u s) s.N []) [])
      after_u =
          cond_case P (reversed s.su) _ _
          (λ e. process_keeps s s.su s.N (low_u s) (high_u s) (λ k. P) s.N [] p (λ y qs h r. r) us)
          (λ e. p)

pub flipped_ascending : (s : Shape) → Ascending (flipped s)
flipped_ascending s =
    flipped_keeps s Ascending tt (λ y qs h l e f a. insert_ascending _ qs a) (λ y qs h l e f a. insert_ascending _ qs a)

-- both numbers of each pair are of triangles in the list
abbrev pub Listed : Shape → List Pair → Type 0
Listed s ps = (p : Pair) → Memᴰ p ps → (p.low < length (triangles s)) × (p.high < length (triangles s))

insert_listed : (s : Shape) (i j : ℕ) (ps : List Pair) → i < length (triangles s) → j < length (triangles s) →
    Listed s ps → Listed s (insert (ordered i j) ps)
insert_listed s i j ps h k l p q = ⊎_elim (λ e. rw e (omega arith)) (λ m. l p m) (insert_cases (ordered i j) ps p q)

pub flipped_listed : (s : Shape) → 0 < s.M → 0 < s.N → Listed s (flipped s)
flipped_listed s hm hn =
    flipped_keeps s (Listed s) (λ p q. absurd (Memᴰ.not-nil q))
    (λ y qs h l e f a. insert_listed s _ _ qs (number_below s _ (low_u_lt s _ hm l) e)
    (number_below s _ (high_u_lt s y hm h) f) a)
    (λ y qs h l e f a. insert_listed s _ _ qs (number_below s _ (low_v_lt s _ hn l) e)
    (number_below s _ (high_v_lt s y hn h) f) a)

insert_length : (p : Pair) (ps : List Pair) → length (insert p ps) ≤ length ps + 1
insert_length p [] = omega arith
insert_length p (r ∷ rs) =
    three (insert_form p r rs)
    (λ w. omega (arith, ap length w))
    (λ w. omega (arith, ap length w, insert_length p rs))
    (λ w. omega (arith, ap length w.0))

-- a run puts down one pair for each step at most
pub process_at_most : (s : Shape) (m : Seam) (steps : ℕ) (low high : ℕ → ℕ) (n : ℕ) (ps : List Pair) →
    length (process s m steps low high n ps) ≤ length ps + n
process_at_most s m steps low high n ps =
    process_keeps s m steps low high (λ (k : ℕ) (qs : List Pair). length qs ≤ length ps + k) n ps (omega arith)
    (λ y qs h a. omega arith) (λ y qs h l e f a. omega
    (arith, insert_length (ordered (triangle_number s (low (step_on m steps y))) (triangle_number s (high y))) qs))

pub flipped_at_most : (s : Shape) → length (flipped s) ≤ s.M + s.N
unfolding flipped
flipped_at_most s =
    cond_keeps (λ (l : List Pair). length l ≤ s.M + s.N) (reversed s.sv) _ us
    (omega (arith, process_at_most s s.sv s.M (low_v s) (high_v s) s.M us, after_u)) (omega (arith, after_u))
  where
    us : List Pair
    us = cond (reversed s.su) (process s s.su s.N (low_u s) (high_u s) s.N []) []

    after_u : length us ≤ s.N
    after_u =
        cond_keeps (λ (l : List Pair). length l ≤ s.N) (reversed s.su) _ []
        (omega (arith, process_at_most s s.su s.N (low_u s) (high_u s) s.N [])) (omega arith)

-- Each of the Y steps of the high rim lies on step `on` of the low one, and no slot of either rim is left out.
pub record AllLaid (s : Shape) (m : Seam) (Y : ℕ) (lows highs on : ℕ → ℕ) : Type 0 where
  pub on_is : (y : ℕ) → y < Y → step_on m Y y ≡ on y
  pub on_lt : (y : ℕ) → y < Y → on y < Y
  pub low_proper : (y : ℕ) → y < Y → (proper (slot s (lows y)) ≡ true) × (triangle_number s (lows y) ≡ lows y)
  pub high_proper : (y : ℕ) → y < Y → (proper (slot s (highs y)) ≡ true) × (triangle_number s (highs y) ≡ highs y)

-- Then what process_flipped puts down is one pair for each step of the high rim.
module _ {s : Shape} {m : Seam} {Y : ℕ} {lows highs on : ℕ → ℕ} (laid : AllLaid s m Y lows highs on) where
  open laid use {on_is, on_lt, low_proper, high_proper}

  -- the pair of step y, and the pairs of the first n steps
  abbrev pair_at : ℕ → Pair
  pair_at y = ordered (lows (on y)) (highs y)

  abbrev put : ℕ → List Pair
  put n = process s m Y lows highs n []

  process_step : (n : ℕ) → n < Y → put (suc n) ≡ insert (pair_at n) (put n)
  unfolding process
  process_step n h =
      rw (
        on_is n h,
        lt-ltb (on n) Y (on_lt n h),
        (low_proper (on n) (on_lt n h)).0,
        (high_proper n h).0,
        (low_proper (on n) (on_lt n h)).1,
        (high_proper n h).1,
      )

  pub process_to : (n : ℕ) → n ≤ Y → (p : Pair) → Memᴰ p (put n) → (y : ℕ) × (y < n) × (p ≡ pair_at y)
  unfolding process
  process_to zero h p q = absurd (Memᴰ.not-nil q)
  process_to (suc n) h p q =
      ⊎_elim
      (λ e. (n, omega arith, e))
      (λ r. let t = process_to n (omega arith) p r in (t.0, omega (arith, t.1), t.2))
      (insert_cases (pair_at n) (put n) p (mem_in (process_step n h) q))

  pub process_from : (n : ℕ) → n ≤ Y → (y : ℕ) → y < n → Memᴰ (pair_at y) (put n)
  unfolding process
  process_from zero h y k = absurd (omega arith)
  process_from (suc n) h y k =
      let b : y ≤ n = omega arith in
      mem_in (sym (process_step n h))
      (⊎_elim
      (λ (e : y ≡ n). rw e (insert_here (pair_at n) (put n)))
      (λ (l : y < n). insert_there (pair_at n) (put n) (pair_at y) (process_from n (omega arith) y l))
      (eq-or-lt_of_le b))
