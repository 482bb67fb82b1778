-- Which way a triangle runs along its sides. Of the two that share a side, one runs along it from the first end of its
-- name to the second and the other back. Only across a reversed seam the ends lie the other way round on one side, and
-- there the two run the same way.
use Prim.Native.Nat.{ℕ, ◌+◌, ◌<◌}
use mathlib.Core.Path.{◌≡◌, refl, sym, ◌∙◌}
use mathlib.Core.Logic.{◌⊎◌, inl, inr, ⊎_elim}
use mathlib.Core.Bool.{Bool, true, false, not, false≢true, cond, not-not}
use native.Mathlib.Omega.{arith}
use lib.Dec.{eqb}
use borrow.Author.Tests.{eqb-true, eq-eqb}
use Rattle.basics.proofs.Tests.{and_both, not_self}
use Rattle.surface.specs.Surface.{reversed, Same}
use Rattle.surface.proofs.Steps.{laid_on, on_below}
use Rattle.surface.proofs.Strip.{Strip, ThreeAround, reversed_joined, Kind, straight, across, diagonal, name_from}
use Rattle.surface.proofs.Strip.{name_to, from_y, to_x, to_y, Valid, x_le, to_x_le, from_y_le, to_y_le, turned, col_of}
use Rattle.surface.proofs.Strip.{step_at, col_ne, next_ne}
use Rattle.surface.proofs.CellSides.{Cell, side_from, side_to, name_x, name_y, turned_at, valid, named, far_col}
use Rattle.surface.proofs.CellSides.{far_step}
use Rattle.surface.proofs.Owners.{SideAt, side_flip, Holds, first_end, last_end, name_ends, compare}
use Rattle.surface.proofs.Owners.{SameTri, Opposite}

-- a to b is c to d, or d to c where w is false
abbrev pub Along : Bool → ℕ → ℕ → ℕ → ℕ → Type 0
Along w a b c d = ((w ≡ true) × (a ≡ c) × (b ≡ d)) ⊎ ((w ≡ false) × (a ≡ d) × (b ≡ c))

-- either way they are the same two; two that are the same go along one way, or the other way when they are exchanged
along_same : {w : Bool} {a b c d : ℕ} → Along w a b c d → Same a b c d
along_same (inl e) = inl (e.1, e.2)
along_same (inr e) = inr (e.1, e.2)

same_along : (w : Bool) {a b c d : ℕ} → Same a b c d → Along w a b c d ⊎ Along w b a c d
same_along true (inl e) = inl (inl (refl, e.0, e.1))
same_along true (inr e) = inr (inl (refl, e.1, e.0))
same_along false (inl e) = inr (inr (refl, e.1, e.0))
same_along false (inr e) = inl (inr (refl, e.0, e.1))

-- the same, by where it starts and where it ends
pub along_ends : {w : Bool} {a b c d : ℕ} → Along w a b c d → (a ≡ cond w c d) × (b ≡ cond w d c)
along_ends (inl e) = rw e.0 (e.1, e.2)
along_ends (inr e) = rw e.0 (e.1, e.2)

pub ends_along : (w : Bool) {a b : ℕ} (c d : ℕ) → a ≡ cond w c d → b ≡ cond w d c → Along w a b c d
ends_along true c d p q = inl (refl, p, q)
ends_along false c d p q = inr (refl, p, q)

module _ (S : Strip) where
  open S use {X, Y, seam, split, fits, inj, half, dir, dir_not}

  -- the two ends of a side differ
  names_differ : (k : Kind) (x y : ℕ) → Valid S k x y → name_from S k x y ≡ name_to S k x y → ⊥
  unfolding name_from name_to
  names_differ k x y v e =
      go k v (inj _ _ _ _ (x_le S k x y v) (from_y_le S k split x y v) (to_x_le S k x y v) (to_y_le S k split x y v) e)
    where
      go : (k : Kind) → Valid S k x y → (x ≡ to_x S k x) × (from_y S k split y ≡ to_y S k split x y) → ⊥
      go straight v p = next_ne S y v.1 (sym p.1)
      go across v p = col_ne S x v.0 (sym p.0)
      go diagonal v p = col_ne S x v.0 (sym p.0)

  ends_differ : {x y a b : ℕ} (p : SideAt S x y a b) → first_end S p ≡ last_end S p → ⊥
  ends_differ {x} {y} p =
      names_differ p.k (name_x S p.k p.t x) (name_y S p.k p.t x y) (valid S p.k p.t x y p.cell)

  -- only the last column of a reversed seam lies the other way round
  turned_straight : (k : Kind) (t : Bool) (x : ℕ) → turned_at S k t x ≡ true →
      (k ≡ straight) × (t ≡ true) × (turned S (x + 1) ≡ true)
  turned_straight straight true x e = (refl, refl, e)
  turned_straight straight false x e = absurd (false≢true e)
  turned_straight across t x e = absurd (false≢true e)
  turned_straight diagonal t x e = absurd (false≢true e)

  turned_far : (x : ℕ) → turned S x ≡ true → (reversed seam ≡ true) × (x ≡ X)
  unfolding turned
  turned_far x e = let p = and_both (reversed seam) (eqb x X) e in (p.0, eqb-true x X p.1)

  far_turned : reversed seam ≡ true → turned S X ≡ true
  unfolding turned
  far_turned r = rw (r, eq-eqb X X refl)

  -- ---- runs

  -- going around half h of cell (x, y), b follows a
  pub record Runs (h : Bool) (x y a b : ℕ) : Type 0 where
    pub k : Kind
    pub t : Bool
    pub cell : Cell S x y
    pub on : half k t ≡ h
    pub along : Along (dir k t) a b (side_from S k t x y) (side_to S k t x y)

  -- the side that it runs along
  abbrev side_of : {h : Bool} {x y a b : ℕ} → Runs h x y a b → SideAt S x y a b
  side_of r = record { k = r.k; t = r.t; cell = r.cell; ends = along_same r.along }

  pub runs_holds : {h : Bool} {x y a b : ℕ} → Runs h x y a b → Holds S h x y a b
  runs_holds r = record { side = side_of r; on = r.on }

  -- a run starts at the first end of the side's name or at the last, as its direction says
  abbrev Begins : {h : Bool} {x y a b : ℕ} → Runs h x y a b → Type 0
  Begins {h} {x} {y} {a} r =
      ((dir r.k r.t ≡ true) × (a ≡ first_end S (side_of r))) ⊎
      ((dir r.k r.t ≡ false) × (a ≡ last_end S (side_of r)))

  -- unless the side's ends lie the other way round under its name
  abbrev Turned : {h : Bool} {x y a b : ℕ} → Runs h x y a b → Type 0
  Turned {h} {x} r = turned_at S r.k r.t x ≡ true

  begins : {h : Bool} {x y a b : ℕ} (r : Runs h x y a b) → Turned r ⊎ Begins r
  begins {h} {x} {y} r =
      ⊎_elim
      (λ w. inr (⊎_elim (λ e. inl (e.0, e.1 ∙ w.1)) (λ e. inr (e.0, e.1 ∙ w.2)) r.along))
      (λ w. inl w.0)
      (named S r.k r.t x y r.cell)

  -- two opposite halves do not start at the same end
  clash : {h h' : Bool} {x y x' y' a b : ℕ} (p : Runs h x y a b) (q : Runs h' x' y' a b) →
      Opposite S (side_of p) (side_of q) → Begins p → Begins q → ⊥
  clash p q o (inl b) (inl d) = not_self true (cc (o.0, o.1, dir_not p.k p.t, b.0, d.0))
  clash p q o (inl b) (inr d) = ends_differ (side_of p) (cc (o.0, o.1, o.2, o.3, b.1, d.1))
  clash p q o (inr b) (inl d) = ends_differ (side_of p) (cc (o.0, o.1, o.2, o.3, b.1, d.1))
  clash p q o (inr b) (inr d) = not_self false (cc (o.0, o.1, dir_not p.k p.t, b.0, d.0))

  -- ---- turns

  -- across a reversed seam: half h has a low side of column 0, and half h' the high side of the last column that lies
  -- on it the other way round
  pub record Turn (h : Bool) (x y : ℕ) (h' : Bool) (x' y' : ℕ) : Type 0 where
    pub rev : reversed seam ≡ true
    pub below : y' < Y
    pub low_half : h ≡ half straight false
    pub low_x : x ≡ 0
    pub low_y : y ≡ laid_on seam Y y'
    pub high_half : h' ≡ half straight true
    pub high_x : x' + 1 ≡ X

  -- the cell beyond a high straight side
  opposite_low : (k : Kind) (t : Bool) (x y x' y' : ℕ) → k ≡ straight → t ≡ true →
      name_x S k (not t) x' ≡ name_x S k t x →
      name_y S k (not t) x' y' ≡ name_y S k t x y → (x' ≡ col_of S (x + 1)) × (y' ≡ step_at S (x + 1) y)
  opposite_low straight true x y x' y' e f p q = (p, q)
  opposite_low straight false x y x' y' e f p q = (cc, cc)
  opposite_low across t x y x' y' e f p q = (cc, cc)
  opposite_low diagonal t x y x' y' e f p q = (cc, cc)

  turn_of : {h h' : Bool} {x y x' y' a b : ℕ} (p : Runs h x y a b) (q : Runs h' x' y' a b) →
      Opposite S (side_of p) (side_of q) → Turned p →
      Turn h' x' y' h x y
  turn_of {h} {h'} {x} {y} {x'} {y'} p q o e =
      record {
        rev = far.0;
        below = p.cell.1;
        low_half = cc (q.on, o.0, o.1, st.0, st.1, off);
        low_x = lo.0 ∙ rw far.1 (far_col S (reversed_joined seam far.0));
        low_y = lo.1 ∙ rw far.1 (far_step S y (reversed_joined seam far.0));
        high_half = cc (p.on, st.0, st.1);
        high_x = far.1;
      }
    where
      st : (p.k ≡ straight) × (p.t ≡ true) × (turned S (x + 1) ≡ true)
      st = turned_straight p.k p.t x e

      far : (reversed seam ≡ true) × (x + 1 ≡ X)
      far = turned_far (x + 1) st.2

      lo : (x' ≡ col_of S (x + 1)) × (y' ≡ step_at S (x + 1) y)
      lo = opposite_low p.k p.t x y x' y' st.0 st.1 o.2 o.3

      off : not true ≡ false
      off = refl

  -- two triangles that run along a side the same way are at a turn
  pub same_way : ThreeAround S → {h h' : Bool} {x y x' y' a b : ℕ} → Runs h x y a b → Runs h' x' y' a b →
      (SameTri S h x y h' x' y' → ⊥) →
      Turn h x y h' x' y' ⊎ Turn h' x' y' h x y
  same_way three {h} {h'} {x} {y} {x'} {y'} p q n =
      ⊎_elim
      (λ w. absurd (n (cc (w.0, w.1, q.on, p.on), w.2, w.3)))
      (λ o. go o (begins p) (begins q))
      (compare S three (side_of p) (side_of q))
    where
      swap : Opposite S (side_of p) (side_of q) → Opposite S (side_of q) (side_of p)
      swap o =
          let n = not-not p.t in
          (sym o.0, cc (o.1, n), cc (o.0, o.1, o.2, n), cc (o.0, o.1, o.3, n))

      go : Opposite S (side_of p) (side_of q) → Turned p ⊎ Begins p → Turned q ⊎ Begins q →
          Turn h x y h' x' y' ⊎ Turn h' x' y' h x y
      go o (inl e) g = inr (turn_of p q o e)
      go o (inr f) (inl e) = inl (turn_of q p (swap o) e)
      go o (inr f) (inr g) = absurd (clash p q o f g)

  -- both run from a to b
  pub record Shared (h : Bool) (x y : ℕ) (h' : Bool) (x' y' : ℕ) : Type 0 where
    pub a : ℕ
    pub b : ℕ
    pub one : Runs h x y a b
    pub two : Runs h' x' y' a b

  -- and at a turn they do
  pub turn_shared : {h h' : Bool} {x y x' y' : ℕ} → Turn h x y h' x' y' → Shared h x y h' x' y'
  turn_shared {h} {h'} {x} {y} {x'} {y'} r = go (dir straight false) refl
    where
      cell_low : Cell S x y
      cell_low = (omega (arith, r.low_x), rw r.low_y (on_below seam S.closed Y y' fits r.below))

      cell_high : Cell S x' y'
      cell_high = (omega (arith, r.high_x), r.below)

      name_x_lem : col_of S (x' + 1) ≡ x
      name_x_lem = rw r.high_x (far_col S (reversed_joined seam r.rev) ∙ sym r.low_x)

      name_y_lem : step_at S (x' + 1) y' ≡ y
      name_y_lem = rw r.high_x (far_step S y' (reversed_joined seam r.rev) ∙ sym r.low_y)

      is_turned : turned S (x' + 1) ≡ true
      is_turned = rw r.high_x (far_turned r.rev)

      low : (side_from S straight false x y ≡ name_from S straight x y) ×
          (side_to S straight false x y ≡ name_to S straight x y)
      low = ⊎_elim (λ w. (w.1, w.2)) (λ w. absurd (not_self true w.0)) (named S straight false x y cell_low)

      high : (side_to S straight true x' y' ≡ name_from S straight x y) ×
          (side_from S straight true x' y' ≡ name_to S straight x y)
      high =
          ⊎_elim
          (λ w. absurd (not_self true (sym w.0 ∙ is_turned)))
          (λ w. (cc (w.2, name_x_lem, name_y_lem), cc (w.1, name_x_lem, name_y_lem)))
          (named S straight true x' y' cell_high)

      low_run : {a b : ℕ} →
          Along (dir straight false) a b (side_from S straight false x y) (side_to S straight false x y) → Runs h x y a b
      low_run l = record { k = straight; t = false; cell = cell_low; on = sym r.low_half; along = l }

      high_run : {a b : ℕ} →
          Along (dir straight true) a b (side_from S straight true x' y') (side_to S straight true x' y') →
          Runs h' x' y' a b
      high_run l = record { k = straight; t = true; cell = cell_high; on = sym r.high_half; along = l }

      go : (w : Bool) → dir straight false ≡ w → Shared h x y h' x' y'
      go true e =
          record {
            a = name_from S straight x y;
            b = name_to S straight x y;
            one = low_run (inl (e, sym low.0, sym low.1));
            two = high_run (inr (rw e at (dir_not straight false), sym high.0, sym high.1));
          }
      go false e =
          record {
            a = name_to S straight x y;
            b = name_from S straight x y;
            one = low_run (inr (e, sym low.1, sym low.0));
            two = high_run (inl (rw e at (dir_not straight false), sym high.1, sym high.0));
          }

  pub holds_flip : {h : Bool} {x y a b : ℕ} → Holds S h x y a b → Holds S h x y b a
  holds_flip p = record { side = side_flip S p.side; on = p.on }

  -- who has a side runs along it, one way or the other
  pub holds_runs : {h : Bool} {x y a b : ℕ} → Holds S h x y a b → Runs h x y a b ⊎ Runs h x y b a
  holds_runs {h} {x} {y} {a} {b} p = ⊎_elim (λ l. inl (run l)) (λ l. inr (run l)) (same_along (dir k t) p.side.ends)
    where
      k : Kind
      k = p.side.k

      t : Bool
      t = p.side.t

      run : {c d : ℕ} → Along (dir k t) c d (side_from S k t x y) (side_to S k t x y) → Runs h x y c d
      run l = record { k = k; t = t; cell = p.side.cell; on = p.on; along = l }

  -- what a triangle runs along has two ends
  pub runs_differ : {h : Bool} {x y a b : ℕ} → Runs h x y a b → a ≡ b → ⊥
  runs_differ r e =
      ends_differ (side_of r) (⊎_elim (λ q. cc (q.0, q.1)) (λ q. cc (q.0, q.1)) (name_ends S (side_of r)))
