-- Which triangles have a side: one where it lies on a rim, two elsewhere (`owned`), since the low side of a cell is the
-- high side of one other and the two halves of a cell share its diagonal.
use Prim.Native.Nat.{ℕ}
use mathlib.Core.Path.{◌≡◌, refl, sym, ◌∙◌}
use mathlib.Core.Logic.{◌⊎◌, inl, inr, ⊎_elim}
use mathlib.Core.Bool.{Bool, not}
use native.Mathlib.Omega.{arith}
use Rattle.basics.proofs.Tests.{same_or_not, not_self}
use Rattle.surface.specs.Surface.{Same}
use Rattle.surface.proofs.Strip.{Strip, ThreeAround, Kind, straight, across, diagonal, one_name, Agree}
use Rattle.surface.proofs.CellSides.{Cell, side_from, side_to, name_x, name_y, first_of, last_of, RimAt, valid, named}
use Rattle.surface.proofs.CellSides.{one_place, Partner, partner, rim_alone, partner_apart}

pub same_sym : {a b c d : ℕ} → Same a b c d → Same c d a b
same_sym (inl e) = inl (sym e.0, sym e.1)
same_sym (inr e) = inr (sym e.1, sym e.0)

pub same_flip : {a b c d : ℕ} → Same a b c d → Same b a c d
same_flip (inl e) = inr (e.1, e.0)
same_flip (inr e) = inl (e.1, e.0)

pub same_trans : {a b c d e f : ℕ} → Same a b c d → Same c d e f → Same a b e f
same_trans (inl p) (inl q) = inl (p.0 ∙ q.0, p.1 ∙ q.1)
same_trans (inl p) (inr q) = inr (p.0 ∙ q.0, p.1 ∙ q.1)
same_trans (inr p) (inl q) = inr (p.0 ∙ q.1, p.1 ∙ q.0)
same_trans (inr p) (inr q) = inl (p.0 ∙ q.1, p.1 ∙ q.0)

kind_cases : (k : Kind) → (k ≡ diagonal) ⊎ (k ≡ diagonal → ⊥)
kind_cases straight = inr (λ e. let z : ◌≡◌ {A = ℕ} 0 1 = cc in omega arith)
kind_cases across = inr (λ e. let z : ◌≡◌ {A = ℕ} 0 1 = cc in omega arith)
kind_cases diagonal = inl refl

module _ (S : Strip) where
  open S use {half, half_diagonal}

  -- a and b are the ends of a side of cell (x, y): the low one (t false) or the high one (t true) of kind k
  pub record SideAt (x y a b : ℕ) : Type 0 where
    pub k : Kind
    pub t : Bool
    pub cell : Cell S x y
    pub ends : Same a b (side_from S k t x y) (side_to S k t x y)

  abbrev pub side_flip : {x y a b : ℕ} → SideAt x y a b → SideAt x y b a
  side_flip p = record { k = p.k; t = p.t; cell = p.cell; ends = same_flip p.ends }

  -- half h of cell (x, y) has the side of a and b
  pub record Holds (h : Bool) (x y a b : ℕ) : Type 0 where
    pub side : SideAt x y a b
    pub on : half side.k side.t ≡ h

  -- the side of a and b lies on a rim
  pub record OnRim (a b : ℕ) : Type 0 where
    pub x : ℕ
    pub y : ℕ
    pub side : SideAt x y a b
    pub rim : RimAt S side.k side.t x y

  -- the same triangle
  abbrev pub SameTri : Bool → ℕ → ℕ → Bool → ℕ → ℕ → Type 0
  SameTri h x y h' x' y' = (h' ≡ h) × (x' ≡ x) × (y' ≡ y)

  -- the name of a side, and its two ends
  abbrev name_x_of : {x y a b : ℕ} → SideAt x y a b → ℕ
  name_x_of {x} p = name_x S p.k p.t x

  abbrev name_y_of : {x y a b : ℕ} → SideAt x y a b → ℕ
  name_y_of {x} {y} p = name_y S p.k p.t x y

  abbrev pub first_end : {x y a b : ℕ} → SideAt x y a b → ℕ
  first_end {x} {y} p = first_of S p.k p.t x y

  abbrev pub last_end : {x y a b : ℕ} → SideAt x y a b → ℕ
  last_end {x} {y} p = last_of S p.k p.t x y

  named_same : (k : Kind) (t : Bool) (x y : ℕ) → Cell S x y →
      Same (side_from S k t x y) (side_to S k t x y) (first_of S k t x y) (last_of S k t x y)
  named_same k t x y c = ⊎_elim (λ w. inl (w.1, w.2)) (λ w. inr (w.1, w.2)) (named S k t x y c)

  pub name_ends : {x y a b : ℕ} (p : SideAt x y a b) → Same a b (first_end p) (last_end p)
  name_ends {x} {y} p = same_trans p.ends (named_same p.k p.t x y p.cell)

  -- the low side of one cell is the high side of another
  abbrev pub Opposite : {x y x' y' a b : ℕ} → SideAt x y a b → SideAt x' y' a b → Type 0
  Opposite {x} {y} {x'} {y'} p q =
      (q.k ≡ p.k) × (q.t ≡ not p.t) × (name_x S p.k (not p.t) x' ≡ name_x_of p) ×
      (name_y S p.k (not p.t) x' y' ≡ name_y_of p)

  -- besides half h of cell (x, y) one other has the side, and no third
  pub record Other (h : Bool) (x y a b : ℕ) : Type 0 where
    pub h₂ : Bool
    pub x₂ : ℕ
    pub y₂ : ℕ
    pub holds : Holds h₂ x₂ y₂ a b
    pub apart : SameTri h x y h₂ x₂ y₂ → ⊥
    pub only : (h' : Bool) (x' y' : ℕ) → Holds h' x' y' a b → SameTri h x y h' x' y' ⊎ SameTri h₂ x₂ y₂ h' x' y'

  module _ (three : ThreeAround S) where
    -- two cells that have one side name it alike
    agree : {x y x' y' a b : ℕ} (p : SideAt x y a b) (q : SideAt x' y' a b) →
        Agree S p.k q.k (name_x_of p) (name_y_of p) (name_x_of q) (name_y_of q)
    agree {x} {y} {x'} {y'} p q =
        one_name S three p.k q.k (name_x_of p) (name_y_of p) (name_x_of q) (name_y_of q)
        (valid S p.k p.t x y p.cell) (valid S q.k q.t x' y' q.cell)
        (same_trans (same_sym (name_ends p)) (name_ends q))

    -- so it is the low side, or the high side, of both, which are one cell; or the low side of one and the high side of
    -- the other
    pub compare : {x y x' y' a b : ℕ} (p : SideAt x y a b) (q : SideAt x' y' a b) →
        ((q.k ≡ p.k) × (q.t ≡ p.t) × (x' ≡ x) × (y' ≡ y)) ⊎ Opposite p q
    compare {x} {y} {x'} {y'} p q =
        let e = agree p q in
        ⊎_elim
        (λ f. let o = one_place S p.k p.t x' y' x y q.cell p.cell (cc (e.0, e.1)) (cc (e.0, e.2)) in
        inl (sym e.0, f, o.0, o.1))
        (λ f. inr (sym e.0, f, cc (e.0, e.1), cc (e.0, e.2)))
        (same_or_not p.t q.t)

    -- on a rim, no other triangle has the side
    alone : {x y x' y' a b : ℕ} {h h' : Bool} (p : Holds h x y a b) → RimAt S p.side.k p.side.t x y →
        Holds h' x' y' a b → SameTri h x y h' x' y'
    alone {x} {y} {x'} {y'} p r q =
        ⊎_elim
        (λ w. (cc (w.0, w.1, q.on, p.on), w.2, w.3))
        (λ w. absurd (rim_alone S p.side.k p.side.t x y x' y' q.side.cell r w.2 w.3))
        (compare p.side q.side)

    -- elsewhere one other has it, and no third
    other : {x y a b : ℕ} {h : Bool} (p : Holds h x y a b) → Partner S p.side.k p.side.t x y → Other h x y a b
    other {x} {y} {a} {b} {h} p m =
        record {
          h₂ = half k (not t);
          x₂ = m.x';
          y₂ = m.y';
          holds = record { side = record { k = k; t = not t; cell = m.cell; ends = partner_ends }; on = refl };
          apart = apart_case (kind_cases k);
          only = only_case;
        }
      where
        k : Kind
        k = p.side.k

        t : Bool
        t = p.side.t

        partner_ends : Same a b (side_from S k (not t) m.x' m.y') (side_to S k (not t) m.x' m.y')
        partner_ends =
            same_trans (name_ends p.side)
            (same_sym (same_trans (named_same k (not t) m.x' m.y' m.cell)
            (inl (cc (m.same_x, m.same_y), cc (m.same_x, m.same_y)))))

        turn : k ≡ diagonal → half k (not t) ≡ h → not t ≡ t
        turn e s = cc (half_diagonal (not t), half_diagonal t, p.on)

        apart_case : ((k ≡ diagonal) ⊎ (k ≡ diagonal → ⊥)) → SameTri h x y (half k (not t)) m.x' m.y' → ⊥
        apart_case (inl e) s = not_self t (turn e s.0)
        apart_case (inr n) s =
            partner_apart S k t x y p.side.cell n (cc (m.same_x, s.1)) (cc (m.same_y, s.1, s.2))

        only_case : (h' : Bool) (x' y' : ℕ) → Holds h' x' y' a b →
            SameTri h x y h' x' y' ⊎ SameTri (half k (not t)) m.x' m.y' h' x' y'
        only_case h' x' y' q =
            ⊎_elim
            (λ w. inl (cc (w.0, w.1, q.on, p.on), w.2, w.3))
            (λ w. let o = one_place S k (not t) x' y' m.x' m.y' q.side.cell m.cell (w.2 ∙ sym m.same_x)
            (w.3 ∙ sym m.same_y) in
            inr (cc (w.0, w.1, q.on), o.0, o.1))
            (compare p.side q.side)

    -- whichever cell a side is looked at from, it lies on a rim or does not
    on_rim : {x y a b : ℕ} (p : SideAt x y a b) → OnRim a b → RimAt S p.k p.t x y
    on_rim {x} {y} p r =
        ⊎_elim
        (λ w. rw (w.0, w.1, w.2, w.3) r.rim)
        (λ w. absurd (rim_alone S r.side.k r.side.t r.x r.y x y p.cell r.rim w.2 w.3))
        (compare r.side p)

    -- a side is on the rim and on one triangle, or off the rim and on two
    pub owned : {x y a b : ℕ} {h : Bool} → Holds h x y a b →
        (OnRim a b × ((h' : Bool) (x' y' : ℕ) → Holds h' x' y' a b → SameTri h x y h' x' y')) ⊎
        ((OnRim a b → ⊥) × Other h x y a b)
    owned {x} {y} p =
        ⊎_elim
        (λ r. inl (record { x = x; y = y; side = p.side; rim = r }, λ h' x' y' q. alone p r q))
        (λ m. inr (
          λ o. rim_alone S p.side.k p.side.t x y m.x' m.y' m.cell (on_rim p.side o)
              m.same_x m.same_y,
          other p m,
        ))
        (partner S p.side.k p.side.t x y p.side.cell)
