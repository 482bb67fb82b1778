-- A joined grid as a strip: columns 0 to X of points 0 to Y each, column X joined to column 0 by a seam or not at all,
-- every column closed or open. Each side has one name (`one_name`): two names with the same two ends, in either order,
-- would need a step that ends where it starts or two steps that go there and back, and where a way around is closed and
-- has at least 3 steps, or is open, there are none.
use Prim.Native.Nat.{ℕ, ◌+◌, ◌≤◌, ◌<◌}
use mathlib.Core.Path.{◌≡◌, refl, sym, ◌∙◌}
use mathlib.Core.Logic.{◌⊎◌, inl, inr, ⊎_elim}
use mathlib.Core.Bool.{Bool, true, false, ◌&&◌, not, cond, and-false}
use native.Mathlib.Omega.{arith}
use lib.Dec.{eqb}
use borrow.Author.Tests.{ne_eqb}
use Rattle.basics.proofs.Tests.{cond_keeps}
use Rattle.surface.specs.Surface.{Seam, unjoined, forward, reverse, joined, reversed, Split, falling, rising}
use Rattle.surface.specs.Surface.{Same}
use Rattle.surface.proofs.Steps.{wrap, wrap_below, wrap_le, wrap_wrap, step_ne, step_two, step_inj, Fits, laid_on}
use Rattle.surface.proofs.Steps.{on_below, carried, adj_forward, adj_reverse, carried_le, carried_wrap}

-- a side of a cell goes along a column, across to the next column, or along the cell's diagonal
pub data Kind : Type 0 where
  straight across diagonal : Kind

pub record Strip : Type 0 where
  pub X : ℕ
  pub Y : ℕ
  -- whether the columns are closed
  pub closed : Bool
  -- how column X is joined to column 0
  pub seam : Seam
  pub split : Split
  -- the number of a point; `inj`: its own
  pub num : ℕ → ℕ → ℕ
  pub X>0 : 0 < X
  pub Y>0 : 0 < Y
  -- no cell meets itself
  pub X≥2 : joined seam ≡ true → 2 ≤ X
  pub Y≥2 : closed ≡ true → 2 ≤ Y
  pub fits : Fits seam closed Y
  pub inj : (x y x' y' : ℕ) → x ≤ X → y ≤ Y → x' ≤ X → y' ≤ Y → num x y ≡ num x' y' → (x ≡ x') × (y ≡ y')
  -- which half of its cell has the low (false) or high (true) side of a kind; a diagonal is a side of both
  pub half : Kind → Bool → Bool
  pub half_diagonal : (t : Bool) → half diagonal t ≡ t
  -- whether that half runs along it from its first end to its second; the half beyond the side runs the other way
  pub dir : Kind → Bool → Bool
  pub dir_not : (k : Kind) (t : Bool) → dir k (not t) ≡ not (dir k t)

-- no two cells lie between the same points
abbrev pub ThreeAround : Strip → Type 0
ThreeAround S = (joined S.seam ≡ true → 3 ≤ S.X) × (S.closed ≡ true → 3 ≤ S.Y)

pub reversed_joined : (m : Seam) → reversed m ≡ true → joined m ≡ true
reversed_joined unjoined e = e
reversed_joined (forward o) e = refl
reversed_joined (reverse o) e = refl

-- column x is the far one, and joined to column 0
abbrev pub crossing : Strip → ℕ → Bool
crossing S x = joined S.seam && eqb x S.X

-- the column and the row of the point that grid point (x, y) is joined to
unfoldable pub col_of : Strip → ℕ → ℕ
col_of S x = wrap (joined S.seam) S.X x

unfoldable pub row_of : Strip → ℕ → ℕ → ℕ
row_of S x y = cond (crossing S x) (carried S.seam S.closed S.Y y) (wrap S.closed S.Y y)

-- that point's number
unfoldable pub point_of : Strip → ℕ → ℕ → ℕ
point_of S x y = S.num (col_of S x) (row_of S x y)

-- the step of its column on which step y of column x lies
unfoldable pub step_at : Strip → ℕ → ℕ → ℕ
step_at S x y = cond (crossing S x) (laid_on S.seam S.Y y) y

-- whether it lies there the other way round
unfoldable pub turned : Strip → ℕ → Bool
turned S x = reversed S.seam && eqb x S.X

-- the row after row y
unfoldable pub next : Strip → ℕ → ℕ
next S y = wrap S.closed S.Y (y + 1)

module _ (S : Strip) where
  open S use {X, Y, closed, seam, fits}

  -- ---- before the last column: a point keeps its column, a step is its own

  crossing_below : (x : ℕ) → x < X → crossing S x ≡ false
  crossing_below x h = rw (ne_eqb x X (λ e. omega arith)) (and-false (joined seam))

  pub row_below : (x y : ℕ) → x < X → row_of S x y ≡ wrap closed Y y
  unfolding row_of
  row_below x y h = rw (crossing_below x h)

  pub col_below : (x : ℕ) → x < X → col_of S x ≡ x
  unfolding col_of
  col_below x h = wrap_below (joined seam) X x h

  pub step_below : (x y : ℕ) → x < X → step_at S x y ≡ y
  unfolding step_at
  step_below x y h = rw (crossing_below x h)

  -- ---- what a point or a step is joined to is in the strip

  pub step_at_lt : (x y : ℕ) → y < Y → step_at S x y < Y
  unfolding step_at
  step_at_lt x y h = cond_keeps (λ (z : ℕ). z < Y) (crossing S x) _ _ (on_below seam closed Y y fits h) h

  row_le : (x y : ℕ) → y ≤ Y → row_of S x y ≤ Y
  unfolding row_of
  row_le x y h =
      cond_keeps (λ (z : ℕ). z ≤ Y) (crossing S x) _ _ (carried_le seam closed Y y (omega arith) fits h)
      (wrap_le closed Y y h)

  pub col_le : (x : ℕ) → x ≤ X → col_of S x ≤ X
  unfolding col_of
  col_le x h = wrap_le (joined seam) X x h

  pub next_le : (y : ℕ) → y < Y → next S y ≤ Y
  unfolding next
  next_le y h = wrap_le closed Y (y + 1) (omega arith)

  -- the ends of a closed column are one point, and so are those that they are joined to
  pub row_next : (x y : ℕ) → row_of S x (next S y) ≡ row_of S x (y + 1)
  unfolding row_of next
  row_next x y = rw (carried_wrap seam closed Y (y + 1) (omega arith) fits, wrap_wrap closed Y (y + 1) (omega arith))

  -- ---- no step ends where it starts, and no two go there and back

  pub next_ne : (y : ℕ) → y < Y → next S y ≡ y → ⊥
  unfolding next
  next_ne y h = step_ne closed Y y S.Y≥2 h

  next_two : ThreeAround S → (y z : ℕ) → y < Y → z < Y → next S y ≡ z → next S z ≡ y → ⊥
  unfolding next
  next_two w y z h k = step_two closed Y y z w.1 h k

  pub next_inj : (y z : ℕ) → y < Y → z < Y → next S y ≡ next S z → y ≡ z
  unfolding next
  next_inj y z h k = step_inj closed Y y z h k

  pub col_ne : (x : ℕ) → x < X → col_of S (x + 1) ≡ x → ⊥
  unfolding col_of
  col_ne x h = step_ne (joined seam) X x S.X≥2 h

  col_two : ThreeAround S → (x z : ℕ) → x < X → z < X → col_of S (x + 1) ≡ z → col_of S (z + 1) ≡ x → ⊥
  unfolding col_of
  col_two w x z h k = step_two (joined seam) X x z w.0 h k

  pub col_inj : (x z : ℕ) → x < X → z < X → col_of S (x + 1) ≡ col_of S (z + 1) → x ≡ z
  unfolding col_of
  col_inj x z h k = step_inj (joined seam) X x z h k

  -- ---- the two ends of a step

  -- the two ends of step y of column x, joined: as step `step_at` of its column, one way round or the other
  abbrev pub Adjacent : ℕ → ℕ → Type 0
  Adjacent x y =
      ((turned S x ≡ false) × (row_of S x y ≡ step_at S x y) × (row_of S x (y + 1) ≡ next S (step_at S x y)))
      ⊎ ((turned S x ≡ true) × (row_of S x (y + 1) ≡ step_at S x y) × (row_of S x y ≡ next S (step_at S x y)))

  pub adjacent : (x y : ℕ) → y < Y → Adjacent x y
  unfolding turned row_of step_at next
  adjacent x y h = go seam (eqb x X) fits
    where
      row : Seam → Bool → ℕ → ℕ
      row m t z = cond (joined m && t) (carried m closed Y z) (wrap closed Y z)

      on : Seam → Bool → ℕ
      on m t = cond (joined m && t) (laid_on m Y y) y

      go : (m : Seam) (t : Bool) → Fits m closed Y →
          (((reversed m && t) ≡ false) × (row m t y ≡ on m t) × (row m t (y + 1) ≡ wrap closed Y (on m t + 1)))
          ⊎ (((reversed m && t) ≡ true) × (row m t (y + 1) ≡ on m t) × (row m t y ≡ wrap closed Y (on m t + 1)))
      go unjoined t f = inl (refl, wrap_below closed Y y h, refl)
      go (forward o) true f = let a = adj_forward o closed Y y f h in inl (refl, a.0, a.1)
      go (forward o) false f = inl (refl, wrap_below closed Y y h, refl)
      go (reverse o) true f = let a = adj_reverse o closed Y y f h in inr (refl, a.0, a.1)
      go (reverse o) false f = inl (refl, wrap_below closed Y y h, refl)

  -- so they are apart
  row_ne : (x y : ℕ) → y < Y → row_of S x y ≡ row_of S x (y + 1) → ⊥
  row_ne x y h e =
      ⊎_elim
      (λ w. next_ne (step_at S x y) (step_at_lt x y h) (sym w.2 ∙ sym e ∙ w.1))
      (λ w. next_ne (step_at S x y) (step_at_lt x y h) (sym w.2 ∙ e ∙ w.1))
      (adjacent x y h)

-- ---- names of sides

-- The name of a side is its kind and (x, y): a straight side goes from (x, y) to the next row, a side across from (x,
-- y) to what (x+1, y) is joined to, a diagonal between the two other corners of its cell (falling) or from (x, y) to
-- what (x+1, y+1) is joined to (rising).

abbrev pub from_y : Strip → Kind → Split → ℕ → ℕ
from_y S straight d y = y
from_y S across d y = y
from_y S diagonal falling y = next S y
from_y S diagonal rising y = y

abbrev pub to_x : Strip → Kind → ℕ → ℕ
to_x S straight x = x
to_x S across x = col_of S (x + 1)
to_x S diagonal x = col_of S (x + 1)

abbrev pub to_y : Strip → Kind → Split → ℕ → ℕ → ℕ
to_y S straight d x y = next S y
to_y S across d x y = row_of S (x + 1) y
to_y S diagonal falling x y = row_of S (x + 1) y
to_y S diagonal rising x y = row_of S (x + 1) (y + 1)

-- the two ends of the side that a name stands for
unfoldable pub name_from : Strip → Kind → ℕ → ℕ → ℕ
name_from S k x y = S.num x (from_y S k S.split y)

unfoldable pub name_to : Strip → Kind → ℕ → ℕ → ℕ
name_to S k x y = S.num (to_x S k x) (to_y S k S.split x y)

-- the names that there are
abbrev pub Valid : Strip → Kind → ℕ → ℕ → Type 0
Valid S straight x y = (x ≤ S.X) × (y < S.Y)
Valid S across x y = (x < S.X) × (y ≤ S.Y)
Valid S diagonal x y = (x < S.X) × (y < S.Y)

module _ (S : Strip) where
  open S use {X, Y, split, inj}

  pub x_le : (k : Kind) (x y : ℕ) → Valid S k x y → x ≤ X
  x_le straight x y v = v.0
  x_le across x y v = omega arith
  x_le diagonal x y v = omega arith

  pub to_x_le : (k : Kind) (x y : ℕ) → Valid S k x y → to_x S k x ≤ X
  to_x_le straight x y v = v.0
  to_x_le across x y v = col_le S (x + 1) (omega arith)
  to_x_le diagonal x y v = col_le S (x + 1) (omega arith)

  pub from_y_le : (k : Kind) (d : Split) (x y : ℕ) → Valid S k x y → from_y S k d y ≤ Y
  from_y_le straight d x y v = omega arith
  from_y_le across d x y v = omega arith
  from_y_le diagonal falling x y v = next_le S y v.1
  from_y_le diagonal rising x y v = omega arith

  pub to_y_le : (k : Kind) (d : Split) (x y : ℕ) → Valid S k x y → to_y S k d x y ≤ Y
  to_y_le straight d x y v = next_le S y v.1
  to_y_le across d x y v = row_le S (x + 1) y v.1
  to_y_le diagonal falling x y v = row_le S (x + 1) y (omega arith)
  to_y_le diagonal rising x y v = row_le S (x + 1) (y + 1) (omega arith)

  -- one name
  abbrev pub Agree : Kind → Kind → ℕ → ℕ → ℕ → ℕ → Type 0
  Agree k k' x y x' y' = (k ≡ k') × (x ≡ x') × (y ≡ y')

  -- two names whose ends agree in order are one
  in_order : (k k' : Kind) (d : Split) (x y x' y' : ℕ) → Valid S k x y → Valid S k' x' y' →
      x ≡ x' → from_y S k d y ≡ from_y S k' d y' → to_x S k x ≡ to_x S k' x' → to_y S k d x y ≡ to_y S k' d x' y' →
      Agree k k' x y x' y'
  in_order straight straight d x y x' y' v v' p q r s = (refl, p, q)
  in_order straight across d x y x' y' v v' p q r s = absurd (col_ne S x' v'.0 (sym r ∙ p))
  in_order straight diagonal d x y x' y' v v' p q r s = absurd (col_ne S x' v'.0 (sym r ∙ p))
  in_order across straight d x y x' y' v v' p q r s = absurd (col_ne S x v.0 (r ∙ sym p))
  in_order across across d x y x' y' v v' p q r s = (refl, p, q)
  in_order across diagonal falling x y x' y' v v' p q r s =
      absurd (row_ne S (x' + 1) y' v'.1 (cc (row_next S (x' + 1) y')))
  in_order across diagonal rising x y x' y' v v' p q r s =
      absurd (row_ne S (x' + 1) y' v'.1 (cc))
  in_order diagonal straight d x y x' y' v v' p q r s = absurd (col_ne S x v.0 (r ∙ sym p))
  in_order diagonal across falling x y x' y' v v' p q r s =
      absurd (row_ne S (x + 1) y v.1 (cc (row_next S (x + 1) y)))
  in_order diagonal across rising x y x' y' v v' p q r s =
      absurd (row_ne S (x + 1) y v.1 (cc))
  in_order diagonal diagonal falling x y x' y' v v' p q r s = (refl, p, next_inj S y y' v.1 v'.1 q)
  in_order diagonal diagonal rising x y x' y' v v' p q r s = (refl, p, q)

  -- the ends of two names never agree the other way round
  in_turn_lem : ThreeAround S → (k k' : Kind) (d : Split) (x y x' y' : ℕ) → Valid S k x y → Valid S k' x' y' →
      x ≡ to_x S k' x' → from_y S k d y ≡ to_y S k' d x' y' → to_x S k x ≡ x' → to_y S k d x y ≡ from_y S k' d y' → ⊥
  in_turn_lem w straight straight d x y x' y' v v' p q r s = next_two S w y y' v.1 v'.1 s (sym q)
  in_turn_lem w straight across d x y x' y' v v' p q r s = col_ne S x' v'.0 (sym p ∙ r)
  in_turn_lem w straight diagonal d x y x' y' v v' p q r s = col_ne S x' v'.0 (sym p ∙ r)
  in_turn_lem w across straight d x y x' y' v v' p q r s = col_ne S x v.0 (r ∙ sym p)
  in_turn_lem w across across d x y x' y' v v' p q r s = col_two S w x x' v.0 v'.0 r (sym p)
  in_turn_lem w across diagonal d x y x' y' v v' p q r s = col_two S w x x' v.0 v'.0 r (sym p)
  in_turn_lem w diagonal straight d x y x' y' v v' p q r s = col_ne S x v.0 (r ∙ sym p)
  in_turn_lem w diagonal across d x y x' y' v v' p q r s = col_two S w x x' v.0 v'.0 r (sym p)
  in_turn_lem w diagonal diagonal d x y x' y' v v' p q r s = col_two S w x x' v.0 v'.0 r (sym p)

  -- so a side has one name
  pub one_name : ThreeAround S → (k k' : Kind) (x y x' y' : ℕ) → Valid S k x y → Valid S k' x' y' →
      Same (name_from S k x y) (name_to S k x y) (name_from S k' x' y') (name_to S k' x' y') → Agree k k' x y x' y'
  unfolding name_from name_to
  one_name w k k' x y x' y' v v' (inl e) =
      let p =
      inj _ _ _ _ (x_le k x y v) (from_y_le k split x y v) (x_le k' x' y' v') (from_y_le k' split x' y' v') e.0 in
      let q =
      inj _ _ _ _ (to_x_le k x y v) (to_y_le k split x y v) (to_x_le k' x' y' v') (to_y_le k' split x' y' v') e.1 in
      in_order k k' split x y x' y' v v' p.0 p.1 q.0 q.1
  one_name w k k' x y x' y' v v' (inr e) =
      let p =
      inj _ _ _ _ (x_le k x y v) (from_y_le k split x y v) (to_x_le k' x' y' v') (to_y_le k' split x' y' v') e.0 in
      let q =
      inj _ _ _ _ (to_x_le k x y v) (to_y_le k split x y v) (x_le k' x' y' v') (from_y_le k' split x' y' v') e.1 in
      absurd (in_turn_lem w k k' split x y x' y' v v' p.0 p.1 q.0 q.1)
