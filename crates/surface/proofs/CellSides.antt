-- The sides of a cell. Each has a low and a high side of each kind, its diagonal being both, and each side of the strip
-- is the low side of one cell and the high side of one other (of a diagonal, of the same cell); on a rim one of the two
-- is missing.
use Prim.Native.Nat.{ℕ, ◌+◌, ◌-◌, ◌≤◌, ◌<◌}
use mathlib.Core.Path.{◌≡◌, refl, sym, ap, ◌∙◌}
use mathlib.Core.Logic.{◌⊎◌, inl, inr, ⊎_elim}
use mathlib.Core.Bool.{Bool, true, false, not, cond}
use native.Mathlib.Omega.{arith}
use borrow.Author.Tests.{eq-eqb}
use Rattle.basics.proofs.Numbers.{lt_or_le}
use Rattle.surface.specs.Surface.{Seam, unjoined, forward, reverse, joined, Split, falling, rising}
use Rattle.surface.proofs.Steps.{wrap_open, wrap_below, wrap_end, laid_on, laid_back, back_below, on_back, on_inj}
use Rattle.surface.proofs.Strip.{Strip, crossing, col_of, row_of, point_of, step_at, turned, next, Kind, straight}
use Rattle.surface.proofs.Strip.{across, diagonal, name_from, name_to, from_y, to_y, Valid, row_below, col_below}
use Rattle.surface.proofs.Strip.{step_below, step_at_lt, col_le, next_le, next_ne, next_inj, col_ne, col_inj}
use Rattle.surface.proofs.Strip.{row_next, adjacent}

abbrev pub Cell : Strip → ℕ → ℕ → Type 0
Cell S x y = (x < S.X) × (y < S.Y)

-- no step on, or one
abbrev pub shift : Bool → ℕ → ℕ
shift false n = n
shift true n = n + 1

pub shift_le : (t : Bool) (n : ℕ) → shift t n ≤ n + 1
shift_le false n = omega arith
shift_le true n = omega arith

-- the corner of cell (x, y) that is i columns and j rows on
abbrev pub corners : Strip → ℕ → ℕ → Bool → Bool → ℕ
corners S x y i j = point_of S (shift i x) (shift j y)

-- the two ends of a cell's side, by the cell's corners: the low one (false) or the high one (true) of its kind; a
-- diagonal is both
abbrev pub ends_of : (Bool → Bool → ℕ) → Kind → Split → Bool → ℕ × ℕ
ends_of c straight d t = (c t false, c t true)
ends_of c across d t = (c false t, c true t)
ends_of c diagonal falling t = (c false true, c true false)
ends_of c diagonal rising t = (c false false, c true true)

unfoldable pub side_from : Strip → Kind → Bool → ℕ → ℕ → ℕ
side_from S k t x y = (ends_of (corners S x y) k S.split t).0

unfoldable pub side_to : Strip → Kind → Bool → ℕ → ℕ → ℕ
side_to S k t x y = (ends_of (corners S x y) k S.split t).1

-- the name of that side
abbrev pub name_x : Strip → Kind → Bool → ℕ → ℕ
name_x S straight false x = x
name_x S straight true x = col_of S (x + 1)
name_x S across t x = x
name_x S diagonal t x = x

abbrev pub name_y : Strip → Kind → Bool → ℕ → ℕ → ℕ
name_y S straight false x y = y
name_y S straight true x y = step_at S (x + 1) y
name_y S across false x y = y
name_y S across true x y = next S y
name_y S diagonal t x y = y

-- the two ends of that name
abbrev pub first_of : Strip → Kind → Bool → ℕ → ℕ → ℕ
first_of S k t x y = name_from S k (name_x S k t x) (name_y S k t x y)

abbrev pub last_of : Strip → Kind → Bool → ℕ → ℕ → ℕ
last_of S k t x y = name_to S k (name_x S k t x) (name_y S k t x y)

-- whether the side's ends lie the other way round
abbrev pub turned_at : Strip → Kind → Bool → ℕ → Bool
turned_at S straight false x = false
turned_at S straight true x = turned S (x + 1)
turned_at S across t x = false
turned_at S diagonal t x = false

-- the side lies on the rim of an unjoined seam
abbrev pub RimAt : Strip → Kind → Bool → ℕ → ℕ → Type 0
RimAt S straight false x y = (S.seam ≡ unjoined) × (x ≡ 0)
RimAt S straight true x y = (S.seam ≡ unjoined) × (x + 1 ≡ S.X)
RimAt S across false x y = (S.closed ≡ false) × (y ≡ 0)
RimAt S across true x y = (S.closed ≡ false) × (y + 1 ≡ S.Y)
RimAt S diagonal t x y = ⊥

unjoined_or_joined : (m : Seam) → (m ≡ unjoined) ⊎ (joined m ≡ true)
unjoined_or_joined unjoined = inl refl
unjoined_or_joined (forward o) = inr refl
unjoined_or_joined (reverse o) = inr refl

open_or_closed : (c : Bool) → (c ≡ false) ⊎ (c ≡ true)
open_or_closed false = inl refl
open_or_closed true = inr refl

module _ (S : Strip) where
  open S use {X, Y, closed, seam, split, num, fits}

  pub valid : (k : Kind) (t : Bool) (x y : ℕ) → Cell S x y → Valid S k (name_x S k t x) (name_y S k t x y)
  valid straight false x y c = (omega arith, c.1)
  valid straight true x y c = (col_le S (x + 1) (omega arith), step_at_lt S (x + 1) y c.1)
  valid across false x y c = (c.0, omega arith)
  valid across true x y c = (c.0, next_le S y c.1)
  valid diagonal t x y c = c

  -- the point that (x, y) is joined to, by its row; inside the strip it is (x, y) itself, and the next one up its
  -- column is in the next row
  at_row : (x y : ℕ) {b : ℕ} → row_of S x y ≡ b → point_of S x y ≡ num (col_of S x) b
  unfolding point_of
  at_row x y e = ap (num (col_of S x)) e

  low : (x y : ℕ) → x < X → y < Y → point_of S x y ≡ num x y
  low x y h k = cc (at_row x y (row_below S x y h), col_below S x h, wrap_below closed Y y k)

  up : (x y : ℕ) → x < X → point_of S x (y + 1) ≡ num x (next S y)
  unfolding next
  up x y h = cc (at_row x (y + 1) (row_below S x (y + 1) h), col_below S x h)

  -- the ends of a cell's side are those of its name, in their order or the other way round
  abbrev pub Named : Kind → Bool → ℕ → ℕ → Type 0
  Named k t x y =
      ((turned_at S k t x ≡ false) × (side_from S k t x y ≡ first_of S k t x y) × (side_to S k t x y ≡ last_of S k t x y))
      ⊎ ((turned_at S k t x ≡ true) × (side_from S k t x y ≡ last_of S k t x y) × (side_to S k t x y ≡ first_of S k t x y))

  pub named : (k : Kind) (t : Bool) (x y : ℕ) → Cell S x y → Named k t x y
  unfolding side_from side_to name_from name_to
  named straight false x y c = inl (refl, low x y c.0 c.1, up x y c.0)
  named straight true x y c =
      ⊎_elim
      (λ w. inl (w.0, at_row (x + 1) y w.1, at_row (x + 1) (y + 1) w.2))
      (λ w. inr (w.0, at_row (x + 1) y w.2, at_row (x + 1) (y + 1) w.1))
      (adjacent S (x + 1) y c.1)
  named across false x y c = inl (refl, low x y c.0 c.1, at_row (x + 1) y refl)
  named across true x y c = inl (refl, up x y c.0, at_row (x + 1) (y + 1) (sym (row_next S (x + 1) y)))
  named diagonal t x y c = inl (refl, from split, to split)
    where
      from : (d : Split) → (ends_of (corners S x y) diagonal d t).0 ≡ num x (from_y S diagonal d y)
      from falling = up x y c.0
      from rising = low x y c.0 c.1

      to : (d : Split) → (ends_of (corners S x y) diagonal d t).1 ≡ num (col_of S (x + 1)) (to_y S diagonal d x y)
      to falling = at_row (x + 1) y refl
      to rising = at_row (x + 1) (y + 1) refl

  -- ---- no two cells have the same low side, or the same high side

  step_inj_at : (z a b : ℕ) → a < Y → b < Y → step_at S z a ≡ step_at S z b → a ≡ b
  unfolding step_at
  step_inj_at z a b h k = go (crossing S z)
    where
      go : (w : Bool) → cond w (laid_on seam Y a) a ≡ cond w (laid_on seam Y b) b → a ≡ b
      go true e = on_inj seam closed Y a b fits h k e
      go false e = e

  pub one_place : (k : Kind) (t : Bool) (x y x' y' : ℕ) → Cell S x y → Cell S x' y' →
      name_x S k t x ≡ name_x S k t x' → name_y S k t x y ≡ name_y S k t x' y' → (x ≡ x') × (y ≡ y')
  one_place straight false x y x' y' c c' p q = (p, q)
  one_place straight true x y x' y' c c' p q =
      let e : x ≡ x' = col_inj S x x' c.0 c'.0 p in
      (e, step_inj_at (x' + 1) y y' c.1 c'.1 (cc))
  one_place across false x y x' y' c c' p q = (p, q)
  one_place across true x y x' y' c c' p q = (p, next_inj S y y' c.1 c'.1 q)
  one_place diagonal t x y x' y' c c' p q = (p, q)

  -- ---- the cell on the other side

  pub far_col : joined seam ≡ true → col_of S X ≡ 0
  unfolding col_of
  far_col j = rw j (wrap_end X)

  pub far_step : (y : ℕ) → joined seam ≡ true → step_at S X y ≡ laid_on seam Y y
  unfolding step_at
  far_step y j = rw (j, eq-eqb X X refl)

  col_unjoined : (x : ℕ) → seam ≡ unjoined → col_of S x ≡ x
  unfolding col_of
  col_unjoined x e = rw e (wrap_open X x)

  next_open : (y : ℕ) → closed ≡ false → next S y ≡ y + 1
  unfolding next
  next_open y e = rw e (wrap_open Y (y + 1))

  next_below : (y : ℕ) → y + 1 < Y → next S y ≡ y + 1
  unfolding next
  next_below y h = wrap_below closed Y (y + 1) h

  next_last : (y : ℕ) → closed ≡ true → y + 1 ≡ Y → next S y ≡ 0
  unfolding next
  next_last y e h = rw (e, h) (wrap_end Y)

  -- cell (x', y') has as its high side the low side of cell (x, y), or the other way round
  pub record Partner (k : Kind) (t : Bool) (x y : ℕ) : Type 0 where
    pub x' : ℕ
    pub y' : ℕ
    pub cell : Cell S x' y'
    pub same_x : name_x S k (not t) x' ≡ name_x S k t x
    pub same_y : name_y S k (not t) x' y' ≡ name_y S k t x y

  -- a side is on a rim, or there is such a cell
  pub partner : (k : Kind) (t : Bool) (x y : ℕ) → Cell S x y → RimAt S k t x y ⊎ Partner k t x y
  partner straight false x y c = go (lt_or_le 0 x) (unjoined_or_joined seam)
    where
      go : (0 < x) ⊎ (x ≤ 0) → (seam ≡ unjoined) ⊎ (joined seam ≡ true) →
          RimAt S straight false x y ⊎ Partner straight false x y
      -- the cell before it in the row of cells
      go (inl h) j =
          let e : x - 1 + 1 ≡ x = omega arith in
          inr (record {
            x' = x - 1;
            y' = y;
            cell = (omega arith, c.1);
            same_x = rw e (col_below S x c.0);
            same_y = rw e (step_below S x y c.0);
          })
      go (inr h) (inl j) = inl (j, omega arith)
      -- from column 0, the cell of the last column that the seam lays on it
      go (inr h) (inr j) =
          let e : X - 1 + 1 ≡ X = omega arith in
          let y₁ = laid_back seam Y y in
          inr (record {
            x' = X - 1;
            y' = y₁;
            cell = (omega arith, back_below seam closed Y y fits c.1);
            same_x = rw e (far_col j ∙ omega arith);
            same_y = rw e (far_step y₁ j ∙ on_back seam closed Y y fits c.1);
          })
  partner straight true x y c = go (lt_or_le (x + 1) X) (unjoined_or_joined seam)
    where
      found : col_of S (x + 1) < X → Partner straight true x y
      found h =
          record {
            x' = col_of S (x + 1);
            y' = step_at S (x + 1) y;
            cell = (h, step_at_lt S (x + 1) y c.1);
            same_x = refl;
            same_y = refl;
          }

      go : (x + 1 < X) ⊎ (X ≤ x + 1) → (seam ≡ unjoined) ⊎ (joined seam ≡ true) →
          RimAt S straight true x y ⊎ Partner straight true x y
      go (inl h) j = inr (found (omega (arith, col_below S (x + 1) h)))
      go (inr h) (inl j) = inl (j, omega arith)
      go (inr h) (inr j) = let e : x + 1 ≡ X = omega arith in inr (found (rw e (omega (arith, far_col j))))
  partner across false x y c = go (lt_or_le 0 y) (open_or_closed closed)
    where
      found : (y' : ℕ) → y' < Y → next S y' ≡ y → Partner across false x y
      found y' h e = record { x' = x; y' = y'; cell = (c.0, h); same_x = refl; same_y = e }

      go : (0 < y) ⊎ (y ≤ 0) → (closed ≡ false) ⊎ (closed ≡ true) → RimAt S across false x y ⊎ Partner across false x y
      go (inl h) j = inr (found (y - 1) (omega arith) (next_below (y - 1) (omega arith) ∙ omega arith))
      go (inr h) (inl j) = inl (j, omega arith)
      go (inr h) (inr j) = inr (found (Y - 1) (omega arith) (next_last (Y - 1) j (omega arith) ∙ omega arith))
  partner across true x y c = go (lt_or_le (y + 1) Y) (open_or_closed closed)
    where
      found : next S y < Y → Partner across true x y
      found h = record { x' = x; y' = next S y; cell = (c.0, h); same_x = refl; same_y = refl }

      go : (y + 1 < Y) ⊎ (Y ≤ y + 1) → (closed ≡ false) ⊎ (closed ≡ true) →
          RimAt S across true x y ⊎ Partner across true x y
      go (inl h) j = inr (found (omega (arith, next_below y h)))
      go (inr h) (inl j) = inl (j, omega arith)
      go (inr h) (inr j) = inr (found (omega (arith, next_last y j (omega arith))))
  partner diagonal t x y c = inr (record { x' = x; y' = y; cell = c; same_x = refl; same_y = refl })

  -- on a rim there is none
  pub rim_alone : (k : Kind) (t : Bool) (x y x' y' : ℕ) → Cell S x' y' → RimAt S k t x y →
      name_x S k (not t) x' ≡ name_x S k t x → name_y S k (not t) x' y' ≡ name_y S k t x y → ⊥
  rim_alone straight false x y x' y' c r p q = omega (arith, col_unjoined (x' + 1) r.0)
  rim_alone straight true x y x' y' c r p q = omega (arith, col_unjoined (x + 1) r.0)
  rim_alone across false x y x' y' c r p q = omega (arith, next_open y' r.0)
  rim_alone across true x y x' y' c r p q = omega (arith, next_open y r.0)
  rim_alone diagonal t x y x' y' c r p q = r

  -- and it is another cell, unless the side is a diagonal
  pub partner_apart : (k : Kind) (t : Bool) (x y : ℕ) → Cell S x y → (k ≡ diagonal → ⊥) →
      name_x S k (not t) x ≡ name_x S k t x → name_y S k (not t) x y ≡ name_y S k t x y → ⊥
  partner_apart straight false x y c n p q = col_ne S x c.0 p
  partner_apart straight true x y c n p q = col_ne S x c.0 (sym p)
  partner_apart across false x y c n p q = next_ne S y c.1 q
  partner_apart across true x y c n p q = next_ne S y c.1 (sym q)
  partner_apart diagonal t x y c n p q = n refl
