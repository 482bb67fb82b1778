-- The rims and the edges of a strip, as Rules 5.3 and 7.2 say them: a rim's sides are those between neighbouring points
-- of its first or last column or row, and every edge between neighbouring grid points, or along a cell's diagonal, is a
-- side of some cell.
use Prim.Native.Nat.{ℕ, ◌+◌, ◌-◌, ◌≤◌, ◌<◌}
use mathlib.Core.Path.{◌≡◌, refl}
use mathlib.Core.Logic.{◌⊎◌, inl, inr, ⊎_elim}
use mathlib.Core.Bool.{Bool, true, false}
use native.Mathlib.Omega.{arith}
use Rattle.basics.proofs.Numbers.{lt_or_le}
use Rattle.surface.specs.Surface.{unjoined, Split, falling, rising, Same}
use Rattle.surface.proofs.Strip.{Strip, Kind, straight, across, diagonal, point_of}
use Rattle.surface.proofs.CellSides.{Cell, shift, shift_le, corners, ends_of, side_from, side_to, RimAt}
use Rattle.surface.proofs.Owners.{same_sym, same_trans, SideAt, side_flip, OnRim}

-- a and b are the ends of a side of some cell
pub record EdgeAt (S : Strip) (a b : ℕ) : Type 0 where
  pub x : ℕ
  pub y : ℕ
  pub side : SideAt S x y a b

pub edge_flip : {S : Strip} {a b : ℕ} → EdgeAt S a b → EdgeAt S b a
edge_flip {S} e = record { x = e.x; y = e.y; side = side_flip S e.side }

-- P x y is the number of the point that grid point (x, y) is joined to, said without the strip
pub record Numbered (S : Strip) : Type 0 where
  pub P : ℕ → ℕ → ℕ
  pub P-is : (x y : ℕ) → y ≤ S.Y → P x y ≡ point_of S x y

module _ {S : Strip} (numbered : Numbered S) where
  open S use {X, Y, closed, seam, split}
  open numbered use {P, P-is}

  -- a side on a rim, as Rules 5.3 say it
  abbrev pub RimOf : ℕ → ℕ → Type 0
  RimOf a b =
      ((seam ≡ unjoined) × ((y : ℕ) × (y < Y) × (Same a b (P 0 y) (P 0 (y + 1)) ⊎ Same a b (P X y) (P X (y + 1)))))
      ⊎ ((closed ≡ false) × ((x : ℕ) × (x < X) × (Same a b (P x 0) (P (x + 1) 0) ⊎ Same a b (P x Y) (P (x + 1) Y))))

  -- the ends of a cell's side, by P
  abbrev ends : Kind → Split → Bool → ℕ → ℕ → ℕ × ℕ
  ends k d t x y = ends_of (λ i j. P (shift i x) (shift j y)) k d t

  -- they are the side's own
  ends_are : (k : Kind) (t : Bool) (x y : ℕ) → Cell S x y →
      Same (ends k split t x y).0 (ends k split t x y).1 (side_from S k t x y) (side_to S k t x y)
  unfolding side_from side_to
  ends_are k t x y c = go k split
    where
      at : (i j : Bool) → P (shift i x) (shift j y) ≡ corners S x y i j
      at i j = P-is (shift i x) (shift j y) (omega (arith, shift_le j y))

      go : (k : Kind) (d : Split) →
          Same (ends k d t x y).0 (ends k d t x y).1
          (ends_of (corners S x y) k d t).0 (ends_of (corners S x y) k d t).1
      go straight d = inl (at t false, at t true)
      go across d = inl (at false t, at true t)
      go diagonal falling = inl (at false true, at true false)
      go diagonal rising = inl (at false false, at true true)

  -- ---- rims

  on_rim : {a b : ℕ} (k : Kind) (t : Bool) (x y : ℕ) → Cell S x y → RimAt S k t x y →
      Same a b (ends k split t x y).0 (ends k split t x y).1 → OnRim S a b
  on_rim k t x y c r e =
      record {
        x = x;
        y = y;
        side = record { k = k; t = t; cell = c; ends = same_trans e (ends_are k t x y c) };
        rim = r;
      }

  pub rim_to : (a b : ℕ) → RimOf a b → OnRim S a b
  rim_to a b (inl (o, (y, h, inl e))) = on_rim straight false 0 y (omega arith, h) (o, refl) e
  rim_to a b (inl (o, (y, h, inr e))) =
      let q : X - 1 + 1 ≡ X = omega arith in on_rim straight true (X - 1) y (omega arith, h) (o, q) (rw q e)
  rim_to a b (inr (o, (x, h, inl e))) = on_rim across false x 0 (h, omega arith) (o, refl) e
  rim_to a b (inr (o, (x, h, inr e))) =
      let q : Y - 1 + 1 ≡ Y = omega arith in on_rim across true x (Y - 1) (h, omega arith) (o, q) (rw q e)

  pub rim_from : (a b : ℕ) → OnRim S a b → RimOf a b
  rim_from a b r =
      let d = r.side in
      go d.k d.t r.x r.y d.cell r.rim
      (same_trans d.ends (same_sym (ends_are d.k d.t r.x r.y d.cell)))
    where
      go : (k : Kind) (t : Bool) (x y : ℕ) → Cell S x y → RimAt S k t x y →
          Same a b (ends k split t x y).0 (ends k split t x y).1 → RimOf a b
      go straight false x y c r e = inl (r.0, (y, c.1, inl (rw r.1 at e)))
      go straight true x y c r e = inl (r.0, (y, c.1, inr (rw r.1 at e)))
      go across false x y c r e = inr (r.0, (x, c.0, inl (rw r.1 at e)))
      go across true x y c r e = inr (r.0, (x, c.0, inr (rw r.1 at e)))
      go diagonal t x y c r e = absurd r

  -- ---- edges

  edge_of : (k : Kind) (t : Bool) (x y : ℕ) → Cell S x y → EdgeAt S (ends k split t x y).0 (ends k split t x y).1
  edge_of k t x y c = record { x = x; y = y; side = record { k = k; t = t; cell = c; ends = ends_are k t x y c } }

  pub edge_across : (x y : ℕ) → x < X → y ≤ Y → EdgeAt S (P x y) (P (x + 1) y)
  edge_across x y h k =
      ⊎_elim
      (λ l. edge_of across false x y (h, l))
      (λ l. let e : y ≡ Y - 1 + 1 = omega arith in rw e (edge_of across true x (Y - 1) (h, omega arith)))
      (lt_or_le y Y)

  pub edge_straight : (x y : ℕ) → x ≤ X → y < Y → EdgeAt S (P x y) (P x (y + 1))
  edge_straight x y h k =
      ⊎_elim
      (λ l. edge_of straight false x y (l, k))
      (λ l. let e : x ≡ X - 1 + 1 = omega arith in rw e (edge_of straight true (X - 1) y (omega arith, k)))
      (lt_or_le x X)

  -- a diagonal, whichever way cells are split
  edge_diagonal : (x y : ℕ) (d : Split) → Cell S x y → split ≡ d →
      EdgeAt S (ends diagonal d false x y).0 (ends diagonal d false x y).1
  edge_diagonal x y d c e = rw (← e) (edge_of diagonal false x y c)

  pub edge_falling : (x y : ℕ) → x < X → y < Y → split ≡ falling → EdgeAt S (P (x + 1) y) (P x (y + 1))
  edge_falling x y h k e = edge_flip (edge_diagonal x y falling (h, k) e)

  pub edge_rising : (x y : ℕ) → x < X → y < Y → split ≡ rising → EdgeAt S (P x y) (P (x + 1) (y + 1))
  edge_rising x y h k e = edge_diagonal x y rising (h, k) e
