-- A covered joining is a strip when it is seen along one of its two seams: the other seam is unjoined or joins each
-- point to the one opposite, so it closes the columns or leaves them open, and no more. Along u the columns are those
-- of u, along v those of v.
use Prim.Native.Nat.{ℕ, zero, suc, ◌+◌, ◌*◌, ◌≤◌, ◌<◌}
use mathlib.Core.Path.{◌≡◌, refl, sym, ap, ◌∙◌}
use mathlib.Core.Logic.{◌⊎◌, inl, inr, ⊎_elim}
use mathlib.Core.Bool.{Bool, true, not, true≢false}
use native.Mathlib.Omega.{arith}
use lib.Arith.{digits_div, digits_mod}
use Rattle.param.specs.declared.Axis.{Axis}
use Rattle.param.specs.declared.Axis.TheVariants.{AxisU, AxisV}
use Rattle.surface.specs.Surface.{Seam, unjoined, forward, reverse, joined, reversed, inverse, Rule, once, twice}
use Rattle.surface.specs.Surface.{Split, falling, rising, Shape, number, at, StepsAround, NoneOfTwo}
use Rattle.surface.specs.Rims.{rim_steps as rows}
use Rattle.surface.proofs.Covered.{AtZero, Beside, Covered, neither, only_u, only_v, both_u, both_v}
use Rattle.surface.proofs.Steps.{Fits, Offset, inv_forward, inv_reverse}
use Rattle.surface.proofs.Strip.{Strip, Kind, straight, across, diagonal}
use Rattle.surface.proofs.Halves.{cell_half, cell_dir}

abbrev pub columns : Axis → Shape → ℕ
columns AxisU s = s.M
columns AxisV s = s.N

-- the seam that joins the last column to the first, and the one that closes the columns
abbrev pub seam_of : Axis → Shape → Seam
seam_of AxisU s = s.su
seam_of AxisV s = s.sv

abbrev pub closing : Axis → Shape → Seam
closing AxisU s = s.sv
closing AxisV s = s.su

-- the column and the row of (u, v); and, as two turns are none, the u and the v of a column and a row
abbrev pub x_of : {A : Type 0} → Axis → A → A → A
x_of AxisU i j = i
x_of AxisV i j = j

abbrev pub y_of : {A : Type 0} → Axis → A → A → A
y_of AxisU i j = j
y_of AxisV i j = i

pub turn_x : {A : Type 0} (a : Axis) (i j : A) → x_of a (x_of a i j) (y_of a i j) ≡ i
turn_x AxisU i j = refl
turn_x AxisV i j = refl

pub turn_y : {A : Type 0} (a : Axis) (i j : A) → y_of a (x_of a i j) (y_of a i j) ≡ j
turn_y AxisU i j = refl
turn_y AxisV i j = refl

-- a step of v goes along a column of u and across the columns of v
abbrev pub kind_of : Axis → Kind → Kind
kind_of AxisU k = k
kind_of AxisV straight = across
kind_of AxisV across = straight
kind_of AxisV diagonal = diagonal

pub turn_kind : (a : Axis) (k : Kind) → kind_of a (kind_of a k) ≡ k
turn_kind AxisU k = refl
turn_kind AxisV straight = refl
turn_kind AxisV across = refl
turn_kind AxisV diagonal = refl

-- which half has a side, and which way it runs along it; a falling diagonal starts at its other end when u and v change
-- places
abbrev pub side_half : Axis → Split → Kind → Bool → Bool
side_half a d k t = cell_half d (kind_of a k) t

abbrev pub side_dir : Axis → Split → Kind → Bool → Bool
side_dir AxisU d k t = cell_dir k t
side_dir AxisV d straight t = not t
side_dir AxisV d across t = t
side_dir AxisV falling diagonal t = not t
side_dir AxisV rising diagonal t = t

pub half_diagonal : (a : Axis) (d : Split) (t : Bool) → side_half a d diagonal t ≡ t
half_diagonal AxisU d t = refl
half_diagonal AxisV d t = refl

pub dir_not : (a : Axis) (d : Split) (k : Kind) (t : Bool) → side_dir a d k (not t) ≡ not (side_dir a d k t)
dir_not AxisU d straight t = refl
dir_not AxisU d across t = refl
dir_not AxisU d diagonal t = refl
dir_not AxisV d straight t = refl
dir_not AxisV d across t = refl
dir_not AxisV falling diagonal t = refl
dir_not AxisV rising diagonal t = refl

-- ---- what a shape must be to be seen so

-- a seam that is unjoined, or forward at offset 0
abbrev pub Plain : Seam → Type 0
Plain m = (m ≡ unjoined) ⊎ (m ≡ forward 0)

-- Where the columns are closed, a seam takes points inside a column to points inside it. Corners that pass the rules
-- twice do not need this.
abbrev pub KeepsInside : Rule → Seam → Bool → ℕ → Type 0
KeepsInside once m c n = c ≡ true → (b : ℕ) → b < n → inverse m n b < n
KeepsInside twice m c n = Unit {0}

pub record SeenAlong (a : Axis) (s : Shape) : Type 0 where
  pub fits : Fits (seam_of a s) (joined (closing a s)) (rows a s)
  pub plain : Plain (closing a s)
  pub inside : KeepsInside s.rule (seam_of a s) (joined (closing a s)) (rows a s)

digits_inj : (q r q' r' m : ℕ) → r < m → r' < m → q * m + r ≡ q' * m + r' → (q ≡ q') × (r ≡ r')
digits_inj q r q' r' m h h' e = (cc (digits_div q h, digits_div q' h'), cc (digits_mod q h, digits_mod q' h'))

-- a point's number tells its column and its row
pub number_inj : (a : Axis) (s : Shape) (x y x' y' : ℕ) → x ≤ columns a s → y ≤ rows a s → x' ≤ columns a s →
    y' ≤ rows a s →
    number s (at (x_of a x y) (y_of a x y)) ≡ number s (at (x_of a x' y') (y_of a x' y')) → (x ≡ x') × (y ≡ y')
number_inj AxisU s x y x' y' h k h' k' e = digits_inj x y x' y' (s.N + 1) (omega arith) (omega arith) e
number_inj AxisV s x y x' y' h k h' k' e =
    let r = digits_inj y x y' x' (s.N + 1) (omega arith) (omega arith) e in (r.1, r.0)

-- steps both ways, and 2 around wherever a seam joins
pub record HasSteps (s : Shape) : Type 0 where
  pub u_some : 0 < s.M
  pub v_some : 0 < s.N
  pub around : StepsAround 2 s

pub some : (a : Axis) (s : Shape) → HasSteps s → (0 < columns a s) × (0 < rows a s)
some AxisU s h = (h.u_some, h.v_some)
some AxisV s h = (h.v_some, h.u_some)

-- so many steps around, by columns and rows
pub around_seen : (k : ℕ) (a : Axis) (s : Shape) → StepsAround k s →
    (joined (seam_of a s) ≡ true → k ≤ columns a s) × (joined (closing a s) ≡ true → k ≤ rows a s)
around_seen k AxisU s h = h
around_seen k AxisV s h = (h.1, h.0)

pub none_seen : (a : Axis) (s : Shape) → NoneOfTwo s → reversed (seam_of a s) ≡ true → rows a s ≡ 2 → ⊥
none_seen AxisU s h = h.0
none_seen AxisV s h = h.1

-- the strip that a shape is, seen along an axis
unfoldable pub strip : (s : Shape) → HasSteps s → (a : Axis) → SeenAlong a s → Strip
strip s h a w =
    record {
      X = columns a s;
      Y = rows a s;
      closed = joined (closing a s);
      seam = seam_of a s;
      split = s.split;
      num = λ x y. number s (at (x_of a x y) (y_of a x y));
      X>0 = (some a s h).0;
      Y>0 = (some a s h).1;
      X≥2 = (around_seen 2 a s h.around).0;
      Y≥2 = (around_seen 2 a s h.around).1;
      fits = w.fits;
      inj = number_inj a s;
      half = side_half a s.split;
      half_diagonal = half_diagonal a s.split;
      dir = side_dir a s.split;
      dir_not = dir_not a s.split;
    }

-- ---- the covered joinings

-- beside a seam that is forward at offset 0, a corner passing the rules once, a seam takes no point inside a column to
-- its end
inside_mapping : (m : Seam) (n : ℕ) → Beside once m n → (b : ℕ) → b < n → inverse m n b < n
inside_mapping unjoined n h b k = absurd h
inside_mapping (forward o) n h b k = ⊎_elim (λ w. omega arith) (λ w. omega arith) (inv_forward o n b h (omega arith))
inside_mapping (reverse o) n h b k =
    ⊎_elim (λ w. omega arith) (λ w. omega arith) (inv_reverse o n b h.0 h.1 (omega arith))

offset_closed : (o n : ℕ) → o < n → Offset o true n
offset_closed zero n h = tt
offset_closed (suc o) n h = h

beside_fits : (r : Rule) (m : Seam) (n : ℕ) → Beside r m n → Fits m true n
beside_fits r unjoined n h = tt
beside_fits r (forward o) n h = offset_closed o n h
beside_fits once (reverse o) n h = offset_closed o n h.1
beside_fits twice (reverse o) n h = offset_closed o n h

offset_zero : (o : ℕ) (c : Bool) (n : ℕ) → o ≡ 0 → Offset o c n
offset_zero zero c n e = tt
offset_zero (suc o) c n e = absurd (omega arith)

at_zero_fits : (m : Seam) (c : Bool) (n : ℕ) → AtZero m → Fits m c n
at_zero_fits unjoined c n h = absurd h
at_zero_fits (forward o) c n h = offset_zero o c n h
at_zero_fits (reverse o) c n h = offset_zero o c n h

unjoined_fits : (m : Seam) (c : Bool) (n : ℕ) → m ≡ unjoined → Fits m c n
unjoined_fits m c n e = rw e tt

module _ (a : Axis) (s : Shape) where
  -- beside an unjoined seam
  open_columns : closing a s ≡ unjoined → Fits (seam_of a s) (joined (closing a s)) (rows a s) → SeenAlong a s
  open_columns e f = record { fits = f; plain = inl e; inside = free s.rule }
    where
      free : (r : Rule) → KeepsInside r (seam_of a s) (joined (closing a s)) (rows a s)
      free once = λ d. absurd (true≢false (sym d ∙ ap joined e))
      free twice = tt

  -- beside a seam that is forward at offset 0
  closed_columns : closing a s ≡ forward 0 → Beside s.rule (seam_of a s) (rows a s) → SeenAlong a s
  closed_columns e b =
      record {
        fits = rw e (beside_fits s.rule (seam_of a s) (rows a s) b);
        plain = inr e;
        inside = keeps s.rule b;
      }
    where
      keeps : (r : Rule) → Beside r (seam_of a s) (rows a s) →
          KeepsInside r (seam_of a s) (joined (closing a s)) (rows a s)
      keeps once h = λ d i k. inside_mapping (seam_of a s) (rows a s) h i k
      keeps twice h = tt

pub covered_along : (s : Shape) → Covered s → (a : Axis) × SeenAlong a s
covered_along s (neither p q) = (AxisU, open_columns AxisU s q (unjoined_fits s.su (joined s.sv) s.N p))
covered_along s (only_u p q) = (AxisU, open_columns AxisU s q (at_zero_fits s.su (joined s.sv) s.N p))
covered_along s (only_v p q) = (AxisV, open_columns AxisV s p (at_zero_fits s.sv (joined s.su) s.M q))
covered_along s (both_u p q) = (AxisU, closed_columns AxisU s q p)
covered_along s (both_v p q) = (AxisV, closed_columns AxisV s p q)
