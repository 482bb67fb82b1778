-- A surface seen along an axis is a strip: its triangles, rims, edges and flipped pairs are the strip's, with u and v
-- in their places or exchanged.
--
use Prim.Native.Nat.{ℕ, ◌-◌, ◌≤◌, ◌<◌}
use mathlib.Core.Path.{◌≡◌, sym, ap, ◌∙◌}
use mathlib.Core.Logic.{inl, inr, ⊎_elim}
use mathlib.Core.Bool.{Bool, true, false, not, true≢false, cond}
use mathlib.Core.List.{[]}
use Rattle.param.specs.declared.Axis.{Axis}
use Rattle.param.specs.declared.Axis.TheVariants.{AxisU, AxisV}
use Rattle.surface.specs.Surface.{Seam, unjoined, joined, reversed, Split, falling, rising, Shape, J, half_of}
use Rattle.surface.specs.Surface.{Follows, Rim, GridEdge, along_u, along_v, falls, rises, process, flipped}
use Rattle.surface.specs.Rims.{rim_steps as rows, low_of, high_of}
use Rattle.surface.proofs.Strip.{Strip, Kind, straight, across, diagonal, point_of}
use Rattle.surface.proofs.CellSides.{Cell, corners, ends_of, side_from, side_to}
use Rattle.surface.proofs.Owners.{OnRim}
use Rattle.surface.proofs.Rims.{Numbered, EdgeAt, edge_flip, rim_to, rim_from, edge_across, edge_straight}
use Rattle.surface.proofs.Rims.{edge_falling, edge_rising}
use Rattle.surface.proofs.Directions.{Runs, along_ends, ends_along}
use Rattle.surface.proofs.Triangles.{half_num, index}
use Rattle.surface.proofs.Halves.{cell_dir, start, finish, cell_corners, follows_run, run_follows, low_u_index}
use Rattle.surface.proofs.Halves.{high_u_index, low_v_index, high_v_index}
use Rattle.surface.proofs.Axes.{columns, seam_of, closing, x_of, y_of, kind_of, turn_kind, side_half, side_dir, Plain}
use Rattle.surface.proofs.Axes.{SeenAlong, HasSteps, strip}
use Rattle.surface.proofs.Points.{J-is, corner_is}

-- ---- runs along a cell's sides

-- two sides whose ends are the same have the same runs; if their ends are the other way round, opposite runs
run_same : (w : Bool) {a b a' b' : ℕ} → a ≡ a' → b ≡ b' →
    (start w (a, b) ≡ start w (a', b')) × (finish w (a, b) ≡ finish w (a', b'))
run_same true p q = (p, q)
run_same false p q = (q, p)

run_not : (w : Bool) {a b a' b' : ℕ} → a ≡ b' → b ≡ a' →
    (start w (a, b) ≡ start (not w) (a', b')) × (finish w (a, b) ≡ finish (not w) (a', b'))
run_not true p q = (p, q)
run_not false p q = (q, p)

-- so a run along a side of the cell with corners c is one along a side of the strip's cell, with corners c'
run_is : (c c' : Bool → Bool → ℕ) (a : Axis) → ((i j : Bool) → c i j ≡ c' (x_of a i j) (y_of a i j)) →
    (d : Split) (k : Kind) (t : Bool) →
    (start (cell_dir (kind_of a k) t) (ends_of c (kind_of a k) d t) ≡ start (side_dir a d k t) (ends_of c' k d t))
    × (finish (cell_dir (kind_of a k) t) (ends_of c (kind_of a k) d t) ≡ finish (side_dir a d k t) (ends_of c' k d t))
run_is c c' AxisU e d straight t = run_same t (e t false) (e t true)
run_is c c' AxisU e d across t = run_same (not t) (e false t) (e true t)
run_is c c' AxisU e falling diagonal t = run_same t (e false true) (e true false)
run_is c c' AxisU e rising diagonal t = run_same t (e false false) (e true true)
run_is c c' AxisV e d straight t = run_same (not t) (e false t) (e true t)
run_is c c' AxisV e d across t = run_same t (e t false) (e t true)
run_is c c' AxisV e falling diagonal t = run_not t (e false true) (e true false)
run_is c c' AxisV e rising diagonal t = run_same t (e false false) (e true true)

-- a plain seam that is not joined is unjoined, and none is reversed
plain_open : (m : Seam) → Plain m → joined m ≡ false → m ≡ unjoined
plain_open m (inl e) j = e
plain_open m (inr e) j = absurd (true≢false (sym (ap joined e) ∙ j))

plain_reversed : (m : Seam) → Plain m → reversed m ≡ false
plain_reversed m (inl e) = ap reversed e
plain_reversed m (inr e) = ap reversed e

-- the slots of the strip's first and last column
pub low_index : (s : Shape) (a : Axis) (y : ℕ) →
    low_of a s y ≡ index s (side_half a s.split straight false) (x_of a 0 y) (y_of a 0 y)
low_index s AxisU y = low_u_index s y
low_index s AxisV y = low_v_index s y

pub high_index : (s : Shape) (a : Axis) (y : ℕ) →
    high_of a s y ≡ index s (side_half a s.split straight true) (x_of a (columns a s - 1) y) (y_of a (columns a s - 1) y)
high_index s AxisU y = high_u_index s y
high_index s AxisV y = high_v_index s y

-- ---- cells

cell_seen : (s : Shape) (steps : HasSteps s) (a : Axis) (w : SeenAlong a s) (u v : ℕ) → u < s.M → v < s.N →
    Cell (strip s steps a w) (x_of a u v) (y_of a u v)
unfolding strip
cell_seen s steps AxisU w u v h k = (h, k)
cell_seen s steps AxisV w u v h k = (k, h)

pub seen_cell : (s : Shape) (steps : HasSteps s) (a : Axis) (w : SeenAlong a s) (x y : ℕ) →
    Cell (strip s steps a w) x y → (x_of a x y < s.M) × (y_of a x y < s.N)
unfolding strip
seen_cell s steps AxisU w x y c = (c.0, c.1)
seen_cell s steps AxisV w x y c = (c.1, c.0)

-- ---- triangles, rims, edges and flipped pairs

module _ (s : Shape) (steps : HasSteps s) (a : Axis) (w : SeenAlong a s) where
  abbrev S : Strip
  S = strip s steps a w

  pub to_runs : (h : Bool) (i j p q : ℕ) → i < s.M → j < s.N → Follows (half_of s s.split (half_num h) i j) p q →
      Runs S h (x_of a i j) (y_of a i j) p q
  unfolding side_from side_to strip
  to_runs h i j p q hi hj f =
      let x = x_of a i j in
      let y = y_of a i j in
      let r = follows_run s i j p q s.split h f in
      let k = kind_of a r.k in
      let e =
      rw (turn_kind a r.k) at (run_is (cell_corners s i j) (corners S x y) a (corner_is s steps a w i j hi hj)
      s.split k r.t) in
      record {
        k = k;
        t = r.t;
        cell = cell_seen s steps a w i j hi hj;
        on = rw (turn_kind a r.k) r.on;
        along =
            ends_along (S.dir k r.t) (side_from S k r.t x y) (side_to S k r.t x y) (sym r.runs.0 ∙ e.0)
            (sym r.runs.1 ∙ e.1);
      }

  pub from_runs : (h : Bool) (i j p q : ℕ) → i < s.M → j < s.N → Runs S h (x_of a i j) (y_of a i j) p q →
      Follows (half_of s s.split (half_num h) i j) p q
  unfolding side_from side_to strip
  from_runs h i j p q hi hj r =
      let x = x_of a i j in
      let y = y_of a i j in
      let e = run_is (cell_corners s i j) (corners S x y) a (corner_is s steps a w i j hi hj) s.split r.k r.t in
      let g = along_ends r.along in
      rw (← r.on) (run_follows s i j p q s.split (kind_of a r.k) r.t (e.0 ∙ sym g.0, e.1 ∙ sym g.1))

  -- J gives the strip's points their numbers
  abbrev P : ℕ → ℕ → ℕ
  P x y = J s (x_of a x y) (y_of a x y)

  P-is : (x y : ℕ) → y ≤ S.Y → P x y ≡ point_of S x y
  unfolding strip
  P-is = J-is s steps a w

  abbrev by_J : Numbered S
  by_J = record { P = P; P-is = P-is }

-- the surface's rims are the strip's, and its edges are sides of the strip's cells
pub rim_seen : (s : Shape) (steps : HasSteps s) (a : Axis) (w : SeenAlong a s) (p q : ℕ) → Rim s p q →
    OnRim (strip s steps a w) p q
unfolding strip
rim_seen s steps AxisU w p q (inl r) = rim_to (by_J s steps AxisU w) p q (inl r)
rim_seen s steps AxisU w p q (inr r) = rim_to (by_J s steps AxisU w) p q (inr (ap joined r.0, r.1))
rim_seen s steps AxisV w p q (inl r) = rim_to (by_J s steps AxisV w) p q (inr (ap joined r.0, r.1))
rim_seen s steps AxisV w p q (inr r) = rim_to (by_J s steps AxisV w) p q (inl r)

pub seen_rim : (s : Shape) (steps : HasSteps s) (a : Axis) (w : SeenAlong a s) (p q : ℕ) →
    OnRim (strip s steps a w) p q → Rim s p q
unfolding strip
seen_rim s steps AxisU w p q r =
    ⊎_elim (λ z. inl z) (λ z. inr (plain_open s.sv w.plain z.0, z.1)) (rim_from (by_J s steps AxisU w) p q r)
seen_rim s steps AxisV w p q r =
    ⊎_elim (λ z. inr z) (λ z. inl (plain_open s.su w.plain z.0, z.1)) (rim_from (by_J s steps AxisV w) p q r)

pub edge_seen : (s : Shape) (steps : HasSteps s) (a : Axis) (w : SeenAlong a s) (i j i' j' : ℕ) → GridEdge s i j i' j' →
    EdgeAt (strip s steps a w) (J s i j) (J s i' j')
unfolding strip
edge_seen s steps AxisU w i j i' j' (along_u {u} {v} h k) = edge_across (by_J s steps AxisU w) u v h k
edge_seen s steps AxisU w i j i' j' (along_v {u} {v} h k) = edge_straight (by_J s steps AxisU w) u v h k
edge_seen s steps AxisU w i j i' j' (falls {u} {v} h k e) = edge_falling (by_J s steps AxisU w) u v h k e
edge_seen s steps AxisU w i j i' j' (rises {u} {v} h k e) = edge_rising (by_J s steps AxisU w) u v h k e
edge_seen s steps AxisV w i j i' j' (along_u {u} {v} h k) = edge_straight (by_J s steps AxisV w) v u k h
edge_seen s steps AxisV w i j i' j' (along_v {u} {v} h k) = edge_across (by_J s steps AxisV w) v u k h
edge_seen s steps AxisV w i j i' j' (falls {u} {v} h k e) = edge_flip (edge_falling (by_J s steps AxisV w) v u k h e)
edge_seen s steps AxisV w i j i' j' (rises {u} {v} h k e) = edge_rising (by_J s steps AxisV w) v u k h e

-- only the strip's seam can be reversed
pub flipped_seen : (s : Shape) (a : Axis) → Plain (closing a s) →
    flipped s ≡ cond (reversed (seam_of a s))
    (process s (seam_of a s) (rows a s) (low_of a s) (high_of a s) (rows a s) []) []
unfolding flipped
flipped_seen s AxisU w = rw (plain_reversed s.sv w)
flipped_seen s AxisV w = rw (plain_reversed s.su w)
