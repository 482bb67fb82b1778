-- The two triangles of a cell by its sides: which of them has a side, and whether it runs along it from its first end
-- to its second. Here a straight side is a step of v and a side across is a step of u.
use Prim.Native.Nat.{ℕ, ◌+◌, ◌-◌, ◌*◌, ◌<◌}
use mathlib.Core.Path.{◌≡◌, refl}
use mathlib.Core.Logic.{inl, inr}
use mathlib.Core.Bool.{Bool, true, false, not, cond}
use native.Mathlib.Omega.{arith}
use Rattle.surface.specs.Surface.{Split, falling, rising, Shape, corner, half_of, slots, by_split, low_u, high_u}
use Rattle.surface.specs.Surface.{low_v, high_v, Follows}
use Rattle.surface.proofs.Strip.{Kind, straight, across, diagonal}
use Rattle.surface.proofs.CellSides.{shift, ends_of}
use Rattle.surface.proofs.Triangles.{half_num, index, index_lt}

-- the half that has the low (false) or high (true) side of a kind; of a diagonal the low one is the first half's. The
-- split matters for the straight sides only.
abbrev pub cell_half : Split → Kind → Bool → Bool
cell_half d across t = t
cell_half d diagonal t = t
cell_half falling straight t = t
cell_half rising straight t = not t

-- whether that half runs along it from its first end to its second
abbrev pub cell_dir : Kind → Bool → Bool
cell_dir straight t = t
cell_dir across t = not t
cell_dir diagonal t = t

-- where a run along a side starts, and where it ends
abbrev pub start : Bool → ℕ × ℕ → ℕ
start w e = cond w e.0 e.1

abbrev pub finish : Bool → ℕ × ℕ → ℕ
finish w e = cond w e.1 e.0

module _ (s : Shape) (u v : ℕ) where
  -- the corners of cell (u, v)
  abbrev pub cell_corners : Bool → Bool → ℕ
  cell_corners i j = corner s v (shift i u) (shift j v)

  -- a run along a side goes from a to b
  abbrev pub RunsAlong : Split → Kind → Bool → ℕ → ℕ → Type 0
  RunsAlong d k t a b =
      (start (cell_dir k t) (ends_of cell_corners k d t) ≡ a) × (finish (cell_dir k t) (ends_of cell_corners k d t) ≡ b)

  -- going around half h, b follows a: that is a run along one of its sides
  pub record SideRun (d : Split) (h : Bool) (a b : ℕ) : Type 0 where
    pub k : Kind
    pub t : Bool
    pub on : cell_half d k t ≡ h
    pub runs : RunsAlong d k t a b

  module _ (a b : ℕ) where
    pub follows_run : (d : Split) (h : Bool) → Follows (half_of s d (half_num h) u v) a b → SideRun d h a b
    unfolding half_of
    follows_run falling false (inl e) = record { k = across; t = false; on = refl; runs = e }
    follows_run falling false (inr (inl e)) = record { k = diagonal; t = false; on = refl; runs = e }
    follows_run falling false (inr (inr e)) = record { k = straight; t = false; on = refl; runs = e }
    follows_run falling true (inl e) = record { k = straight; t = true; on = refl; runs = e }
    follows_run falling true (inr (inl e)) = record { k = across; t = true; on = refl; runs = e }
    follows_run falling true (inr (inr e)) = record { k = diagonal; t = true; on = refl; runs = e }
    follows_run rising false (inl e) = record { k = across; t = false; on = refl; runs = e }
    follows_run rising false (inr (inl e)) = record { k = straight; t = true; on = refl; runs = e }
    follows_run rising false (inr (inr e)) = record { k = diagonal; t = false; on = refl; runs = e }
    follows_run rising true (inl e) = record { k = diagonal; t = true; on = refl; runs = e }
    follows_run rising true (inr (inl e)) = record { k = across; t = true; on = refl; runs = e }
    follows_run rising true (inr (inr e)) = record { k = straight; t = false; on = refl; runs = e }

    pub run_follows : (d : Split) (k : Kind) (t : Bool) → RunsAlong d k t a b →
        Follows (half_of s d (half_num (cell_half d k t)) u v) a b
    unfolding half_of
    run_follows falling straight false e = inr (inr e)
    run_follows falling straight true e = inl e
    run_follows falling across false e = inl e
    run_follows falling across true e = inr (inl e)
    run_follows falling diagonal false e = inr (inl e)
    run_follows falling diagonal true e = inr (inr e)
    run_follows rising straight false e = inr (inr e)
    run_follows rising straight true e = inr (inl e)
    run_follows rising across false e = inl e
    run_follows rising across true e = inr (inl e)
    run_follows rising diagonal false e = inr (inr e)
    run_follows rising diagonal true e = inl e

-- ---- the slots of the rims

-- each is the half that has the rim's side of its cell
module _ (s : Shape) (y : ℕ) where
  pub low_u_index : low_u s y ≡ index s (cell_half s.split straight false) 0 y
  unfolding low_u index
  low_u_index = go s.split
    where
      go : (d : Split) → 2 * y + by_split d 0 1 ≡ 2 * (0 * s.N + y) + half_num (cell_half d straight false)
      go falling = omega arith
      go rising = omega arith

  pub high_u_index : high_u s y ≡ index s (cell_half s.split straight true) (s.M - 1) y
  unfolding high_u index
  high_u_index = go s.split
    where
      go : (d : Split) → 2 * ((s.M - 1) * s.N + y) + by_split d 1 0 ≡
          2 * ((s.M - 1) * s.N + y) + half_num (cell_half d straight true)
      go falling = refl
      go rising = refl

  pub low_v_index : low_v s y ≡ index s (cell_half s.split across false) y 0
  unfolding low_v index
  low_v_index = omega arith

  pub high_v_index : high_v s y ≡ index s (cell_half s.split across true) y (s.N - 1)
  unfolding high_v index
  high_v_index = refl

  pub low_u_lt : 0 < s.M → y < s.N → low_u s y < slots s
  low_u_lt h k = rw low_u_index (index_lt s (cell_half s.split straight false) 0 y h k)

  pub high_u_lt : 0 < s.M → y < s.N → high_u s y < slots s
  high_u_lt h k = rw high_u_index (index_lt s (cell_half s.split straight true) (s.M - 1) y (omega arith) k)

  pub low_v_lt : 0 < s.N → y < s.M → low_v s y < slots s
  low_v_lt h k = rw low_v_index (index_lt s (cell_half s.split across false) y 0 k h)

  pub high_v_lt : 0 < s.N → y < s.M → high_v s y < slots s
  high_v_lt h k = rw high_v_index (index_lt s (cell_half s.split across true) y (s.N - 1) k (omega arith))
