-- Rules 6.3: the cell on whose diagonal a point is. Original: `diagonal_cell_at`.
use Rattle.std.specs.Prelude.{Bool, false, ◌&&◌, cond, Option, Some, None, ℕ, ℤ, pos, negsuc, ◌-ℤ◌, ltb, Float}
use Rattle.std.specs.Float.{binary64}
use Rattle.std.specs.Float.Ieee.{lt, add, sub}
use Rattle.float.specs.Consts.{eps, one64}
use Rattle.float.specs.Sign.{absolute}
use Rattle.float.specs.Whole.{floor_z}
use Rattle.float.specs.Cast.{nat_float}
use Rattle.param.specs.declared.ParamPoint.{ParamPoint}
use Rattle.param.specs.declared.Cells.{Cells}
use Rattle.param.specs.Param.{within}

-- z as the index of one of n cells; a floor can be below 0, and is then in no grid
unfoldable pub index_of : ℤ → ℕ → Option ℕ
index_of (pos k) n = cond (ltb k n) (Some k) None
index_of (negsuc k) n = None

-- the point is on the diagonal of cell (u, v): its distances s and t from the cell's corner are within EPS of 0 to 1,
-- and s + t is less than EPS from 1
unfoldable pub on_diagonal : ParamPoint → ℕ → ℕ → Bool
on_diagonal p u v =
    let s = sub binary64 p.u (nat_float u) in
    let t = sub binary64 p.v (nat_float v) in
    within s one64 && (within t one64 && lt (absolute (sub binary64 (add binary64 s t) one64)) eps)

-- the cell of two indices, where the point is on its diagonal
unfoldable pub try_cell : ParamPoint → Option ℕ → Option ℕ → Option (ℕ × ℕ)
try_cell p None j = None
try_cell p (Some u) None = None
try_cell p (Some u) (Some v) = cond (on_diagonal p u v) (Some (u, v)) None

-- x is in the cells of an index on one axis; where a point is not, on either axis, it is on no diagonal there.
-- For the code alone, which then passes over these cells
unfoldable pub in_cell : Float → Option ℕ → Bool
in_cell x None = false
in_cell x (Some k) = within (sub binary64 x (nat_float k)) one64

-- the first of two answers that is a cell
abbrev pub or_cell : Option (ℕ × ℕ) → Option (ℕ × ℕ) → Option (ℕ × ℕ)
or_cell (Some c) b = Some c
or_cell None b = b

-- of the four cells at the floors of u and v or one below, the first that has the point on its diagonal
unfoldable pub diagonal_cell_at : Cells → ParamPoint → Option (ℕ × ℕ)
diagonal_cell_at k p =
    let u0 = index_of (floor_z p.u -ℤ pos 1) k.m in
    let u1 = index_of (floor_z p.u) k.m in
    let v0 = index_of (floor_z p.v -ℤ pos 1) k.n in
    let v1 = index_of (floor_z p.v) k.n in
    or_cell (try_cell p u0 v0) (or_cell (try_cell p u0 v1) (or_cell (try_cell p u1 v0) (try_cell p u1 v1)))
