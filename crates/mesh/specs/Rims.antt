-- Rules 4.4 as the code takes it: the low and high rim of a seam (`surface`, Rims.antt) and their triangles, for either
-- seam.
use Rattle.std.specs.Prelude.{ℕ, ◌+◌, ◌*◌, ◌≤◌, ◌<◌, ◌≡◌, cond, List, ltb, length, get_or, Option, Some, None}
use Rattle.param.specs.declared.Axis.{Axis}
use Rattle.param.specs.declared.Axis.TheVariants.{AxisU, AxisV}
use Rattle.cyclic.specs.Mapping as cyclic
use Rattle.surface.specs.Surface.{Seam, reversed, Shape, triangle_number, step_on, Pair, put_down, process}
use Rattle.surface.specs.Rims.{rim_steps, low_of, high_of}
use Rattle.mesh.specs.declared.corner.Surface.{Surface}
use Rattle.mesh.specs.declared.triangles.Half.{Half}
use Rattle.mesh.specs.declared.triangles.Half.TheVariants.{First, Second}
use Rattle.mesh.specs.Corners.{shape_of}

-- a surface's seam
abbrev pub seam_at : Axis → Surface → cyclic.Seam
seam_at AxisU s = s.u
seam_at AxisV s = s.v

-- the slot at each step of a rim: the low one is named by the first half of its cells, the high one by the second
abbrev pub rim_slot : Half → Axis → Shape → ℕ → ℕ
rim_slot First axis s i = low_of axis s i
rim_slot Second axis s i = high_of axis s i

-- a step, for none of which `steps` stands in `Surface.antt`
abbrev pub step_if : ℕ → ℕ → Option ℕ
step_if steps k = cond (ltb k steps) (Some k) None

-- the number of triangles before each u, and of all
pub record Starts (surface : Surface) (starts : List ℕ) : Type 0 where
  pub room : surface.m < length starts
  pub at : (u : ℕ) → u ≤ surface.m → get_or starts u 0 ≡ triangle_number (shape_of surface) (2 * (u * surface.n))

-- the number of triangles before each triangle of the low rim, and after each of the high rim
pub record Rims (axis : Axis) (s : Shape) (low high : List ℕ) : Type 0 where
  pub low_room : rim_steps axis s < length low
  pub high_room : rim_steps axis s < length high
  pub before : (i : ℕ) → i < rim_steps axis s → get_or low i 0 ≡ triangle_number s (low_of axis s i)
  pub after : (i : ℕ) → i < rim_steps axis s → get_or high (i + 1) 0 ≡ triangle_number s (high_of axis s i + 1)

-- step i of the high rim with the step of the low rim that lies on it, if there is one
abbrev pub flip_step : Axis → Shape → Seam → ℕ → List Pair → List Pair
flip_step axis s m i ps =
    cond (ltb (step_on m (rim_steps axis s) i) (rim_steps axis s))
    (put_down s (low_of axis s (step_on m (rim_steps axis s) i)) (high_of axis s i) ps) ps

-- steps 0 to n−1
abbrev pub flip_steps : Axis → Shape → Seam → ℕ → List Pair → List Pair
flip_steps axis s m n ps = process s m (rim_steps axis s) (low_of axis s) (high_of axis s) n ps

-- the flipped pairs of a seam, if it is reversed
abbrev pub flips : Axis → Shape → Seam → List Pair → List Pair
flips axis s m ps = cond (reversed m) (flip_steps axis s m (rim_steps axis s) ps) ps
