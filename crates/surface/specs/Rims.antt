-- Rules 4.4, for either seam: that of axis u joins column 0, its low rim, and column M, its high rim; that of axis v
-- joins row 0 and row N. (The rim of Rules 5.3, of an unjoined seam, is `Rim` in Surface.antt.)
use Rattle.std.specs.Prelude.{ℕ}
use Rattle.param.specs.declared.Axis.{Axis}
use Rattle.param.specs.declared.Axis.TheVariants.{AxisU, AxisV}
use Rattle.surface.specs.Surface.{Shape, low_u, high_u, low_v, high_v}

-- the steps along the rims
abbrev pub rim_steps : Axis → Shape → ℕ
rim_steps AxisU s = s.N
rim_steps AxisV s = s.M

-- the slot at each step of the low rim, and of the high rim
abbrev pub low_of : Axis → Shape → ℕ → ℕ
low_of AxisU s = low_u s
low_of AxisV s = low_v s

abbrev pub high_of : Axis → Shape → ℕ → ℕ
high_of AxisU s = high_u s
high_of AxisV s = high_v s
