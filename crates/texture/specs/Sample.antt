-- Rules 10.3 and 10.4: the angle of a ray's sample, and its u and v from a lent cosine and sine. In the original these
-- are the closures in `paths_swirl` and `paths_spiral`.
use Rattle.std.specs.Prelude.{Bool, ◌&&◌, ℕ, ltb, leb, Float}
use Rattle.std.specs.Float.{binary64}
use Rattle.std.specs.Float.Ieee.{add, sub, mul, div}
use Rattle.float.specs.Consts.{tau, zero64, one64}
use Rattle.float.specs.Sign.{at_most}
use Rattle.float.specs.Cast.{nat_float}
use Rattle.refusal.specs.declared.Refusal.TheVariants as refusals
use Rattle.refusal.specs.Refusals.{passed, Answer, ok, unless, passing}
use Rattle.param.specs.Param.{param}
use Rattle.param.specs.declared.ParamPoint.{ParamPoint}
use Rattle.texture.specs.declared.plan.ParametricSurfaceTexture.{ParametricSurfaceTexture}
use Rattle.texture.specs.declared.plan.ParametricSurfaceTexture.TheVariants.{Grid, Swirl, Spiral}
use Rattle.texture.specs.declared.plan.PlanCounts.{PlanCounts}
use Rattle.texture.specs.declared.sample.Sample.{Sample}
use Rattle.texture.specs.Plan.{centre, texture_radius, texture_spacing, spiral_turns, plan_check, plan_of}

-- ---- the formulas

-- the part i / count of a whole
abbrev pub part : ℕ → ℕ → Float
part i count = div binary64 (nat_float i) (nat_float count)

-- the angle at which a ray starts
abbrev pub base_angle : ℕ → ℕ → Float
base_angle rays ray = mul binary64 (part ray rays) tau

-- how far the angle of sample i of a ray is from the ray's, its samples being `count`
abbrev pub turn_of : ParametricSurfaceTexture → ℕ → ℕ → ℕ → ℕ → Float
turn_of Grid m n count i = zero64
turn_of (Swirl spacing twist) m n count i =
    div binary64 (mul binary64 (mul binary64 tau twist) (nat_float i)) (nat_float count)
turn_of (Spiral spacing arms) m n count i =
    mul binary64 (mul binary64 (part i count) tau) (spiral_turns m n (texture_spacing spacing))

-- Rules 10.3: the angle of sample i of a ray
unfoldable pub angle_of : ParametricSurfaceTexture → ℕ → ℕ → PlanCounts → ℕ → ℕ → Float
angle_of t m n p ray i = add binary64 (base_angle p.rays ray) (turn_of t m n p.samples i)

-- Rules 10.4: how far a sample is from the centre
abbrev pub distance_of : ParametricSurfaceTexture → ℕ → ℕ → ℕ → ℕ → Float
distance_of Grid m n count i = zero64
distance_of (Swirl spacing twist) m n count i =
    div binary64 (mul binary64 (texture_radius m n) (nat_float i)) (nat_float count)
distance_of (Spiral spacing arms) m n count i = mul binary64 (texture_radius m n) (sub binary64 one64 (part i count))

-- Rules 10.4: the point that is so far from the centre, along the cosine and the sine
unfoldable pub point_of : ParametricSurfaceTexture → ℕ → ℕ → ℕ → ℕ → Float → Float → ParamPoint
point_of t m n count i cosine sine =
    let r = distance_of t m n count i in
    param (add binary64 (centre m) (mul binary64 cosine r)) (add binary64 (centre n) (mul binary64 sine r))

-- ---- the calls

-- for inner contracts: sample i of a ray, of a texture that has a plan; it need not be there
abbrev pub sample_of : ParametricSurfaceTexture → ℕ → ℕ → ℕ → ℕ → Answer Sample
sample_of t m n ray i =
    passing (plan_check t m n passed)
    (ok (record { texture = t; cells = record { m = m; n = n }; counts = plan_of t m n; ray = ray; index = i }))

-- Rules 11.1: what refusal 8 asks for: the plan has this ray, and the ray this sample, the last too; Grid has no ray
abbrev pub is_there : PlanCounts → ℕ → ℕ → Bool
is_there p ray i = ltb ray p.rays && leb i p.samples

-- the open call `angle`: refusals 1, 5, 6 and 8
unfoldable pub angle : ParametricSurfaceTexture → ℕ → ℕ → ℕ → ℕ → Answer Float
angle t m n ray i =
    passing (plan_check t m n (unless (is_there (plan_of t m n) ray i) refusals.NotThere passed))
    (ok (angle_of t m n (plan_of t m n) ray i))

-- Rules 11.1: what refusal 7 asks for: both are from −1 to 1
abbrev pub direction_fits : Float → Float → Bool
direction_fits cosine sine = at_most cosine one64 && at_most sine one64

-- the open call `sample_point`: refusals 1, 5, 6, 7 and 8
unfoldable pub sample_point : ParametricSurfaceTexture → ℕ → ℕ → ℕ → ℕ → Float → Float → Answer ParamPoint
sample_point t m n ray i cosine sine =
    passing (plan_check t m n (unless (direction_fits cosine sine) refusals.Direction
    (unless (is_there (plan_of t m n) ray i) refusals.NotThere passed)))
    (ok (point_of t m n (plan_of t m n).samples i cosine sine))
