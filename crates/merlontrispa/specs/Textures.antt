-- Rules 10, for C: a texture by its kind and numbers, and its plan, angles and sample points.
use Rattle.std.specs.Prelude.{ℕ, cond, eqb, Float}
use Rattle.float.specs.Consts.{zero64}
use Rattle.refusal.specs.Refusals.{Answer, ok, refused}
use Rattle.param.specs.declared.ParamPoint.{ParamPoint}
use Rattle.texture.specs.declared.plan.ParametricSurfaceTexture.{ParametricSurfaceTexture}
use Rattle.texture.specs.declared.plan.ParametricSurfaceTexture.TheVariants.{Grid, Swirl, Spiral}
use Rattle.texture.specs.declared.plan.PlanCounts.{PlanCounts}
use Rattle.merlontrispa.specs.declared.textures.RayCounts.{RayCounts}
use Rattle.merlontrispa.specs.declared.textures.RayAngle.{RayAngle}
use Rattle.merlontrispa.specs.declared.textures.RayPoint.{RayPoint}

-- Rules 11.3: the texture of a kind, a spacing, a twist and arms: kind 0 is Grid, 1 Swirl, every other Spiral
abbrev pub texture_of : ℕ → Float → Float → ℕ → ParametricSurfaceTexture
texture_of kind spacing twist arms =
    cond (eqb kind 0) Grid (cond (eqb kind 1) (Swirl spacing twist) (Spiral spacing arms))

-- Rules 11.3: a refusal comes with its number alone, so counts, angle and point are 0
abbrev pub ray_counts : Answer PlanCounts → RayCounts
ray_counts (ok p) = record { refusal = 0; rays = p.rays; samples = p.samples }
ray_counts (refused k) = record { refusal = k; rays = 0; samples = 0 }

abbrev pub ray_angle : Answer Float → RayAngle
ray_angle (ok a) = record { refusal = 0; angle = a }
ray_angle (refused k) = record { refusal = k; angle = zero64 }

abbrev pub ray_point : Answer ParamPoint → RayPoint
ray_point (ok p) = record { refusal = 0; u = p.u; v = p.v }
ray_point (refused k) = record { refusal = k; u = zero64; v = zero64 }
