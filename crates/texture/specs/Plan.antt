-- Rules 10.1 and 10.2: the plan of a texture, its counts of rays and of samples per ray. Each operation of a formula
-- rounds once, in the order of the original.
use Rattle.std.specs.Prelude.{Bool, true, ◌&&◌, cond, ℕ, max, leb, Float}
use Rattle.std.specs.Float.{binary64}
use Rattle.std.specs.Float.Ieee.{of_bits, lt, le, add, mul, div, to_unsigned}
use Rattle.float.specs.Consts.{eps, tau, sqrt2, zero64, one64, half64}
use Rattle.float.specs.Sign.{absolute, is_finite, at_most}
use Rattle.float.specs.Order.{larger, clamped}
use Rattle.float.specs.Whole.{ceiled}
use Rattle.float.specs.Cast.{nat_float}
use Rattle.refusal.specs.declared.Refusal.TheVariants as refusals
use Rattle.refusal.specs.Refusals.{Check, passed, Answer, ok, unless, passing}
use Rattle.grid.specs.Grid.{steps_fit}
use Rattle.texture.specs.declared.plan.ParametricSurfaceTexture.{ParametricSurfaceTexture}
use Rattle.texture.specs.declared.plan.ParametricSurfaceTexture.TheVariants.{Grid, Swirl, Spiral}
use Rattle.texture.specs.declared.plan.PlanCounts.{PlanCounts}

abbrev pub two : Float
two = of_bits binary64 0x4000000000000000

-- 0.05
abbrev pub twentieth : Float
twentieth = of_bits binary64 0x3FA999999999999A

-- ---- Rules 10.1: `texture_center_radius`, in two; `texture_spacing`

-- the middle of an axis of n steps (Rules 10.4)
abbrev pub centre : ℕ → Float
centre n = mul binary64 (nat_float n) half64

-- the radius: half the longer axis, times √2
unfoldable pub texture_radius : ℕ → ℕ → Float
texture_radius m n = mul binary64 (mul binary64 (larger (nat_float m) (nat_float n)) half64) sqrt2

-- 1 stands for a spacing that is not finite or not above EPS
unfoldable pub texture_spacing : Float → Float
texture_spacing x = cond (is_finite x && lt eps x) x one64

-- ---- Rules 10.2: what `radial_sample_count` and `spiral_sample_count` share

-- x rounded up, and at least `least`
abbrev pub up_from : Float → Float → Float
up_from least x = larger (ceiled x) least

-- samples at most `spacing`, brought between 0.05 and 0.5, apart from each other along a length; at least 2
unfoldable pub samples_along : Float → Float → Float
samples_along length spacing = up_from two (div binary64 length (clamped spacing twentieth half64))

-- ---- `paths_swirl`

-- as many as keep the spacing between neighbours on the circle; at least 1
unfoldable pub swirl_rays : ℕ → ℕ → Float → Float
swirl_rays m n spacing = up_from one64 (div binary64 (mul binary64 tau (texture_radius m n)) spacing)

-- along the radius and, times it, the angle that the twist turns a ray by
unfoldable pub radial_sample_count : ℕ → ℕ → Float → Float → Float
radial_sample_count m n spacing twist =
    samples_along (mul binary64 (texture_radius m n) (add binary64 one64 (absolute (mul binary64 tau twist)))) spacing

-- ---- `paths_spiral`

-- as many as keep the spacing between turns; at least 1
unfoldable pub spiral_turns : ℕ → ℕ → Float → Float
spiral_turns m n spacing = up_from one64 (div binary64 (texture_radius m n) spacing)

-- along the radius and all turns, at half of it on average
unfoldable pub spiral_sample_count : ℕ → ℕ → Float → Float
spiral_sample_count m n spacing =
    samples_along
    (add binary64 (texture_radius m n)
    (mul binary64 (mul binary64 (mul binary64 (texture_radius m n) tau) (spiral_turns m n spacing)) half64))
    spacing

-- ---- the plan

-- rays, before they are a count; a spiral without arms has one
abbrev pub rays_of : ℕ → ℕ → ParametricSurfaceTexture → Float
rays_of m n Grid = zero64
rays_of m n (Swirl spacing twist) = swirl_rays m n (texture_spacing spacing)
rays_of m n (Spiral spacing arms) = nat_float (max arms 1)

-- samples per ray, before they are a count
abbrev pub samples_per_ray : ℕ → ℕ → ParametricSurfaceTexture → Float
samples_per_ray m n Grid = zero64
samples_per_ray m n (Swirl spacing twist) = radial_sample_count m n (texture_spacing spacing) twist
samples_per_ray m n (Spiral spacing arms) = spiral_sample_count m n (texture_spacing spacing)

-- 64, and 65,536
abbrev pub max_twist : Float
max_twist = of_bits binary64 0x4050000000000000

abbrev pub max_count : Float
max_count = of_bits binary64 0x40F0000000000000

-- Rules 11.1: what refusal 5 asks for: the twist is from −64 to 64, and there are at most 64 arms
abbrev pub texture_fits : ParametricSurfaceTexture → Bool
texture_fits Grid = true
texture_fits (Swirl spacing twist) = at_most twist max_twist
texture_fits (Spiral spacing arms) = leb arms 64

-- Rules 11.1: what refusal 6 asks for: neither count is beyond 65,536
abbrev pub counts_fit : Float → Float → Bool
counts_fit rays samples = le rays max_count && le samples max_count

-- Rules 11.2: refusals 1, 5 and 6, before what comes after them
unfoldable pub plan_check : ParametricSurfaceTexture → ℕ → ℕ → Check → Check
plan_check t m n after =
    unless (steps_fit m n) refusals.Steps
    (unless (texture_fits t) refusals.Texture
    (unless (counts_fit (rays_of m n t) (samples_per_ray m n t)) refusals.Count after))

-- Rules 10.2: the counts of a plan
abbrev pub plan_of : ParametricSurfaceTexture → ℕ → ℕ → PlanCounts
plan_of t m n = record { rays = to_unsigned 64 (rays_of m n t); samples = to_unsigned 64 (samples_per_ray m n t) }

-- the open call
unfoldable pub plan : ParametricSurfaceTexture → ℕ → ℕ → Answer PlanCounts
plan t m n = passing (plan_check t m n passed) (ok (plan_of t m n))
