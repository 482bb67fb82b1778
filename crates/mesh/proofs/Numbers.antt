-- Numbers of triangles: how a cell adds to the count, which slots the rims have, and the step of one rim on another.
use Prim.Native.Nat.{ℕ, ◌+◌, ◌-◌, ◌*◌, ◌≤◌, ◌<◌}
use mathlib.Core.Path.{◌≡◌, refl}
use mathlib.Core.Bool.{Bool, true, false, cond}
use native.Mathlib.Nat.{mul-le-mul}
use native.Mathlib.Omega.{arith}
use Rattle.std.specs.Int.{from_bool}
use Rattle.param.specs.declared.Axis.{Axis}
use Rattle.cyclic.specs.declared.mapping.CyclicMapping.{CyclicMapping}
use Rattle.cyclic.specs.Mapping as cyclic
use Rattle.cyclic.proofs.Mappings.{inverse_within}
use Rattle.surface.specs.Surface.{Shape, Triangle, proper, slot, triangle_number, low_u, high_u, low_v, high_v}
use Rattle.surface.specs.Surface.{wrap_ends, step_on}
use Rattle.surface.specs.Found.{of_mapping}
use Rattle.surface.proofs.Triangles.{number_more, number_most}
use Rattle.surface.proofs.Joinings.{inverse_of}
use Rattle.mesh.specs.declared.corner.Surface.{Surface}
use Rattle.mesh.specs.declared.triangles.Half.{Half}
use Rattle.mesh.specs.Corners.{shape_of, slot_at}
use Rattle.mesh.specs.Rims.{rim_slot}
use Rattle.mesh.proofs.Joins.{inverse_is}

-- A cell's two slots, counted

pub cell_most : (n u v : ℕ) → u < 255 → v < n → n ≤ 255 → u * n + v < 65025
cell_most n u v p q r =
    let h : u ≤ 254 = omega arith in
    omega (arith, mul-le-mul {n₂ = 254} {m₂ = 255} h r)

pub cell_counted : (s : Shape) (n u v : ℕ) →
    triangle_number s (2 * (u * n + (v + 1)))
    ≡ triangle_number s (2 * (u * n + v)) + cond (proper (slot s (2 * (u * n + v)))) 1 0
    + cond (proper (slot s (2 * (u * n + v) + 1))) 1 0
cell_counted s n u v =
    let k : 2 * (u * n + (v + 1)) ≡ 2 * (u * n + v) + 1 + 1 = omega arith in
    rw (k, number_more s (2 * (u * n + v) + 1), number_more s (2 * (u * n + v)))

pub one_most : (b : Bool) → from_bool b ≤ 1
one_most true = omega arith
one_most false = omega arith

pub ruleset counted = (cell_most, cell_counted, number_most, number_more)

-- The slots of the rims, as cells

module _ (s : Surface) (i : ℕ) where
  pub low_u_lem : low_u (shape_of s) i ≡ 2 * (0 * s.n + i)
  unfolding low_u
  low_u_lem = omega arith

  pub low_v_lem : low_v (shape_of s) i ≡ 2 * (i * s.n + 0)
  unfolding low_v
  low_v_lem = omega arith

  pub high_u_lem : high_u (shape_of s) i ≡ 2 * ((s.m - 1) * s.n + i) + 1
  unfolding high_u
  high_u_lem = refl

  pub high_v_lem : high_v (shape_of s) i ≡ 2 * (i * s.n + (s.n - 1)) + 1
  unfolding high_v
  high_v_lem = refl

-- the cell p of a rim's step, by the axis and the half that it is told by
pub rim_is : (s : Surface) (i : ℕ) {a axis : Axis} {h half : Half} {p : ℕ × ℕ} {u v : ℕ} {t : Triangle} {r : Bool} →
    a ≡ axis → h ≡ half → p ≡ (u, v) → rim_slot half axis (shape_of s) i ≡ slot_at half (u * s.n + v) →
    t ≡ slot (shape_of s) (slot_at h (p.0 * s.n + p.1)) → r ≡ proper t →
    r ≡ proper (slot (shape_of s) (rim_slot h a (shape_of s) i))
rim_is s i ea eh ep e t r = rw (r, t, ep, eh, ea, e)

-- The step of one rim on another, between the inverse images of its two ends

pub step_is : (m : CyclicMapping) (steps i : ℕ) {a b r : ℕ} →
    cyclic.steps_of m ≡ steps → a ≡ cyclic.inverse m i → b ≡ cyclic.inverse m (i + 1) →
    r ≡ wrap_ends steps a b → r ≡ step_on (of_mapping m) steps i
unfolding step_on
step_is m steps i e p q h = rw (h, p, q, inverse_is m steps i e, inverse_is m steps (i + 1) e)

pub ruleset step_ends = (inverse_within, inverse_of)
