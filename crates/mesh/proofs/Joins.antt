-- The corner rule by the code's steps: one rule for either seam gives the two of Rules 4.2, and stays within the grid.
use Prim.Native.Nat.{ℕ, ◌+◌, ◌≤◌}
use mathlib.Core.Path.{◌≡◌, refl}
use mathlib.Core.Bool.{Bool, true, false, ◌&&◌, cond}
use native.Mathlib.Omega.{arith}
use lib.Dec.{eqb}
use borrow.Author.Tests.{eq-eqb, ne_eqb}
use Rattle.std.specs.Prelude.{Some, None}
use Rattle.basics.proofs.Tests.{cond_keeps}
use Rattle.grid.specs.Grid.{point_number}
use Rattle.cyclic.specs.declared.mapping.CyclicMapping.{CyclicMapping}
use Rattle.cyclic.specs.declared.mapping.CyclicMapping.TheVariants.{Forward, Reverse}
use Rattle.cyclic.specs.Mapping.{Seam}
use Rattle.cyclic.specs.Mapping as cyclic
use Rattle.cyclic.proofs.Mappings.{inverse_within}
use Rattle.surface.specs.Surface.{joined, inverse, Point, at, u_rule, v_rule, corner, corner_by}
use Rattle.surface.proofs.Joinings.{inverse_of}
use Rattle.surface.specs.Found.{of_mapping, seam_of, Maps}
use Rattle.mesh.specs.declared.corner.Place.{Place}
use Rattle.mesh.specs.declared.corner.Surface.{Surface}
use Rattle.mesh.specs.Corners.{shape_of, Joins, placed, join_of}

-- The cases of one rule

pub join_last : {seam : Seam} {m : CyclicMapping} (last line step : ℕ) → seam ≡ Some m → line ≡ last →
    placed 0 (cyclic.inverse m step) ≡ join_of seam last line step
unfolding join_of
join_last last line step e h = rw (e, eq-eqb line last h)

pub join_other : {seam : Seam} {m : CyclicMapping} (last line step : ℕ) → seam ≡ Some m → (line ≡ last → ⊥) →
    placed line step ≡ join_of seam last line step
unfolding join_of
join_other last line step e h = rw (e, ne_eqb line last h)

pub join_none : {seam : Seam} (last line step : ℕ) → seam ≡ None → placed line step ≡ join_of seam last line step
unfolding join_of
join_none last line step e = rw e

-- a seam of lines of so many steps takes each of them
pub maps_joins : (seam : Seam) (steps step : ℕ) → Maps seam steps → steps ≤ 255 → step ≤ steps → Joins seam step
maps_joins None steps step h most l = tt
maps_joins (Some m) steps step h most l = (omega arith, omega arith, omega arith)

-- a joined point stays on the lines and the steps of the grid
join_bounds : (seam : Seam) (steps last line step : ℕ) → Maps seam steps → steps ≤ 255 → step ≤ steps →
    ((join_of seam last line step).line ≤ line) × ((join_of seam last line step).step ≤ steps)
unfolding join_of
join_bounds None steps last line step h most l = (omega arith, l)
join_bounds (Some m) steps last line step h most l =
    cond_keeps (λ (p : Place). (p.line ≤ line) × (p.step ≤ steps)) (eqb line last)
    (placed 0 (cyclic.inverse m step)) (placed line step)
    (omega arith, omega (arith, inverse_within m step (maps_joins (Some m) steps step h most l)))
    (omega arith, l)

pub join_within : (seam : Seam) (steps last line step : ℕ) {p : Place} →
    p ≡ join_of seam last line step → Maps seam steps → steps ≤ 255 → step ≤ steps →
    (p.line ≤ line) × (p.step ≤ steps)
join_within seam steps last line step e h most l = rw e (join_bounds seam steps last line step h most l)

-- The two rules

pub inverse_is : (m : CyclicMapping) (steps j : ℕ) → cyclic.steps_of m ≡ steps →
    inverse (of_mapping m) steps j ≡ cyclic.inverse m j
inverse_is m steps j e = rw (← e) (inverse_of m j)

-- the rules of Rules 4.2, of points that are given by their lines and steps
rule_is : (f : Place → Point) (seam : Seam) (steps last line step : ℕ) → Maps seam steps →
    cond (joined (seam_of seam) && eqb line last)
    (f (placed 0 (inverse (seam_of seam) steps step))) (f (placed line step))
    ≡ f (join_of seam last line step)
unfolding join_of
rule_is f None steps last line step h = refl
rule_is f (Some m) steps last line step h = rw (found m, inverse_is m steps step h.0) (go (eqb line last))
  where
    found : (m : CyclicMapping) → joined (of_mapping m) ≡ true
    found (Forward o n) = refl
    found (Reverse o n) = refl

    go : (b : Bool) →
        cond b (f (placed 0 (cyclic.inverse m step))) (f (placed line step))
        ≡ f (cond b (placed 0 (cyclic.inverse m step)) (placed line step))
    go true = refl
    go false = refl

module _ (s : Surface) where
  -- what the u rule and the v rule make of a point
  abbrev pub u_joined : ℕ → ℕ → Place
  u_joined u v = join_of s.u s.m u v

  abbrev pub v_joined : Place → Place
  v_joined p = join_of s.v s.n p.step p.line

  pub u_joins : (v : ℕ) → v ≤ s.n → Joins s.u v
  u_joins v h = maps_joins s.u s.n v s.bounded.u_maps (omega arith) h

  pub v_joins : (u : ℕ) → u ≤ s.m → Joins s.v u
  v_joins u h = maps_joins s.v s.m u s.bounded.v_maps (omega arith) h

  pub u_within : (u v : ℕ) → v ≤ s.n → ((u_joined u v).line ≤ u) × ((u_joined u v).step ≤ s.n)
  u_within u v h = join_within s.u s.n s.m u v refl s.bounded.u_maps (omega arith) h

  pub v_within : (p : Place) → p.line ≤ s.m → ((v_joined p).line ≤ p.step) × ((v_joined p).step ≤ s.m)
  v_within p h = join_within s.v s.m s.n p.step p.line refl s.bounded.v_maps (omega arith) h

  u_rule_lem : (u v : ℕ) → u_rule (shape_of s) (at u v) ≡ at (u_joined u v).line (u_joined u v).step
  u_rule_lem u v = rule_is (λ (p : Place). at p.line p.step) s.u s.n s.m u v s.bounded.u_maps

  v_rule_lem : (u v : ℕ) → v_rule (shape_of s) (at u v) ≡ at (join_of s.v s.n v u).step (join_of s.v s.n v u).line
  v_rule_lem u v = rule_is (λ (p : Place). at p.step p.line) s.v s.m s.n v u s.bounded.v_maps

  pub corner_other : (row u v : ℕ) → (row + 1 ≡ s.n → ⊥) →
      corner (shape_of s) row u v ≡ point_number s.n (u_joined u v).line (u_joined u v).step
  unfolding corner corner_by
  corner_other row u v h = rw (ne_eqb (row + 1) s.n h, u_rule_lem u v)

  pub corner_last : (row u v : ℕ) → row + 1 ≡ s.n →
      corner (shape_of s) row u v
      ≡ point_number s.n (v_joined (u_joined u v)).step (v_joined (u_joined u v)).line
  unfolding corner corner_by
  corner_last row u v h = rw (h, eq-eqb s.n s.n refl, u_rule_lem u v, v_rule_lem)

pub ruleset rules_in_turn = (u_joins, v_joins, u_within, v_within, corner_other, corner_last)
