-- What a surface's steps and seams keep to. For inner contracts only.
use Rattle.std.specs.Prelude.{ℕ, ◌≤◌, Some, None}
use Rattle.std.specs.Coded.{Unit-prop}
use Rattle.std.proofs.Props.{props}
use Rattle.cyclic.specs.Mapping.{Seam}
use Rattle.surface.specs.Found.{Maps}

-- steps that pass refusal 1, and seams of the grid's own lines
pub record Bounded (m n : ℕ) (u v : Seam) : Type 0 where
  pub m_least : 1 ≤ m
  pub m_most : m ≤ 255
  pub n_least : 1 ≤ n
  pub n_most : n ≤ 255
  pub u_maps : Maps u n
  pub v_maps : Maps v m

-- a mapping is one of rows of so many steps in one way
pub Maps-prop : (seam : Seam) (steps : ℕ) → IsProp (Maps seam steps)
Maps-prop None steps = Unit-prop
Maps-prop (Some k) steps = hlevel props
