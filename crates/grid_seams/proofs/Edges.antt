-- The edges of an accepted grid lie inside it, as rows with a stride: columns 0 and M, and rows 0 and N.
use Prim.Native.Nat.{ℕ, ◌+◌, ◌*◌}
use mathlib.Core.List.{List}
use native.Mathlib.Omega.{arith}
use lib.Ieee.{Float}
use Rattle.grid.specs.Grid.{Accepted}
use Rattle.grid.proofs.Laws.{accepted_known}
use Rattle.cyclic.specs.Search.{Rows}

module _ (g : List Float) (m n : ℕ) (accepted : Accepted g m n) where
  pub columns_inside : Rows g 0 g (m * (n + 1)) 1 n
  columns_inside =
      let s = accepted_known g m n accepted in
      let z = s.steps in
      record { steps_least = z.n_least; steps_most = omega arith; a_inside = omega arith; b_inside = omega arith }

  pub rows_inside : Rows g 0 g n (n + 1) m
  rows_inside =
      let s = accepted_known g m n accepted in
      let z = s.steps in
      record { steps_least = z.m_least; steps_most = omega arith; a_inside = omega arith; b_inside = omega arith }
