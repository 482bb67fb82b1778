-- Rules 4.1, 4.5 and 11 of `find_seams`: both seams of a grid with their comparisons, or which refusal it gives.
use Rattle.std.specs.Prelude.{ℕ, ◌≡◌, List, Float}
use Rattle.refusal.specs.Refusals.{Check, Answer, ok, passing}
use Rattle.cyclic.specs.declared.seam.TwoRows.{TwoRows}
use Rattle.cyclic.specs.Search.{Row}
use Rattle.cyclic.specs.TwoRows.{row_a, row_b}
use Rattle.tolerance.specs.declared.Tolerances.{Tolerances}
use Rattle.tolerance.specs.Tolerance.{tolerances_check}
use Rattle.grid.specs.Grid.{grid_check}
use Rattle.surface.specs.Found.{u_search, v_search}
use Rattle.grid_seams.specs.declared.Seams.{Seams}

-- what is found for each, at its tolerance
abbrev pub seams_of : List Float → ℕ → ℕ → Tolerances → Seams
seams_of g m n t = record { u = u_search g m n t.u; v = v_search g m n t.v }

-- Rules 11.2: refusals 1, 2, 13 and 4, in this order
abbrev pub seams_check : List Float → ℕ → ℕ → Tolerances → Check
seams_check g m n t = grid_check g m n (tolerances_check t)

-- the open call
unfoldable pub find_seams : List Float → ℕ → ℕ → Tolerances → Answer Seams
find_seams g m n t = passing (seams_check g m n t) (ok (seams_of g m n t))

-- for inner contracts: the two rows that a search takes, by index, and their steps
abbrev pub AreRows : Row → Row → ℕ → TwoRows → Type 0
AreRows a b steps r = (row_a r ≡ a) × (row_b r ≡ b) × (r.steps ≡ steps)
