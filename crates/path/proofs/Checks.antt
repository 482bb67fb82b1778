-- What is known where the tests of `grid_paths` pass: the room of its lists.
use Prim.Native.Nat.{ℕ, ◌+◌, ◌*◌, ◌≤◌}
use mathlib.Core.Path.{◌≡◌}
use mathlib.Core.List.{List}
use lib.Ieee.{Float}
use lib.ListN.{length}
use Rattle.refusal.specs.Refusals.{passed}
use Rattle.lent.proofs.Laws.{room_passed}
use Rattle.grid.proofs.Laws.{grid_passed}
use Rattle.path.specs.GridPaths.{paths_check}

module _ (g : List Float) (m n : ℕ) (points : List Float) (starts : List ℕ)
    (h : paths_check g m n points starts ≡ passed) where
  pub passed_room : (6 * ((m + 1) * (n + 1)) ≤ length points) × (m + n + 2 ≤ length starts)
  unfolding paths_check
  passed_room =
      room_passed (6 * ((m + 1) * (n + 1))) (length points) (m + n + 2) (length starts) (grid_passed g m n _ h).own
