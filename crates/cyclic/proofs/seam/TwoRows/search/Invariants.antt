use Prim.Native.Nat.{◌-◌}
use mathlib.Core.Path.{◌≡◌}
use lib.ListN.{drop}
use Rattle.cyclic.specs.Search.{close_at}
use Rattle.cyclic.specs.TwoRows.{row_a, row_b}
use Rattle.cyclic.proofs.Remains.{Trying, Turning, Searching, both}
use Rattle.cyclic.proofs.seam.TwoRows.search.Given as goal

abbrev pub invariant-loop-j : goal.invariant-loop-j
invariant-loop-j l =
    (l.comparisons ≡ l.initial.comparisons)
    × Trying (close_at l.tolerance) (row_a l.self) (row_b l.self) l.mapping l.j l.k

abbrev pub invariant-mappings : goal.invariant-mappings
invariant-mappings l =
    Turning (close_at l.tolerance) (row_a l.self) (row_b l.self) l.steps l.end l.comparisons l.offset
    (drop l.mapping-index (both l.steps l.offset))

abbrev pub invariant-offsets : goal.invariant-offsets
invariant-offsets l =
    Searching (close_at l.tolerance) (row_a l.self) (row_b l.self) l.steps l.end l.comparisons l.offset

abbrev pub decreases-offsets : goal.decreases-offsets
decreases-offsets l = l.end - l.offset
