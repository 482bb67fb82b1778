-- What a call on a sheet answered, what follows it, and moves one after another on a page.
use mathlib.Core.Path.{◌≡◌}
use mathlib.Core.List.{List, [], ◌∷◌, ◌++◌, map-append}
use Prim.Native.Nat.{ℕ}
use lib.Ieee.{Float}
use Rattle.std.specs.Prelude.{Ok, Err}
use Rattle.refusal.specs.declared.Refusal.{Refusal}
use Rattle.refusal.specs.Refusals.{Check}
use Rattle.crossing.specs.declared.Crossing.{Crossing}
use Rattle.page.specs.declared.Sheet.{Sheet}
use Rattle.page.specs.declared.TracedPoint.{TracedPoint}
use Rattle.page.specs.Moves.{Move, map_move, Outcome, on, follow, move}
use Rattle.page.specs.Page.{traced_by, moves_by, Page, push_page, flush_page, on_page}
use Rattle.page.specs.Sheets.{page_of, outcome_of}
use Rattle.page.proofs.Moves.{run_append, run_none, run_one, Holding}

module _ (x : Outcome Page) (k : Page → Outcome Page) (r : Check) (s : Sheet) (h : outcome_of r s ≡ x) where
  -- what follows a call that goes on
  pub down : {u : Unit} → r ≡ Ok u → follow x k ≡ k (page_of s)
  down e = rw (← h, e)

  -- a refusal goes through
  pub stops : {n : Refusal} → r ≡ Err n → outcome_of (Err n) s ≡ follow x k
  stops e = rw (← h, e)

-- what is said of the page of an outcome that goes on, of the sheet that its call leaves
pub down_holds : (P : Page → Type 0) (x : Outcome Page) (r : Check) (s : Sheet) {u : Unit} →
    outcome_of r s ≡ x → r ≡ Ok u → Holding P x → P (page_of s)
down_holds P x r s h e held = rw (← h, e) at held

-- ---- moves on a page

module _ (tolerance : Float) where
  pub page_append : (ms ns : List (Move TracedPoint)) (w : Page) →
      on_page tolerance (ms ++ ns) w ≡ follow (on_page tolerance ms w) (on_page tolerance ns)
  page_append = run_append (push_page tolerance) flush_page

  pub page_none : (w : Page) → on_page tolerance [] w ≡ on w
  page_none = run_none (push_page tolerance) flush_page

  pub page_one : (x : Move TracedPoint) (w : Page) →
      on_page tolerance (x ∷ []) w ≡ move (push_page tolerance) flush_page x w
  page_one = run_one (push_page tolerance) flush_page

  -- those that one sample makes
  pub by_append : (sample : ℕ) (ms ns : List (Move Crossing)) (w : Page) →
      on_page tolerance (moves_by sample (ms ++ ns)) w
      ≡ follow (on_page tolerance (moves_by sample ms) w) (on_page tolerance (moves_by sample ns))
  by_append sample ms ns w =
      rw (map-append (map_move (traced_by sample)) ms ns) (page_append (moves_by sample ms) (moves_by sample ns) w)
