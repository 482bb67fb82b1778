-- What the lent lists of a sheet hold, before and after a call; and, for inner contracts only, where its pen stands.
use Rattle.std.specs.Prelude.{◌≡◌, Ok, Err}
use Rattle.refusal.specs.Refusals.{Check}
use Rattle.page.specs.declared.Sheet.{Sheet}
use Rattle.page.specs.Moves.{Outcome, on, off}
use Rattle.page.specs.Page.{Lists, lists, Page, page}

-- what its lists hold
abbrev pub lists_of : Sheet → Lists
lists_of s = lists s.points.now s.starts.now s.sides.now s.fractions.now s.samples.now

-- and where the pen stands in them
abbrev pub page_of : Sheet → Page
page_of s = page (lists_of s) s.pen

-- what comes of a call that answers so and leaves the sheet so
abbrev pub outcome_of : Check → Sheet → Outcome Page
outcome_of (Ok u) s = on (page_of s)
outcome_of (Err k) s = off k (page_of s)

-- both are of the same lists, whatever these hold
abbrev pub same_lists : Sheet → Sheet → Type 0
same_lists s t =
    (t.points.ghost_name ≡ s.points.ghost_name) × (t.starts.ghost_name ≡ s.starts.ghost_name)
    × (t.sides.ghost_name ≡ s.sides.ghost_name) × (t.fractions.ghost_name ≡ s.fractions.ghost_name)
    × (t.samples.ghost_name ≡ s.samples.ghost_name)
