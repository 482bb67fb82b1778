-- What `zeroed_from` says of a list whose front is known, over any element. An answer in another form, beside the lists
-- of its call. And the room that lists have where they are not refused.
use mathlib.Core.Path.{◌≡◌}
use mathlib.Core.Bool.{◌&&◌}
use mathlib.Core.List.{List}
use Prim.Native.Nat.{ℕ, ◌≤◌}
use lib.Dec.{leb}
use lib.ListN.{length, take}
use borrow.Author.Tests.{leb-true}
use Rattle.basics.proofs.Tests.{and_both}
use Rattle.refusal.specs.declared.Refusal.TheVariants.{Room}
use Rattle.refusal.specs.Refusals.{passed}
use Rattle.refusal.proofs.Laws.{unless_passed}
use Rattle.lent.specs.Lent.{room_check, filled, zeroed_from, Afterwards, afterwards, answering}

-- a list that is as long as the lent one and whose first places are the contents is, zeroed after them, the
-- lent list filled with them
pub zeroed_filled : {A : Type 0} (z : A) (contents l lent : List A) → length l ≡ length lent →
    take (length contents) l ≡ contents → zeroed_from z (length contents) l ≡ filled z contents lent
zeroed_filled z contents l lent h p = rw (p, h)

-- r is the answer a in the form f
pub answered_in : {A B L : Type 0} (f : A → B) {a : A} {r : B} {l : L} {t : Afterwards A L} → r ≡ f a →
    afterwards a l ≡ t → afterwards r l ≡ answering f t
answered_in f e h = rw (e, ← h)

-- where 3 does not apply, each list is as long as the call needs it
pub room_passed : (need have need' have' : ℕ) → room_check need have need' have' ≡ passed →
    (need ≤ have) × (need' ≤ have')
room_passed need have need' have' h =
    let fits = (unless_passed (leb need have && leb need' have') Room passed h).0 in
    let both = and_both (leb need have) (leb need' have') fits in
    (leb-true need have both.0, leb-true need' have' both.1)
