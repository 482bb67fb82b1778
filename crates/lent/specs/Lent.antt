-- Rules 8: lists that a caller lends for output, over any element and its zero. Whether they have room, what stands in
-- them after a call, and one way to say what a call answers and what its lists hold afterwards.
use Rattle.std.specs.Prelude.{ℕ, ◌-◌, ◌&&◌, List, ◌++◌, leb, length, take, replicate, Ok, Err}
use Rattle.refusal.specs.declared.Refusal.TheVariants.{Room}
use Rattle.refusal.specs.Refusals.{Check, passed, Answer, refused, number_of, unless}
pub use Rattle.lent.specs.declared.Counts.{Counts}

-- refusal 3 (Rules 11.1) of two lent lists: passed if each has at least as many numbers as the call may write into it
abbrev pub room_check : ℕ → ℕ → ℕ → ℕ → Check
room_check need have need' have' = unless (leb need have && leb need' have') Room passed

-- Rules 8.2: a lent list after a call that wrote these contents into it, and zero in every place past them
abbrev pub filled : {A : Type 0} → A → List A → List A → List A
filled z contents lent = contents ++ replicate (length lent - length contents) z

-- a list whose places from k on are made zero
abbrev pub zeroed_from : {A : Type 0} → A → ℕ → List A → List A
zeroed_from z k l = take k l ++ replicate (length l - k) z

-- what a call answers, and what the lists lent to it hold afterwards
pub record Afterwards (A L : Type 0) : Type 0 where
  pub answer : A
  pub lists : L

abbrev pub afterwards : {A L : Type 0} → A → L → Afterwards A L
afterwards a l = record { answer = a; lists = l }

-- the answer in another form, the lists as they are
abbrev pub answering : {A B L : Type 0} → (A → B) → Afterwards A L → Afterwards B L
answering f t = afterwards (f t.answer) t.lists

-- Rules 8.3: a call whose tests refuse leaves the lists as they were lent
abbrev pub if_passed : {A L : Type 0} → Check → L → Afterwards (Answer A) L → Afterwards (Answer A) L
if_passed (Ok u) lent t = t
if_passed (Err k) lent t = afterwards (refused (number_of k)) lent

-- how many points and lines a call drew into its lists
abbrev pub counts : ℕ → ℕ → Counts
counts p l = record { points = p; lines = l }
