-- Two calls that answer alike and leave alike: each part of what is said.
use mathlib.Core.Path.{◌≡◌, ap}
use Rattle.lent.specs.Lent.{Afterwards, afterwards}

module _ {A L : Type 0} {a b : A} {l m : L} (e : afterwards a l ≡ afterwards b m) where
  pub same_answer : a ≡ b
  same_answer = ap (λ (t : Afterwards A L). t.answer) e

  pub same_lists : l ≡ m
  same_lists = ap (λ (t : Afterwards A L). t.lists) e
