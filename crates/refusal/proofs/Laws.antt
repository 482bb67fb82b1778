-- Where tests pass one after the other, each of them passes: a test that fails answers by itself. And an answer behind
-- tests.
use mathlib.Core.Path.{◌≡◌, refl, sym}
use mathlib.Core.Bool.{Bool, true, false, true≢false}
use Prim.Native.Nat.{ℕ}
use native.Mathlib.Omega.{arith}
use Rattle.std.specs.Prelude.{Result, Ok, Err}
use Rattle.refusal.specs.declared.Refusal.{Refusal}
use Rattle.std.specs.Result.{result_and}
use Rattle.refusal.specs.Refusals.{Check, passed, tested, Answer, ok, refused, unless, and_then, passing}

pub unless_passed : (t : Bool) (k : Refusal) (after : Check) → unless t k after ≡ passed → (t ≡ true) × (after ≡ passed)
unless_passed true k after h = (refl, h)
unless_passed false k after h = absurd (true≢false (cc))

pub then_passed : (c after : Check) → and_then c after ≡ passed → (c ≡ passed) × (after ≡ passed)
then_passed (Ok u) after h = (refl, h)
then_passed (Err k) after h = absurd (true≢false (cc))

-- nothing to test after others
pub then_nothing : (c : Check) → and_then c passed ≡ c
then_nothing (Ok u) = refl
then_nothing (Err k) = refl

-- a test before others is a test before the first of them
pub unless_then : (t : Bool) (k : Refusal) (c after : Check) →
    unless t k (and_then c after) ≡ and_then (unless t k c) after
unless_then true k c after = refl
unless_then false k c after = refl

-- an answer is not a refusal
pub never : {A B : Type 0} {x : A} {k : ℕ} → ok x ≡ refused k → B
never e = let z : ◌≡◌ {A = ℕ} 0 1 = cc in absurd (omega arith)

-- where a call answers, its tests are passed
pub answered : {A : Type 0} (k : Check) {a b : A} → passing k (ok a) ≡ ok b → (k ≡ passed) × (b ≡ a)
answered (Ok u) e = (refl, cc)
answered (Err r) e = never (sym e)

-- where tests refuse, they refuse whatever comes after them
pub refused_first : {A B : Type 0} (c after : Check) (a : A) {k : ℕ} (z : Answer B) → refused k ≡ passing c (ok a) →
    refused k ≡ passing (and_then c after) z
refused_first (Ok u) after a z e = never (sym e)
refused_first (Err r) after a z e = cc

-- what `Result::and` gives of two tests
pub and_is_then : (c after : Check) → result_and c after ≡ and_then c after
and_is_then (Ok u) after = refl
and_is_then (Err k) after = refl

-- a value that comes with passed tests, or the refusal that it is due to
pub tested_err : {A : Type 0} (r : Result A Refusal) (k : Refusal) → r ≡ Err k → tested r ≡ Err k
tested_err r k e = rw e

pub tested_ok : {A : Type 0} (r : Result A Refusal) (x : A) → r ≡ Ok x → tested r ≡ passed
tested_ok r x e = rw e
