-- Rules 11: the number of each refusal (11.1), what an answer is, and tests in the order of their numbers (11.2). What
-- each refusal tests is defined with the calls that give it.
use Rattle.std.specs.Prelude.{ℕ, Bool, true, false, Result, Ok, Err}
use Rattle.refusal.specs.declared.Refusal.{Refusal}
use Rattle.refusal.specs.declared.Refusal.TheVariants.{Steps, Length, Room, Coordinate, Texture, Count}
use Rattle.refusal.specs.declared.Refusal.TheVariants.{Direction}
use Rattle.refusal.specs.declared.Refusal.TheVariants.{NotThere, Mark, Sample, NoStep, Full, Tolerance, Mapping}

-- the number of each refusal
abbrev pub number_of : Refusal → ℕ
-- M or N is not from 1 to 255
number_of Steps = 1
-- a list has another length than it must have, or is too long
number_of Length = 2
-- a list is lent too short for all that the call may write
number_of Room = 3
-- some coordinate of a grid or row is a NaN, infinite, or beyond ±2^40
number_of Coordinate = 4
-- the twist is a NaN, infinite, or beyond ±64; or there are more than 64 arms
number_of Texture = 5
-- a plan has more than 65,536 rays, or samples to a ray
number_of Count = 6
-- the cosine or sine lent is a NaN or beyond ±1
number_of Direction = 7
-- there is no such mapping, index, ray, sample or line
number_of NotThere = 8
-- some mark is neither 0 nor 1
number_of Mark = 9
-- some coordinate of a point among the samples is a NaN, infinite, or beyond ±1,048,576
number_of Sample = 10
-- `step_index` cannot answer (Rules 7.2)
number_of NoStep = 11
-- a pushed point or a kept line has no room (Rules 7.4)
number_of Full = 12
-- a tolerance is a NaN, infinite, not above zero, or above 1
number_of Tolerance = 13
-- a mapping that is given is not one of its rows, or does not fit them
number_of Mapping = 14

-- what a call answers: values, or the number of a refusal and nothing beside it (Rules 8.3)
pub data Answer (A : Type 0) : Type 0 where
  ok : A → Answer A
  refused : ℕ → Answer A

-- the number of an answer: 0 on success
abbrev pub answer_number : {A : Type 0} → Answer A → ℕ
answer_number (ok a) = 0
answer_number (refused k) = k

-- the values of an answer, and the given ones where it is a refusal
abbrev pub values_or : {A : Type 0} → A → Answer A → A
values_or z (ok a) = a
values_or z (refused k) = z

-- what a test of the input says: it passes, or a refusal applies
abbrev pub Check : Type 0
Check = Result Unit Refusal

abbrev pub passed : Check
passed = Ok tt

-- the tests of a call that hands on what passed them
abbrev pub tested : {A : Type 0} → Result A Refusal → Check
tested (Ok x) = passed
tested (Err k) = Err k

-- the values or the number that each answer of the code stands for
abbrev pub stated : {A : Type 0} → Result A Refusal → Answer A
stated (Ok a) = ok a
stated (Err k) = refused (number_of k)

-- Rules 11.2. Tests stand in the order of the call, so the first that fails is the one given.
-- One test: k where it does not hold, and what comes after it where it does
abbrev pub unless : Bool → Refusal → Check → Check
unless true k after = after
unless false k after = Err k

-- tests after each other: those that come after are due only where the first pass
abbrev pub and_then : Check → Check → Check
and_then (Ok u) after = after
and_then (Err k) after = Err k

-- an answer that is due only where the tests before it pass
abbrev pub passing : {A : Type 0} → Check → Answer A → Answer A
passing (Ok u) a = a
passing (Err k) a = refused (number_of k)
