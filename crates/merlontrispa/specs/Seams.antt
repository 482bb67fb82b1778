-- Rules 3, for C: a mapping by its direction, offset and steps, and what a search finds.
use Rattle.std.specs.Prelude.{Some, None}
use Rattle.cyclic.specs.Mapping.{Seam}
use Rattle.std.specs.Prelude.{ℕ, Bool, true, false}
use Rattle.refusal.specs.Refusals.{Answer, answer_number, values_or}
use Rattle.cyclic.specs.declared.mapping.CyclicMapping.{CyclicMapping}
use Rattle.cyclic.specs.declared.mapping.CyclicMapping.TheVariants.{Forward, Reverse}
use Rattle.cyclic.specs.declared.seam.SeamSearch.{SeamSearch}
use Rattle.cyclic.specs.Mapping.{is_reverse, offset_of, steps_of}
use Rattle.cyclic.specs.Search.{searched}
use Rattle.merlontrispa.specs.declared.seams.IndexAnswer.{IndexAnswer}
use Rattle.merlontrispa.specs.declared.seams.FoundSeam.{FoundSeam}
use Rattle.merlontrispa.specs.declared.seams.RowsAnswer.{RowsAnswer}

-- the mapping of a direction, an offset and steps
abbrev pub mapping_of : Bool → ℕ → ℕ → CyclicMapping
mapping_of false o n = Forward o n
mapping_of true o n = Reverse o n

-- Rules 11.3: a seam that goes in: where it is not found, the other three are not looked at
abbrev pub seam_in : Bool → Bool → ℕ → ℕ → Seam
seam_in true reverse o n = Some (mapping_of reverse o n)
seam_in false reverse o n = None

-- Rules 11.3: a refusal comes with its number alone, so the index is 0
abbrev pub index_answer : Answer ℕ → IndexAnswer
index_answer a = record { refusal = answer_number a; index = values_or 0 a }

-- Rules 11.3: a seam and the comparisons made: all zero but these where none was found
abbrev pub found_in : Seam → ℕ → FoundSeam
found_in (Some m) k =
    record { found = true; reverse = is_reverse m; offset = offset_of m; steps = steps_of m; comparisons = k }
found_in None k = record { found = false; reverse = false; offset = 0; steps = 0; comparisons = k }

abbrev pub found_seam : SeamSearch → FoundSeam
found_seam s = found_in s.seam s.comparisons

-- Rules 11.3: likewise, no seam, after no comparison
abbrev pub rows_answer : Answer SeamSearch → RowsAnswer
rows_answer a = record { refusal = answer_number a; seam = found_seam (values_or (searched None 0) a) }
