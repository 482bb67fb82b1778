-- Rules 6.1: the second entry: the flat samples that records, each a mark and a ParamPoint, stand for.
use Rattle.std.specs.Prelude.{ℕ, List, [], ◌∷◌, Float}
use Rattle.records.specs.declared.Sample.{Sample}

-- u and v of each record in turn
abbrev pub pairs_of : List Sample → List Float
pairs_of [] = []
pairs_of (s ∷ ss) = s.point.u ∷ s.point.v ∷ pairs_of ss

-- the marks beside them
abbrev pub marks_of : List Sample → List ℕ
marks_of [] = []
marks_of (s ∷ ss) = s.mark ∷ marks_of ss
