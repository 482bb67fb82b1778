-- The rows of a `TwoRows`, by index.
use Rattle.cyclic.specs.declared.seam.TwoRows.{TwoRows}
use Rattle.cyclic.specs.Search.{Row, row_of}

abbrev pub row_a : TwoRows → Row
row_a r = row_of r.a.now r.a_start r.stride

abbrev pub row_b : TwoRows → Row
row_b r = row_of r.b.now r.b_start r.stride
