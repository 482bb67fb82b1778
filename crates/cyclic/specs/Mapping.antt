-- Rules 3.4: a mapping's image of an index of a, its inverse image of an index of b, and refusal 8 of the two calls.
use Rattle.std.specs.Prelude.{ℕ, ◌+◌, ◌-◌, ◌%◌, ◌≤◌, ◌<◌, Bool, true, false, ◌&&◌, cond, eqb, ltb, leb, Option}
use Rattle.refusal.specs.declared.Refusal.TheVariants.{NotThere}
use Rattle.refusal.specs.Refusals.{passed, Answer, ok, unless, passing}
use Rattle.cyclic.specs.declared.mapping.CyclicMapping.{CyclicMapping}
use Rattle.cyclic.specs.declared.mapping.CyclicMapping.TheVariants.{Forward, Reverse}

-- a seam: None, or a mapping
abbrev pub Seam : Type 0
Seam = Option CyclicMapping

-- a mapping's offset, and its steps
abbrev pub offset_of : CyclicMapping → ℕ
offset_of (Forward o n) = o
offset_of (Reverse o n) = o

abbrev pub steps_of : CyclicMapping → ℕ
steps_of (Forward o n) = n
steps_of (Reverse o n) = n

-- the open call `is_reverse`: the direction
abbrev pub is_reverse : CyclicMapping → Bool
is_reverse (Forward o n) = false
is_reverse (Reverse o n) = true

-- the image in b of index j of a, by the table of Rules 3.2: at offset 0 nothing is taken modulo steps
unfoldable pub image : CyclicMapping → ℕ → ℕ
image (Forward o n) j = cond (eqb o 0) j ((o + j) % n)
image (Reverse o n) j = cond (eqb o 0) (n - j) ((o + n - j % n) % n)

-- the inverse image in a of index j of b: in reverse the same formula as the image
unfoldable pub inverse : CyclicMapping → ℕ → ℕ
inverse (Forward o n) j = cond (eqb o 0) j ((j + n - o % n) % n)
inverse (Reverse o n) j = cond (eqb o 0) (n - j) ((o + n - j % n) % n)

-- what refusal 8 asks for: from 1 to 65,535 steps, and an offset and an index that such rows have
abbrev pub in_rows : ℕ → ℕ → ℕ → Bool
in_rows o n i = (leb 1 n && leb n 65535) && (ltb o n && leb i n)

-- the same of a mapping
abbrev pub usable : CyclicMapping → ℕ → Bool
usable m i = in_rows (offset_of m) (steps_of m) i

-- the same as a fact, which inner functions require; that there are steps follows from the offset
abbrev pub HasIndex : CyclicMapping → ℕ → Type 0
HasIndex m i = (steps_of m ≤ 65535) × (offset_of m < steps_of m) × (i ≤ steps_of m)

-- the open call `map_index`: 8, or the image
unfoldable pub map_index : CyclicMapping → ℕ → Answer ℕ
map_index m i = passing (unless (usable m i) NotThere passed) (ok (image m i))

-- the open call `map_index_inv`: 8, or the inverse image
unfoldable pub map_index_inv : CyclicMapping → ℕ → Answer ℕ
map_index_inv m i = passing (unless (usable m i) NotThere passed) (ok (inverse m i))
