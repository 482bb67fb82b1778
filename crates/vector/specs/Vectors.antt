-- Rules 2.2 and 2.1: sum, difference and multiple of a Vector, each component rounded once, and
-- when two points are close.
use Rattle.std.specs.Prelude.{Bool, Float}
use Rattle.std.specs.Float.{binary64}
use Rattle.std.specs.Float.Ieee.{lt, add, sub, mul}
use Rattle.float.specs.Sign.{absolute}
use Rattle.float.specs.Order.{larger}
use Rattle.vector.specs.declared.Vector.{Vector}

-- the Vector with these components
abbrev pub vector : Float → Float → Float → Vector
vector x y z = record { x = x; y = y; z = z }

-- `add`
abbrev pub plus : Vector → Vector → Vector
plus a b = vector (add binary64 a.x b.x) (add binary64 a.y b.y) (add binary64 a.z b.z)

-- `sub`
abbrev pub minus : Vector → Vector → Vector
minus a b = vector (sub binary64 a.x b.x) (sub binary64 a.y b.y) (sub binary64 a.z b.z)

-- `mul_scalar`
abbrev pub scaled : Vector → Float → Vector
scaled a s = vector (mul binary64 a.x s) (mul binary64 a.y s) (mul binary64 a.z s)

-- the largest component, by `max`
abbrev pub largest : Vector → Float
largest a = larger (larger a.x a.y) a.z

-- the absolute value of each component
abbrev pub absolutes : Vector → Vector
absolutes a = vector (absolute a.x) (absolute a.y) (absolute a.z)

-- `all_close`: two points are close at a tolerance
unfoldable pub all_close : Vector → Vector → Float → Bool
all_close a b tolerance = lt (largest (absolutes (minus a b))) tolerance
