-- Rules 2.2, for C: a Vector as a struct.
use Rattle.vector.specs.declared.Vector.{Vector}
use Rattle.merlontrispa.specs.declared.vectors.Components.{Components}

abbrev pub components : Vector → Components
components a = record { x = a.x; y = a.y; z = a.z }
