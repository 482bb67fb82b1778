-- For inner contracts only: a side as one number, as a list of events holds it.
use Rattle.std.specs.Prelude.{cond, ℕ, ◌+◌, ◌-◌, ◌*◌, ◌/◌, ◌%◌, ◌≤◌, ◌<◌, ltb}
use Rattle.edges.specs.declared.event.ParamEdge.{ParamEdge}
use Rattle.edges.specs.declared.event.ParamEdge.TheVariants.{U, «V», Diagonal}

-- a side that has a number: one of a grid of 255 steps
abbrev pub Codable : ParamEdge → Type 0
Codable (U u) = u ≤ 255
Codable («V» v) = v ≤ 255
Codable (Diagonal u v) = (u < 255) × (v < 255)

-- its number, and back
unfoldable pub code_of : ParamEdge → ℕ
code_of (U u) = u
code_of («V» v) = 256 + v
code_of (Diagonal u v) = 512 + 256 * u + v

unfoldable pub edge_of : ℕ → ParamEdge
edge_of c = cond (ltb c 256) (U c) (cond (ltb c 512) («V» (c - 256)) (Diagonal ((c - 512) / 256) ((c - 512) % 256)))
