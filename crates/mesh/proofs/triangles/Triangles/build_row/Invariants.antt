use Rattle.std.proofs.Common.{◌+◌, ◌*◌}
use Rattle.mesh.specs.Writers.{HoldsSlots, same_triangles}
use Rattle.mesh.proofs.triangles.Triangles.build_row.Given as goal

abbrev pub invariant-loop-v : goal.invariant-loop-v
invariant-loop-v l = same_triangles l.initial.self l.self × HoldsSlots l.self (2 * (l.u * l.n + l.v))

abbrev pub invariant-loop-v-2 : goal.invariant-loop-v-2
invariant-loop-v-2 l = same_triangles l.initial.self l.self × HoldsSlots l.self (2 * (l.u * l.n + l.v))
