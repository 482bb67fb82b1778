-- The code of a side says which side it is, since indices are below 256, as those of a grid of at most 255 steps are;
-- and what the grid's bound on a side says of its indices.
use mathlib.Core.Path.{◌≡◌}
use Prim.Native.Nat.{ℕ, ◌+◌, ◌*◌, ◌-◌, ◌/◌, ◌%◌, ◌≤◌, ◌<◌}
use native.Mathlib.Omega.{arith}
use borrow.Author.Tests.{lt-ltb, le-ltb}
use Rattle.param.specs.declared.Cells.{Cells}
use Rattle.edges.specs.declared.event.ParamEdge.{ParamEdge}
use Rattle.edges.specs.declared.event.ParamEdge.TheVariants.{U, «V», Diagonal}
use Rattle.edges.specs.declared.event.EdgeEvent.{EdgeEvent}
use Rattle.edges.specs.Events.{Inside}
use Rattle.edges.specs.Side.{Codable, code_of, edge_of}
use Rattle.edges.specs.Order.{event_of}

-- a side of a grid of at most 255 steps has a code
pub inside_codable : (k : Cells) (e : ParamEdge) → k.m ≤ 255 → k.n ≤ 255 → Inside k e → Codable e
inside_codable k (U u) hm hn h = omega arith
inside_codable k («V» v) hm hn h = omega arith
inside_codable k (Diagonal u v) hm hn h = (omega arith, omega arith)

pub code_back : (e : ParamEdge) → Codable e → edge_of (code_of e) ≡ e
unfolding code_of edge_of
code_back (U u) h = let t : u < 256 = omega arith in simp (lt-ltb u 256 t)
code_back («V» v) h =
    let t : 256 ≤ 256 + v = omega arith in
    let s : 256 + v < 512 = omega arith in
    let q : 256 + v - 256 ≡ v = omega arith in
    simp (le-ltb (256 + v) 256 t, lt-ltb (256 + v) 512 s, q)
code_back (Diagonal u v) h =
    let t : 256 ≤ 512 + 256 * u + v = omega arith in
    let s : 512 ≤ 512 + 256 * u + v = omega arith in
    let q : (512 + 256 * u + v - 512) / 256 ≡ u = omega arith in
    let r : (512 + 256 * u + v - 512) % 256 ≡ v = omega arith in
    simp (le-ltb (512 + 256 * u + v) 256 t, le-ltb (512 + 256 * u + v) 512 s, q, r)

pub event_back : (e : EdgeEvent) {code : ℕ} → code ≡ code_of e.edge → Codable e.edge →
    event_of e.lambda code ≡ e
event_back e q h = rw (q, code_back e.edge h)

-- what the grid's bound says of each kind
module _ (k : Cells) {e : ParamEdge} where
  pub inside_u : {u : ℕ} → e ≡ U u → Inside k e → u ≤ k.m
  inside_u q h = rw q at h

  pub inside_v : {v : ℕ} → e ≡ «V» v → Inside k e → v ≤ k.n
  inside_v q h = rw q at h

  pub inside_diagonal : {u v : ℕ} → e ≡ Diagonal u v → Inside k e → (u < k.m) × (v < k.n)
  inside_diagonal q h = rw q at h
