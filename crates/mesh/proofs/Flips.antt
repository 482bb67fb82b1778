-- What a step of a reversed seam puts down, from what the code finds there, and how many pairs there can be.
use Rattle.std.specs.Prelude.{Some}
use Prim.Native.Nat.{ℕ, ◌+◌, ◌-◌, ◌*◌, ◌≤◌, ◌<◌}
use mathlib.Core.Path.{◌≡◌, refl, sym, ap, ◌∙◌}
use mathlib.Core.Bool.{Bool, ◌&&◌, cond}
use mathlib.Core.List.{List, []}
use native.Mathlib.Omega.{arith}
use native.Mathlib.Numerals.{add-one}
use lib.ListN.{length, get_or}
use borrow.Author.Tests.{lt-ltb, le-ltb}
use Rattle.basics.proofs.Tests.{cond_keeps}
use Rattle.param.specs.declared.Axis.{Axis}
use Rattle.param.specs.declared.Axis.TheVariants.{AxisU, AxisV}
use Rattle.cyclic.specs.declared.mapping.CyclicMapping.{CyclicMapping}
use Rattle.cyclic.specs.declared.mapping.CyclicMapping.TheVariants.{Forward, Reverse}
use Rattle.cyclic.specs.Mapping as cyclic
use Rattle.surface.specs.Surface.{Seam, Shape, Pair, ordered, insert, proper, slot, triangle_number, step_on, reversed}
use Rattle.surface.specs.Surface.{process, flipped}
use Rattle.surface.specs.Found.{of_mapping, seam_of, Maps}
use Rattle.surface.specs.Rims.{rim_steps, low_of, high_of}
use Rattle.surface.proofs.Pairs.{process_at_most}
use Rattle.mesh.specs.declared.corner.Surface.{Surface}
use Rattle.mesh.specs.declared.pairs.Pairs.{Pairs}
use Rattle.mesh.specs.Corners.{shape_of}
use Rattle.mesh.specs.Held.{firsts, pair_at, pairs_in}
use Rattle.mesh.specs.Writers.{pairs_of}
use Rattle.mesh.specs.Rims.{seam_at, Starts, Rims, flip_step, flip_steps, flips}
use Rattle.mesh.proofs.Firsts.{length_firsts}
use Rattle.mesh.proofs.Numbers.{low_u_lem, low_v_lem, high_u_lem, high_v_lem}

-- a rim has at most 255 steps
pub steps_most : (axis : Axis) (surface : Surface) → rim_steps axis (shape_of surface) ≤ 255
steps_most AxisU surface = surface.bounded.n_most
steps_most AxisV surface = surface.bounded.m_most

module _ (axis : Axis) (s : Shape) (m : Seam) (i : ℕ) (ps : List Pair)
    {on : ℕ} (here : on ≡ step_on m (rim_steps axis s) i) where
  -- no step of the low rim lies on step i of the high rim
  pub no_step : rim_steps axis s ≤ on → ps ≡ flip_step axis s m i ps
  no_step h = rw (← here, le-ltb on (rim_steps axis s) h)

  -- one does: their triangles are a pair if both are there
  pub step_pair : {a b : Bool} → on < rim_steps axis s →
      a ≡ proper (slot s (low_of axis s on)) → b ≡ proper (slot s (high_of axis s i)) →
      let p = ordered (triangle_number s (low_of axis s on)) (triangle_number s (high_of axis s i)) in
      flip_step axis s m i ps ≡ cond (a && b) (insert p ps) ps
  step_pair h low high = rw (← here, lt-ltb on (rim_steps axis s) h, low, high)

-- Steps one after another

pub flips_none : (axis : Axis) (s : Shape) (m : Seam) (ps : List Pair) → ps ≡ flip_steps axis s m 0 ps
unfolding process
flips_none axis s m ps = refl

pub flips_more : (axis : Axis) (s : Shape) (m : Seam) (i : ℕ) (ps : List Pair) →
    flip_step axis s m i (flip_steps axis s m i ps) ≡ flip_steps axis s m (i + 1) ps
unfolding process
flips_more axis s m i ps = rw (add-one i)

-- at most one pair a step
pub flips_most : (axis : Axis) (s : Shape) (m : Seam) (n : ℕ) (ps : List Pair) →
    length (flip_steps axis s m n ps) ≤ length ps + n
flips_most axis s m n ps = process_at_most s m (rim_steps axis s) (low_of axis s) (high_of axis s) n ps

pub seam_most : (axis : Axis) (s : Shape) (m : Seam) (ps : List Pair) →
    length (flips axis s m ps) ≤ length ps + rim_steps axis s
seam_most axis s m ps =
    cond_keeps (λ (qs : List Pair). length qs ≤ length ps + rim_steps axis s) (reversed m) _ ps
    (flips_most axis s m (rim_steps axis s) ps) (omega arith)

-- the count is the number of pairs that the list holds
pub held_pairs : (count : ℕ) (l : List ℕ) {ps : List Pair} → pairs_in count l ≡ ps → count ≡ length ps
held_pairs count l e = sym (length_firsts (pair_at l) count) ∙ ap length e

-- One seam

-- a found seam's mapping fits where the seam does
pub maps_told : {seam : cyclic.Seam} {m : CyclicMapping} {steps : ℕ} →
    seam ≡ Some m → Maps seam steps → Maps (Some m) steps
maps_told e h = rw e at h

-- the mapping of an axis is one of the steps along its rims
pub seam_maps : (axis : Axis) (s : Surface) {seam : cyclic.Seam} {k : CyclicMapping} →
    seam ≡ seam_at axis s → seam ≡ Some k → Maps (Some k) (rim_steps axis (shape_of s))
seam_maps AxisU s e h = maps_told (sym e ∙ h) s.bounded.u_maps
seam_maps AxisV s e h = maps_told (sym e ∙ h) s.bounded.v_maps

-- what a found seam's test says of it
pub seam_told : {seam : cyclic.Seam} {m : CyclicMapping} {r t : Bool} →
    seam ≡ Some m → r ≡ cyclic.is_reverse m → r ≡ t → reversed (seam_of seam) ≡ t
seam_told {m = m} e i h = rw (e, ← reverse_is m, ← i, h)
  where
    reverse_is : (k : CyclicMapping) → cyclic.is_reverse k ≡ reversed (of_mapping k)
    reverse_is (Forward o n) = refl
    reverse_is (Reverse o n) = refl

-- The counts along the rims

-- along u, the counts before each cell of the first u and of the last
pub rims_u : (surface : Surface) (low high : List ℕ) → surface.n < length low → surface.n < length high →
    let number = triangle_number (shape_of surface) in
    ((i : ℕ) → i ≤ surface.n → get_or low i 0 ≡ number (2 * (0 * surface.n + i))) →
    ((i : ℕ) → i ≤ surface.n → get_or high i 0 ≡ number (2 * ((surface.m - 1) * surface.n + i))) →
    Rims AxisU (shape_of surface) low high
rims_u surface low high p q l h =
    let number = triangle_number (shape_of surface) in
    record {
      low_room = p;
      high_room = q;
      before = λ i k. l i (omega arith) ∙ ap number (sym (low_u_lem surface i));
      after = λ i k. h (i + 1) (omega arith) ∙ ap number (omega (arith, high_u_lem surface i));
    }

-- along v, the counts before each u: its first cell is on the low rim, its last on the high one
pub rims_v : (surface : Surface) → (starts : List ℕ) → Starts surface starts →
    Rims AxisV (shape_of surface) starts starts
rims_v surface starts t =
    let number = triangle_number (shape_of surface) in
    record {
      low_room = t.room;
      high_room = t.room;
      before = λ i k. t.at i (omega arith) ∙ ap number (omega (arith, low_v_lem surface i));
      after = λ i k. t.at (i + 1) (omega arith) ∙ ap number (omega (arith, high_v_lem surface i));
    }

-- Both seams, from no pairs on

no_pairs : (l : List ℕ) → pairs_in 0 l ≡ []
unfolding firsts
no_pairs l = refl

pub flipped_is : (s : Shape) → flips AxisV s s.sv (flips AxisU s s.su []) ≡ flipped s
unfolding flipped
flipped_is s = refl

module _ (s : Surface) (l : List ℕ) (p : Pairs)
    (first : pairs_of p ≡ flips AxisU (shape_of s) (seam_of s.u) (pairs_in 0 l)) where
  pub first_most : p.count ≤ s.n
  first_most =
      let h = rw (no_pairs l) at first in
      omega (arith, held_pairs p.count p.list.now h, seam_most AxisU (shape_of s) (seam_of s.u) [])

  pub both_flipped : {ps : List Pair} → ps ≡ flips AxisV (shape_of s) (seam_of s.v) (pairs_of p) →
      ps ≡ flipped (shape_of s)
  both_flipped e = rw (e, first, no_pairs l) (flipped_is (shape_of s))

pub ruleset flips_known = (flips_none, flips_more)
