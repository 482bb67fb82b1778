-- The tests and the lists of both triangulations: what is known where no test refuses, and the lists that are handed
-- over.
use Rattle.refusal.specs.Refusals.{passed}
use Prim.Native.Nat.{ℕ, ◌+◌, ◌*◌, ◌≤◌}
use mathlib.Core.Path.{◌≡◌, sym, ap, ◌∙◌}
use mathlib.Core.List.{List}
use lib.Ieee.{Float}
use lib.ListN.{length, take}
use lib.Seq.{length-take-le}
use native.Mathlib.Omega.{arith}
use Rattle.refusal.proofs.Laws.{then_passed}
use Rattle.tolerance.specs.declared.Tolerances.{Tolerances}
use Rattle.tolerance.specs.Tolerance.{tolerances_check}
use Rattle.lent.specs.Lent.{room_check, filled, zeroed_from, afterwards}
use Rattle.lent.proofs.Laws.{zeroed_filled, room_passed}
use Rattle.grid.specs.Grid.{Accepted}
use Rattle.grid.proofs.Laws.{grid_passed, grid_accepted}
use Rattle.surface.specs.Surface.{Shape, Triangle, kept, slots, triangles, flipped}
use Rattle.surface.proofs.Pairs.{flipped_at_most}
use Rattle.mesh.specs.Mesh.{triangle_numbers, pair_numbers, mesh_check, mesh_lists, written}
use Rattle.mesh.specs.Held.{triangles_in, pairs_in}
use Rattle.mesh.proofs.Holding.{triangles_held, pairs_held}
use Rattle.mesh.proofs.Cells.{held_triangles, held_most}
use Rattle.mesh.proofs.Flips.{held_pairs}

-- Refusals

-- what is known where no refusal applies
pub record Admitted (g : List Float) (m n : ℕ) (tolerances : Tolerances) (t f : List ℕ) : Type 0 where
  pub accepted : Accepted g m n
  pub tolerable : tolerances_check tolerances ≡ passed
  pub triangle_room : 6 * (m * n) ≤ length t
  pub pair_room : 2 * (m + n) ≤ length f

pub admitted : (g : List Float) (m n : ℕ) (tolerances : Tolerances) (t f : List ℕ) →
    mesh_check g m n tolerances t f ≡ passed → Admitted g m n tolerances t f
unfolding mesh_check
admitted g m n tolerances t f h =
    let own = then_passed (tolerances_check tolerances) (room_check (6 * (m * n)) (length t) (2 * (m + n)) (length f))
    (grid_passed g m n _ h).own in
    let room = room_passed (6 * (m * n)) (length t) (2 * (m + n)) (length f) own.1 in
    record {
      accepted = grid_accepted g m n _ h;
      tolerable = own.0;
      triangle_room = room.0;
      pair_room = room.1;
    }

-- Filled lists

-- a list whose contents stand in front, with zero written past them
list_filled : (k : ℕ) (contents l lent : List ℕ) → k ≤ length l → contents ≡ take k l → length l ≡ length lent →
    zeroed_from 0 k l ≡ filled 0 contents lent
list_filled k contents l lent h e q =
    let n : length contents ≡ k = ap length e ∙ length-take-le k l h in
    rw (← n) (zeroed_filled 0 contents l lent q (rw n (sym e)))

pub triangles_most : (s : Shape) (count : ℕ) (l : List ℕ) → triangles_in count l ≡ kept s (2 * (s.M * s.N)) →
    3 * count ≤ 6 * (s.M * s.N)
triangles_most s count l e = omega (arith, held_most s (2 * (s.M * s.N)) count l e)

pub triangles_filled : (s : Shape) (count : ℕ) (l lent : List ℕ) →
    triangles_in count l ≡ triangles s → 3 * count ≤ length l → length l ≡ length lent →
    zeroed_from 0 (3 * count) l ≡ filled 0 (triangle_numbers (triangles s)) lent
triangles_filled s count l lent e h q =
    list_filled (3 * count) (triangle_numbers (triangles s)) l lent h
    (ap triangle_numbers (sym e) ∙ triangles_held count l h) q

pub pairs_most : (s : Shape) (count : ℕ) (l : List ℕ) → pairs_in count l ≡ flipped s → 2 * count ≤ 2 * (s.M + s.N)
pairs_most s count l e = omega (arith, held_pairs count l e, flipped_at_most s)

pub pairs_filled : (s : Shape) (count : ℕ) (l lent : List ℕ) →
    pairs_in count l ≡ flipped s → 2 * count ≤ length l → length l ≡ length lent →
    zeroed_from 0 (2 * count) l ≡ filled 0 (pair_numbers (flipped s)) lent
pairs_filled s count l lent e h q =
    list_filled (2 * count) (pair_numbers (flipped s)) l lent h
    (ap pair_numbers (sym e) ∙ pairs_held count l h) q

-- What is handed over

-- what all slots emit are the surface's triangles
pub all_kept : (s : Shape) {ts : List Triangle} → ts ≡ kept s (2 * (s.M * s.N)) → ts ≡ triangles s
unfolding triangles slots
all_kept s e = e

-- both lists, filled, where t and f were lent
pub lists_written : (s : Shape) (t f : List ℕ) {t' f' : List ℕ} {k p : ℕ} →
    t' ≡ filled 0 (triangle_numbers (triangles s)) t → f' ≡ filled 0 (pair_numbers (flipped s)) f →
    k ≡ length (triangles s) → p ≡ length (flipped s) →
    afterwards (record { triangles = k; pairs = p }) (mesh_lists t' f') ≡ written s (mesh_lists t f)
lists_written s t f ts ps k p = rw (ts, ps, k, p)

-- k triangles in front of the list t' and p pairs in front of f', and each list with zeros past them
pub fronts_written : (s : Shape) (t f t' f' : List ℕ) {t0 f0 : List ℕ} (k p : ℕ) →
    triangles_in k t' ≡ kept s (2 * (s.M * s.N)) → 3 * k ≤ length t' → length t' ≡ length t →
    t0 ≡ zeroed_from 0 (3 * k) t' →
    pairs_in p f' ≡ flipped s → 2 * p ≤ length f' → length f' ≡ length f →
    f0 ≡ zeroed_from 0 (2 * p) f' →
    afterwards (record { triangles = k; pairs = p }) (mesh_lists t0 f0) ≡ written s (mesh_lists t f)
fronts_written s t f t' f' k p ts tk tl tz ps pk pl pz =
    let all = all_kept s ts in
    lists_written s t f
    (tz ∙ triangles_filled s k t' t all tk tl)
    (pz ∙ pairs_filled s p f' f ps pk pl)
    (held_triangles k t' all)
    (held_pairs p f' ps)
