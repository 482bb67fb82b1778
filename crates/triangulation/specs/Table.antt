-- The known results of Rules 4.5, by computation: whole calls over seams that are given, and which of the refusals of the
-- two calls in turn is handed on.
use Rattle.std.specs.Prelude.{ℕ, ◌≡◌, refl, Bool, true, List, [], ◌∷◌, ◌++◌, Float, replicate, Some, None}
use Rattle.std.specs.Float.{nan}
use Rattle.std.specs.Float.Ieee.{of_bits, lt, le, neg, sub, round}
use Rattle.float.specs.Consts.{eps, zero64, one64, half64}
use Rattle.float.specs.Sign.{absolute, is_finite}
use Rattle.float.specs.Order.{larger}
use Rattle.refusal.specs.Refusals.{ok, refused}
use Rattle.tolerance.specs.Tolerance.{tolerances, every_eps}
use Rattle.lent.specs.Lent.{afterwards}
use Rattle.vector.specs.Vectors.{all_close}
use Rattle.grid.specs.Grid.{point_at, coordinates_fit, grid_check}
use Rattle.cyclic.specs.declared.mapping.CyclicMapping.TheVariants.{Forward, Reverse}
use Rattle.cyclic.specs.Mapping as mapping
use Rattle.cyclic.specs.Search.{try_from, closed}
use Rattle.cyclic.specs.Fits.{seam_fits}
use Rattle.cyclic.specs.Table.{along, two64, nine64, round_row, open_row, open_row_further}
use Rattle.surface.specs.Surface.{corner_by, corner, half_of, slot, slots, kept, triangles, triangle_number, step_on}
use Rattle.surface.specs.Surface.{low_u, high_u, low_v, high_v, process, flipped}
use Rattle.surface.specs.Given.{seams_fit}
use Rattle.grid_seams.specs.Seams.{find_seams}
use Rattle.mesh.specs.Mesh.{MeshLists, mesh_lists, triangle_numbers, pair_numbers, mesh_check}
use Rattle.triangulation.specs.Triangulation.{given_check, triangulate_seams, triangulate_grid}

-- `unfolding computed` opens every definition that a closed result of this file needs
unfoldable computed : Bool
unfolding mapping.image mapping.inverse try_from closed seam_fits seams_fit point_at coordinates_fit grid_check all_close
    larger absolute is_finite eps of_bits lt le neg sub round corner_by corner half_of slot slots kept triangles
    triangle_number step_on low_u high_u low_v high_v process flipped triangle_numbers pair_numbers mesh_check given_check
    triangulate_seams find_seams triangulate_grid
computed = true

-- the two lists, as long as the call asks for, of 7s
abbrev lent : ℕ → ℕ → MeshLists
lent t f = mesh_lists (replicate t 7) (replicate f 7)

-- 3 by 3 steps, all points one
abbrev one_point : List Float
one_point = replicate 48 zero64

-- a u seam that is given as reversed, and no v seam
reversed_u : (triangulate_seams one_point 3 3 every_eps (Some (Reverse 0 3)) None (lent 54 12)).lists.flipped
    ≡ 0 ∷ 17 ∷ 2 ∷ 15 ∷ 4 ∷ 13 ∷ 0 ∷ 0 ∷ 0 ∷ 0 ∷ 0 ∷ 0 ∷ []
unfolding computed
reversed_u = refl

-- other steps than the row's, and an offset that is not below them: 14, and the lists as they were
not_of_rows :
    (triangulate_seams one_point 3 3 every_eps (Some (Forward 0 4)) None (lent 54 12)
    ≡ afterwards (refused 14) (lent 54 12))
    × (triangulate_seams one_point 3 3 every_eps (Some (Forward 3 3)) None (lent 54 12)
    ≡ afterwards (refused 14) (lent 54 12))
unfolding computed
not_of_rows = (refl, refl)

-- 1 by 3 steps by the x of their points: the columns are closed, and b is a step further round; then b is open
shifted :
    ((triangulate_seams (round_row ++ along (one64 ∷ two64 ∷ zero64 ∷ one64 ∷ [])) 1 3 every_eps (Some (Forward 2 3))
    None (lent 18 8)).answer
    ≡ ok (record { triangles = 2; pairs = 0 }))
    × ((triangulate_seams (round_row ++ along (one64 ∷ two64 ∷ zero64 ∷ nine64 ∷ [])) 1 3 every_eps (Some (Forward 2 3))
    None (lent 18 8)).answer
    ≡ refused 14)
unfolding computed
shifted = (refl, refl)

-- 1 by 3 steps at 1/2: each point is close to its image, and a is open
open_a : (triangulate_seams (open_row ++ open_row_further) 1 3 (tolerances half64 half64 half64) (Some (Forward 2 3)) None
    (lent 18 8)).answer
    ≡ refused 14
unfolding computed
open_a = refl

-- one cell without seams
no_seam : triangulate_seams (replicate 12 zero64) 1 1 every_eps None None (lent 6 4)
    ≡ afterwards (ok (record { triangles = 2; pairs = 0 })) (mesh_lists (0 ∷ 2 ∷ 1 ∷ 2 ∷ 3 ∷ 1 ∷ []) (replicate 4 0))
unfolding computed
no_seam = refl

-- one cell with a NaN, and lists without room: the first call gives 4, and both in turn 3
abbrev with_nan : List Float
with_nan = nan ∷ replicate 11 zero64

room_first : (find_seams with_nan 1 1 every_eps ≡ refused 4)
    × (triangulate_grid with_nan 1 1 every_eps (lent 5 4) ≡ afterwards (refused 3) (lent 5 4))
unfolding computed
room_first = (refl, refl)
