-- Rules 4, by computation: its known results, a surface without a triangle, one on which the corner rule and J differ;
-- why Rules 5.4 and 5.5 ask for steps; and a surface with the second cases of `Rule` and `Split`.
use Rattle.std.specs.Prelude.{ℕ, ◌≡◌, refl, Bool, true, [], ◌∷◌}
use Rattle.cyclic.specs.Mapping as mapping
use Rattle.surface.specs.Surface.{Seam, unjoined, forward, reverse, Shape, Rule, once, twice, Split, falling}
use Rattle.surface.specs.Surface.{rising, corner_by, corner, tri, half_of, slot, slots, kept, triangles}
use Rattle.surface.specs.Surface.{triangle_number, pair, step_on, low_u, high_u, low_v, high_v, process, flipped}
use Rattle.surface.specs.Surface.{joined_by, J, nth}

-- all that a closed result computes through
unfoldable computed : Bool
unfolding mapping.inverse corner_by corner half_of slot slots kept triangles triangle_number step_on low_u high_u low_v high_v
    process flipped joined_by J
computed = true

abbrev shape : ℕ → ℕ → Seam → Seam → Rule → Split → Shape
shape M N su sv rule split = record { M = M; N = N; su = su; sv = sv; rule = rule; split = split }

-- known result of Rules 4: the triangles of one cell without seams
pub no_seam : triangles (shape 1 1 unjoined unjoined once falling) ≡ tri 0 2 1 ∷ tri 2 3 1 ∷ []
unfolding computed
no_seam = refl

-- where the only two columns are joined, no triangle has three numbers
no_triangle : triangles (shape 1 1 (forward 0) unjoined once falling) ≡ []
unfolding computed
no_triangle = refl

-- known result of Rules 4: the flipped pairs along a reversed u seam of 3 steps
pub reversed_u : flipped (shape 3 3 (reverse 0) unjoined once falling) ≡ pair 0 17 ∷ pair 2 15 ∷ pair 4 13 ∷ []
unfolding computed
reversed_u = refl

-- The v rule belongs to the last row of cells (Rules 4.2), as in the original. Where M = N = 3, the u seam is
-- Reverse(0) and the v seam Forward(0), corner (3, 0) of row 0 goes to (0, 3), number 3, and stays there; J takes it on
-- to (0, 0), number 0.
abbrev cracked : Shape
cracked = shape 3 3 (reverse 0) (forward 0) once falling

corner_of_row_0 : corner cracked 0 3 0 ≡ 3
unfolding computed
corner_of_row_0 = refl

-- in the last row, 2, the v rule takes corner (0, 3) to (0, 0)
corner_of_last_row : corner cracked 2 0 3 ≡ 0
unfolding computed
corner_of_last_row = refl

J-of-it : J cracked 3 0 ≡ 0
unfolding computed
J-of-it = refl

-- so the triangles of cell (2,0) have 3 where J would give 0
triangle_12 : nth (triangles cracked) 12 ≡ tri 8 3 9
unfolding computed
triangle_12 = refl

triangle_13 : nth (triangles cracked) 13 ≡ tri 3 2 9
unfolding computed
triangle_13 = refl

-- Why demand 3 asks for steps. With 1 around, J takes both ends of an edge to one point;
one_around : J (shape 1 3 (forward 0) unjoined once falling) 1 0 ≡ J (shape 1 3 (forward 0) unjoined once falling) 0 0
unfolding computed
one_around = refl

-- with 2, the side of 0 and 2, which is on the rim, belongs to two triangles, the first and the third;
two_around : triangles (shape 2 1 (forward 0) unjoined once falling) ≡
    tri 0 2 1 ∷ tri 2 3 1 ∷ tri 2 0 3 ∷ tri 0 1 3 ∷ []
unfolding computed
two_around = refl

-- and beside a second row of cells triangles 1 and 6 both run from 4 to 1, and 2 and 5 from 1 to 4, while no seam is
-- reversed and so no pair is flipped;
two_around_runs : triangles (shape 2 2 (forward 0) unjoined once falling) ≡
    tri 0 3 1 ∷ tri 3 4 1 ∷ tri 1 4 2 ∷ tri 4 5 2 ∷ tri 3 0 4 ∷ tri 0 1 4 ∷ tri 4 1 5 ∷ tri 1 2 5 ∷ []
unfolding computed
two_around_runs = refl

two_around_pairs : flipped (shape 2 2 (forward 0) unjoined once falling) ≡ []
unfolding computed
two_around_pairs = refl

-- and along a reversed seam of 2, `process_flipped` names triangle 2 twice, and triangle 0, which lies on triangle 11,
-- not at all.
two_along : flipped (shape 3 2 (reverse 0) unjoined once falling) ≡ pair 2 9 ∷ pair 2 11 ∷ []
unfolding computed
two_along = refl

-- a Klein bottle whose corners pass the rules twice, its cells split by the rising diagonal
klein : flipped (shape 3 3 (forward 0) (reverse 0) twice rising) ≡ pair 0 17 ∷ pair 5 12 ∷ pair 6 11 ∷ []
unfolding computed
klein = refl
