-- The known results of Rules 3, by computation: mappings, searches, and seams that are given.
use Rattle.std.specs.Prelude.{◌≡◌, refl, Bool, true, false, List, [], ◌∷◌, Float, Some, None}
use Rattle.std.specs.Float.{nan, binary64}
use Rattle.std.specs.Float.Ieee.{of_bits, lt, le, neg, sub, round}
use Rattle.float.specs.Consts.{eps, zero64, one64, half64}
use Rattle.float.specs.Sign.{absolute, is_finite}
use Rattle.float.specs.Order.{larger}
use Rattle.vector.specs.Vectors.{all_close}
use Rattle.grid.specs.Grid.{point_at, coordinates_fit}
use Rattle.refusal.specs.Refusals.{ok, refused}
use Rattle.cyclic.specs.declared.mapping.CyclicMapping.TheVariants.{Forward, Reverse}
use Rattle.cyclic.specs.Mapping.{Seam, image, inverse, map_index, map_index_inv}
use Rattle.cyclic.specs.Search.{close_at, searched, try_from, closed, search_from, search_rows, search, rows_check}
use Rattle.cyclic.specs.Search.{new_vector}
use Rattle.cyclic.specs.Fits.{points_fit, seam_fits}

-- `unfolding computed` opens every definition that a closed result of this file needs
unfoldable pub computed : Bool
unfolding map_index map_index_inv image inverse seam_fits new_vector rows_check search search_rows search_from closed try_from
    point_at coordinates_fit all_close larger absolute is_finite eps of_bits lt le neg sub round
computed = true

-- forward, round the end of the row and back
pub forward_image : map_index (Forward 1 4) 4 ≡ ok 1
unfolding computed
forward_image = refl

pub forward_inverse : map_index_inv (Forward 1 4) 0 ≡ ok 3
unfolding computed
forward_inverse = refl

-- inverse images in reverse, at offset 0 and at another
pub reverse_zero : map_index_inv (Reverse 0 4) 1 ≡ ok 3
unfolding computed
reverse_zero = refl

pub reverse_two : map_index_inv (Reverse 1 4) 2 ≡ ok 3
unfolding computed
reverse_two = refl

pub reverse_four : map_index_inv (Reverse 1 4) 4 ≡ ok 1
unfolding computed
reverse_four = refl

abbrev pub two64 : Float
two64 = of_bits binary64 0x4000000000000000

abbrev pub three64 : Float
three64 = of_bits binary64 0x4008000000000000

-- the points with the given x and y = z = 0
abbrev pub along : List Float → List Float
along [] = []
along (x ∷ xs) = x ∷ zero64 ∷ zero64 ∷ along xs

-- b is a from its end to its start
pub turned : new_vector (along (zero64 ∷ one64 ∷ two64 ∷ three64 ∷ []))
    (along (three64 ∷ two64 ∷ one64 ∷ zero64 ∷ [])) eps
    ≡ ok (searched (Some (Reverse 0 3)) 6)
unfolding computed
turned = refl

-- closed rows, b a step further round than a
pub shifted : new_vector (along (zero64 ∷ one64 ∷ two64 ∷ zero64 ∷ [])) (along (one64 ∷ two64 ∷ zero64 ∷ one64 ∷ [])) eps
    ≡ ok (searched (Some (Forward 2 3)) 10)
unfolding computed
shifted = refl

-- open rows that fit neither way
pub apart : new_vector (along (zero64 ∷ one64 ∷ two64 ∷ [])) (along (one64 ∷ two64 ∷ three64 ∷ [])) eps
    ≡ ok (searched None 3)
unfolding computed
apart = refl

-- ---- other tolerances

abbrev pub quarter64 : Float
quarter64 = of_bits binary64 0x3FD0000000000000

-- the f64 after 1/4
abbrev pub above_quarter : Float
above_quarter = of_bits binary64 0x3FD0000000000001

-- 0.4
abbrev pub two_fifths : Float
two_fifths = of_bits binary64 0x3FD999999999999A

-- 0 1 2 3, and these from the last to the first, each 1/4 more
abbrev pub ahead_row : List Float
ahead_row = along (zero64 ∷ one64 ∷ two64 ∷ three64 ∷ [])

abbrev pub turned_row : List Float
turned_row =
    along (of_bits binary64 0x400A000000000000 ∷ of_bits binary64 0x4002000000000000 ∷ of_bits binary64 0x3FF4000000000000
    ∷ quarter64 ∷ [])

-- at 1/4 no point is close to its partner, at the next f64 each is
pub apart_at_quarter : new_vector ahead_row turned_row quarter64 ≡ ok (searched None 3)
unfolding computed
apart_at_quarter = refl

pub turned_above_quarter : new_vector ahead_row turned_row above_quarter ≡ ok (searched (Some (Reverse 0 3)) 6)
unfolding computed
turned_above_quarter = refl

pub turned_at_one : new_vector ahead_row turned_row one64 ≡ ok (searched (Some (Reverse 0 3)) 6)
unfolding computed
turned_at_one = refl

-- 0 1 2 0.4 and 1 2 0 1.4: closed at 1/2 and not at 0.4
abbrev pub nearly_closed : List Float
nearly_closed = along (zero64 ∷ one64 ∷ two64 ∷ two_fifths ∷ [])

abbrev pub nearly_closed_further : List Float
nearly_closed_further = along (one64 ∷ two64 ∷ zero64 ∷ of_bits binary64 0x3FF6666666666666 ∷ [])

pub shifted_at_half : new_vector nearly_closed nearly_closed_further half64 ≡ ok (searched (Some (Forward 2 3)) 10)
unfolding computed
shifted_at_half = refl

pub open_at_two_fifths : new_vector nearly_closed nearly_closed_further two_fifths ≡ ok (searched None 3)
unfolding computed
open_at_two_fifths = refl

-- 13 is given for rows without points too, and for rows of unlike lengths, and before 4
pub tolerance_refused : (new_vector [] [] zero64 ≡ refused 13)
    × (new_vector (along (one64 ∷ [])) ahead_row (neg one64) ≡ refused 13)
    × (new_vector (along (nan ∷ [])) [] nan ≡ refused 13)
unfolding computed
tolerance_refused = (refl, refl, refl)

-- ---- seams that are given

-- whether a seam fits two rows of three steps by a tolerance
abbrev pub fits : Float → List Float → List Float → Seam → Bool
fits tolerance a b s = seam_fits (close_at tolerance) (point_at a) (point_at b) 3 s

-- 0 1 2 0
abbrev pub round_row : List Float
round_row = along (zero64 ∷ one64 ∷ two64 ∷ zero64 ∷ [])

abbrev pub nine64 : Float
nine64 = of_bits binary64 0x4022000000000000

abbrev pub four64 : Float
four64 = of_bits binary64 0x4010000000000000

abbrev pub open_row : List Float
open_row = along (zero64 ∷ two64 ∷ four64 ∷ of_bits binary64 0x3FE999999999999A ∷ [])

abbrev pub open_row_further : List Float
open_row_further = along (two64 ∷ four64 ∷ two_fifths ∷ two64 ∷ [])

-- 0 0 0 0
abbrev pub one_point : List Float
one_point = along (zero64 ∷ zero64 ∷ zero64 ∷ zero64 ∷ [])

-- closed rows, b a step further round than a: the mapping that is found above; it is not there at offset 0
pub given_shifted : (fits eps round_row (along (one64 ∷ two64 ∷ zero64 ∷ one64 ∷ [])) (Some (Forward 2 3)) ≡ true)
    × (fits eps round_row (along (one64 ∷ two64 ∷ zero64 ∷ one64 ∷ [])) (Some (Forward 0 3)) ≡ false)
unfolding computed
given_shifted = (refl, refl)

-- b is open, with 9 for its last point, which is no point's image: each point of a is close to its image all the same
pub given_open_b :
    (points_fit (close_at eps) (point_at round_row) (point_at (along (one64 ∷ two64 ∷ zero64 ∷ nine64 ∷ []))) (Forward 2 3)
    ≡ true)
    × (fits eps round_row (along (one64 ∷ two64 ∷ zero64 ∷ nine64 ∷ [])) (Some (Forward 2 3)) ≡ false)
unfolding computed
given_open_b = (refl, refl)

-- 0 2 4 0.8 and 2 4 0.4 2 by 1/2: a is open, and each of its points is close to its image
pub given_open_a :
    (points_fit (close_at half64) (point_at open_row) (point_at open_row_further) (Forward 2 3) ≡ true)
    × (fits half64 open_row open_row_further (Some (Forward 2 3)) ≡ false)
unfolding computed
given_open_a = (refl, refl)

-- other steps than those of the rows, and an offset that is not below them, where all points are one
pub given_not_of_rows : (fits eps one_point one_point (Some (Forward 0 4)) ≡ false)
    × (fits eps one_point one_point (Some (Forward 3 3)) ≡ false)
    × (fits eps one_point one_point (Some (Reverse 0 2)) ≡ false)
unfolding computed
given_not_of_rows = (refl, refl, refl)

-- there any mapping fits, first or not, and None does everywhere
pub given_not_first : (fits eps one_point one_point (Some (Reverse 2 3)) ≡ true)
    × (fits eps round_row one_point None ≡ true)
unfolding computed
given_not_first = (refl, refl)
