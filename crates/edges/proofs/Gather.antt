-- Candidates are sorted in one by one: what remains to be sorted into the events that stand there gives the whole.
use Rattle.std.specs.Prelude.{Option, Some, None}
use mathlib.Core.Path.{◌≡◌, refl}
use mathlib.Core.Bool.{true, false}
use mathlib.Core.List.{List, [], ◌∷◌, ◌++◌}
use Prim.Native.Nat.{ℕ, suc, ◌+◌, ◌-◌, ◌<◌, ◌≤◌, max}
use native.Mathlib.Omega.{arith}
use lib.ListN.{length}
use Rattle.float.specs.Consts.{zero64, one64}
use Rattle.param.specs.declared.Leg.{Leg}
use Rattle.param.specs.declared.Cells.{Cells}
use Rattle.param.specs.declared.Axis.{Axis}
use Rattle.param.specs.declared.Axis.TheVariants.{AxisU, AxisV}
use Rattle.param.specs.Param.{steps_on}
use Rattle.edges.specs.declared.event.ParamEdge.{ParamEdge}
use Rattle.edges.specs.declared.event.EdgeEvent.{EdgeEvent}
use Rattle.edges.specs.Events.{edge_at_point, end_candidate, change, line_candidate, change_of_sum, diagonal_candidate}
use Rattle.edges.specs.Events.{changes, listed, list_from, first_sum, past_sum, ends, lines, diagonals, candidates}
use Rattle.edges.specs.Events.{insert, pushed, sort_into}
use Rattle.edges.proofs.Each.{length_pushed, length_sort, length_ends, length_lines}

-- ---- one candidate, then the rest
sort_listed : (c : Option EdgeEvent) (rest acc : List EdgeEvent) →
    sort_into (listed c rest) acc ≡ sort_into rest (pushed c acc)
unfolding sort_into
sort_listed (Some e) rest acc = refl
sort_listed None rest acc = refl

pub sort_append : (xs ys acc : List EdgeEvent) → sort_into (xs ++ ys) acc ≡ sort_into ys (sort_into xs acc)
unfolding sort_into
sort_append [] ys acc = refl
sort_append (x ∷ xs) ys acc = sort_append xs ys (insert x acc)

-- ---- a loop over the candidates of numbers from `first` up to, and without, `end`

-- so far those below i are sorted in, and with the others they give the whole
pub record Gathering (f : ℕ → Option EdgeEvent) (first end : ℕ) (whole start es : List EdgeEvent) (i : ℕ) : Type 0 where
  pub from : first ≤ i
  pub to : i ≤ max first end
  pub few : length es + first ≤ length start + i
  pub left : whole ≡ sort_into (list_from f (end - i) i) es

module _ {f : ℕ → Option EdgeEvent} {first end : ℕ} {whole start es : List EdgeEvent} {i : ℕ}
    (g : Gathering f first end whole start es i) where
  pub gather_turn : i < end → {c : Option EdgeEvent} {r : List EdgeEvent} → c ≡ f i → r ≡ pushed c es →
      Gathering f first end whole start r (i + 1)
  unfolding list_from
  gather_turn h {c} p q =
      let s : end - i ≡ suc (end - (i + 1)) = omega arith in
      record {
        from = omega arith;
        to = omega arith;
        few = rw q (omega (arith, length_pushed c es));
        left = rw (g.left, s, sort_listed, q, p);
      }

  pub gather_ends : end ≤ i → es ≡ whole
  unfolding list_from sort_into
  gather_ends h = let s : end - i ≡ 0 = omega arith in rw (g.left, s)

-- ---- the four groups
-- by how much they grow
pub ends_grow : (k : Cells) (leg : Leg) (acc : List EdgeEvent) {r : List EdgeEvent} → r ≡ sort_into (ends k leg) acc →
    length r ≤ length acc + 2
ends_grow k leg acc h = rw h (omega (arith, length_sort (ends k leg) acc, length_ends k leg))

pub lines_grow : (x : Axis) (k : Cells) (leg : Leg) (acc : List EdgeEvent) {r : List EdgeEvent} →
    r ≡ sort_into (lines x k leg) acc → length r ≤ length acc + (steps_on x k + 1)
lines_grow x k leg acc h = rw h (omega (arith, length_sort (lines x k leg) acc, length_lines x k leg))

module _ (x : Axis) (k : Cells) (leg : Leg) (acc : List EdgeEvent) where
  pub lines_none : changes (change x leg) ≡ false → acc ≡ sort_into (lines x k leg) acc
  unfolding lines sort_into
  lines_none h = rw h

  pub lines_start : changes (change x leg) ≡ true → {n : ℕ} → n ≡ steps_on x k →
      sort_into (lines x k leg) acc ≡ sort_into (list_from (line_candidate x k leg) (n + 1 - 0) 0) acc
  unfolding lines
  lines_start h {n} q = let all : n + 1 - 0 ≡ steps_on x k + 1 = omega arith in rw (h, all)

module _ (k : Cells) (leg : Leg) where
  pub ends_pushed : (acc : List EdgeEvent) {x y : Option ParamEdge} {c d : Option EdgeEvent} {r s : List EdgeEvent} →
      x ≡ edge_at_point k leg.a → y ≡ edge_at_point k leg.b → c ≡ end_candidate zero64 x → d ≡ end_candidate one64 y →
      r ≡ pushed c acc → s ≡ pushed d r → s ≡ sort_into (ends k leg) acc
  unfolding ends sort_into
  ends_pushed acc hx hy hc hd hr hs = rw (hs, hr, hd, hc, hy, hx, sort_listed, sort_listed)

  module _ (acc : List EdgeEvent) where
    pub diagonals_none : changes (change_of_sum leg) ≡ false → acc ≡ sort_into (diagonals k leg) acc
    unfolding diagonals sort_into
    diagonals_none h = rw h

    pub diagonals_start : changes (change_of_sum leg) ≡ true → {first past : ℕ} → first ≡ first_sum leg →
        past ≡ past_sum k leg →
        sort_into (diagonals k leg) acc ≡ sort_into (list_from (diagonal_candidate k leg) (past - first) first) acc
    unfolding diagonals
    diagonals_start h p q = rw (h, p, q)

  pub groups_sorted : {r s t w : List EdgeEvent} → r ≡ sort_into (ends k leg) [] → s ≡ sort_into (lines AxisU k leg) r →
      t ≡ sort_into (lines AxisV k leg) s → w ≡ sort_into (diagonals k leg) t →
      w ≡ sort_into (candidates k leg) []
  unfolding candidates
  groups_sorted hr hs ht hw = rw (hw, ht, hs, hr, sort_append, sort_append, sort_append)
