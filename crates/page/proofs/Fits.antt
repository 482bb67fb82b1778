-- What every move keeps of a page, since each writes a point that there is room for, or a start, or only moves counts:
-- `PenFits`, and the lengths of the lists.
use Prim.Native.Nat.{◌+◌}
use native.Mathlib.Omega.{arith}
use mathlib.Core.Path.{◌≡◌, refl}
use mathlib.Core.Bool.{Bool, true, false, cond}
use mathlib.Core.List.{List}
use lib.Dec.{ltb, leb}
use lib.ListN.{length, length-set}
use lib.Ieee.{Float}
use borrow.Author.Tests.{ltb-true}
use Rattle.refusal.specs.declared.Refusal.TheVariants.{Full}
use Rattle.page.specs.declared.TracedPoint.{TracedPoint}
use Rattle.page.specs.Moves.{Move, on, off}
use Rattle.page.specs.Page.{Lists, point_room, Page, has_room, close_to_pending, written, push_page, kept, dropped}
use Rattle.page.specs.Page.{flush_page, on_page, PenFits}
use Rattle.page.proofs.Moves.{Any, any_pushed, Holding, run_keeps}

-- what a written point, a kept line and a dropped line each leave true
module _ (P : Page → Type 0)
    (point : (c : TracedPoint) (g : Page) → P g → has_room g ≡ true → P (written c g))
    (line : (g : Page) → P g → P (kept g))
    (drop : (g : Page) → P g → P (dropped g))
    (tolerance : Float)
  where
    push_keeps : (c : TracedPoint) (g : Page) → P g → Holding P (push_page tolerance c g)
    unfolding push_page
    push_keeps c g h = go (close_to_pending tolerance c g) (has_room g) refl
      where
        go : (a b : Bool) → has_room g ≡ b → Holding P (cond a (on g) (cond b (on (written c g)) (off Full g)))
        go true b e = h
        go false true e = point c g h e
        go false false e = tt

    flush_keeps : (g : Page) → P g → Holding P (flush_page g)
    unfolding flush_page
    flush_keeps g h = go (leb (g.pen.start + 2) g.pen.count) (ltb g.pen.lines (length g.lists.starts))
      where
        go : (a b : Bool) → Holding P (cond a (cond b (on (kept g)) (off Full g)) (on (dropped g)))
        go true true = line g h
        go true false = tt
        go false b = drop g h

    moves_keep : (ms : List (Move TracedPoint)) (g : Page) → P g → Holding P (on_page tolerance ms g)
    moves_keep ms g h =
        run_keeps Any P (push_page tolerance) flush_page (λ c good. push_keeps c) flush_keeps (any_pushed ms) g h

-- ---- the points written so far stand in their list

abbrev pub Fitting : Page → Type 0
Fitting g = PenFits g.lists.points g.pen

written_fits : (c : TracedPoint) (g : Page) → Fitting g → has_room g ≡ true → Fitting (written c g)
unfolding written
written_fits c g h e =
    let r = ltb-true g.pen.count (point_room g.lists) e in (omega arith, simp length-set (omega arith))

kept_fits : (g : Page) → Fitting g → Fitting (kept g)
unfolding kept
kept_fits g h = (omega arith, h.1)

dropped_fits : (g : Page) → Fitting g → Fitting (dropped g)
unfolding dropped
dropped_fits g h = (omega arith, omega arith)

pub push_fits : (tolerance : Float) (c : TracedPoint) (g : Page) → Fitting g → Holding Fitting (push_page tolerance c g)
push_fits = push_keeps Fitting written_fits kept_fits dropped_fits

pub moves_fit : (tolerance : Float) (ms : List (Move TracedPoint)) (g : Page) → Fitting g →
    Holding Fitting (on_page tolerance ms g)
moves_fit = moves_keep Fitting written_fits kept_fits dropped_fits

-- ---- the lists have the lengths that they were lent with

pub record Sized (l m : Lists) : Type 0 where
  pub points : length m.points ≡ length l.points
  pub starts : length m.starts ≡ length l.starts
  pub sides : length m.sides ≡ length l.sides
  pub fractions : length m.fractions ≡ length l.fractions
  pub samples : length m.samples ≡ length l.samples

abbrev pub SizedPage : Lists → Page → Type 0
SizedPage l g = Sized l g.lists

pub same_size : (l : Lists) → Sized l l
same_size l = record { points = refl; starts = refl; sides = refl; fractions = refl; samples = refl }

-- so they have room for as many points
pub same_room : (l m : Lists) → Sized l m → point_room m ≡ point_room l
same_room l m z = rw (z.points, z.sides, z.fractions, z.samples)

module _ (l : Lists) where
  pub written_sized : (c : TracedPoint) (g : Page) → SizedPage l g → SizedPage l (written c g)
  unfolding written
  written_sized c g h =
      record {
        points = simp length-set h.points;
        starts = h.starts;
        sides = simp length-set h.sides;
        fractions = simp length-set h.fractions;
        samples = simp length-set h.samples;
      }

  pub kept_sized : (g : Page) → SizedPage l g → SizedPage l (kept g)
  unfolding kept
  kept_sized g h =
      record {
        points = h.points;
        starts = simp length-set h.starts;
        sides = h.sides;
        fractions = h.fractions;
        samples = h.samples;
      }

  pub dropped_sized : (g : Page) → SizedPage l g → SizedPage l (dropped g)
  unfolding dropped
  dropped_sized g h = h

  pub moves_sized : (tolerance : Float) (ms : List (Move TracedPoint)) (g : Page) → SizedPage l g →
      Holding (SizedPage l) (on_page tolerance ms g)
  moves_sized = moves_keep (SizedPage l) (λ c g h e. written_sized c g h) kept_sized dropped_sized
