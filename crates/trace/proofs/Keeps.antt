-- What moves keep true of a drawing: a property that a pushed point, a kept line and a dropped line each leave true.
use mathlib.Core.Path.{◌≡◌, refl}
use mathlib.Core.Bool.{Bool, true, false, cond}
use mathlib.Core.List.{List, [], ◌∷◌, ◌++◌}
use Prim.Native.Nat.{◌+◌, ◌≤◌}
use lib.Dec.{ltb, leb}
use lib.ListN.{length}
use lib.Ieee.{Float}
use borrow.Author.Tests.{leb-true}
use Rattle.refusal.specs.declared.Refusal.TheVariants.{Full}
use Rattle.page.specs.declared.TracedPoint.{TracedPoint}
use Rattle.page.specs.Moves.{Move, on, off}
use Rattle.page.proofs.Moves.{AllPushed, Holding, run_keeps}
use Rattle.trace.specs.Drawing.{Drawing, drawing, Room, close_to_last, push_segment_point, flush_segment}
use Rattle.trace.specs.Drawing.{draw}

module _ (P : Drawing → Type 0) (Good : TracedPoint → Type 0)
    (point : (c : TracedPoint) → Good c → (d : Drawing) → P d →
    P (drawing d.drawn d.starts (d.segment ++ (c ∷ []))))
    (line : (d : Drawing) → P d → 2 ≤ length d.segment →
    P (drawing (d.drawn ++ d.segment) (d.starts ++ (length d.drawn ∷ [])) []))
    (dropped : (d : Drawing) → P d → P (drawing d.drawn d.starts []))
    (tolerance : Float) (room : Room)
  where
    push_keeps : (c : TracedPoint) → Good c → (d : Drawing) → P d → Holding P (push_segment_point tolerance room c d)
    unfolding push_segment_point
    push_keeps c good d h =
        go (close_to_last tolerance d.segment c) (ltb (length d.drawn + length d.segment) room.points)
      where
        go : (a b : Bool) → Holding P (cond a (on d)
            (cond b (on (drawing d.drawn d.starts (d.segment ++ (c ∷ [])))) (off Full d)))
        go true b = h
        go false true = point c good d h
        go false false = tt

    flush_keeps : (d : Drawing) → P d → Holding P (flush_segment room d)
    unfolding flush_segment
    flush_keeps d h = go (leb 2 (length d.segment)) (ltb (length d.starts) room.lines) refl
      where
        go : (a b : Bool) → leb 2 (length d.segment) ≡ a
            → Holding P (cond a (cond b
            (on (drawing (d.drawn ++ d.segment) (d.starts ++ (length d.drawn ∷ [])) [])) (off Full d))
            (on (drawing d.drawn d.starts [])))
        go true true e = line d h (leb-true 2 (length d.segment) e)
        go true false e = tt
        go false b e = dropped d h

    pub draw_keeps : {ms : List (Move TracedPoint)} → AllPushed Good ms → (d : Drawing) → P d →
        Holding P (draw tolerance room ms d)
    draw_keeps good =
        run_keeps Good P (push_segment_point tolerance room) (flush_segment room) push_keeps flush_keeps good
