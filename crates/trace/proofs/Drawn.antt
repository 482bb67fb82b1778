-- Every point of a drawing is good, where every point that is pushed is: a flush only moves points.
use mathlib.Core.List.{List, [], ◌∷◌}
use lib.Ieee.{Float}
use Rattle.basics.specs.Lists.{Each}
use Rattle.basics.proofs.Lists.{each_append}
use Rattle.page.specs.declared.TracedPoint.{TracedPoint}
use Rattle.page.specs.Moves.{Move}
use Rattle.page.proofs.Moves.{AllPushed, Holding}
use Rattle.trace.specs.Drawing.{Drawing, nothing_drawn, Room, draw}
use Rattle.trace.proofs.Keeps.{draw_keeps}

-- the kept and the pending points of a drawing are good
pub record GoodDrawing (Good : TracedPoint → Type 0) (d : Drawing) : Type 0 where
  pub drawn : Each Good d.drawn
  pub segment : Each Good d.segment

pub drawn_good : (Good : TracedPoint → Type 0) (tolerance : Float) (room : Room) {ms : List (Move TracedPoint)} →
    AllPushed Good ms → Holding (GoodDrawing Good) (draw tolerance room ms nothing_drawn)
drawn_good Good tolerance room good =
    draw_keeps (GoodDrawing Good) Good
    (λ c good d h. record {
      drawn = h.drawn;
      segment = each_append Good d.segment (c ∷ []) h.segment (good, tt);
    })
    (λ d h l. record { drawn = each_append Good d.drawn d.segment h.drawn h.segment; segment = tt })
    (λ d h. record { drawn = h.drawn; segment = tt })
    tolerance room good nothing_drawn (record { drawn = tt; segment = tt })
