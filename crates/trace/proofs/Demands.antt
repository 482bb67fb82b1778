-- Demand 3, whole. The sides and the flipped pairs are the surface's theorem. A traced point was made from the ends
-- of a grid edge (each event's side is one, and Drawn.antt has that no other point is drawn), and the surface's
-- theorem says that J takes the ends of a grid edge to the ends of a side.
use Rattle.std.specs.Prelude.{Some, None, Option}
use Rattle.cyclic.specs.Mapping.{Seam}
use mathlib.Core.Path.{◌≡◌, refl}
use mathlib.Core.Bool.{true}
use mathlib.Core.List.{List}
use Prim.Native.Nat.{ℕ, ◌+◌, ◌*◌, ◌≤◌, ◌<◌}
use native.Mathlib.Omega.{arith}
use lib.Ieee.{Float}
use Rattle.basics.proofs.Lists.{each_implies}
use Rattle.tolerance.specs.declared.Tolerances.{Tolerances}
use Rattle.grid.specs.Grid.{point_number, point_at, Accepted}
use Rattle.grid.proofs.Laws.{accepted_known, point_below}
use Rattle.surface.specs.Surface.{Shape, GridEdge, along_u, along_v, falls, rises, StepsAround, Meets}
use Rattle.surface.specs.Found.{u_search, v_search, surface_with, CoveredJoining}
use Rattle.surface.specs.Given.{seams_fit}
use Rattle.surface.proofs.Demand as surface
use Rattle.surface.proofs.Joinings.{found_fits, given_meets}
use Rattle.param.specs.declared.Leg.{Leg}
use Rattle.param.specs.Param.{cells}
use Rattle.edges.specs.Events.{sorted_edge_events, Inside, OnGrid}
use Rattle.edges.specs.declared.event.ParamEdge.{ParamEdge}
use Rattle.edges.specs.declared.event.ParamEdge.TheVariants.{U, «V», Diagonal}
use Rattle.edges.specs.declared.event.EdgeEvent.{EdgeEvent}
use Rattle.edges.proofs.Laws.{leg_inside}
use Rattle.crossing.specs.declared.Crossing.{Crossing}
use Rattle.crossing.specs.Crossing.{step_index, blend, crossing, on_u, on_v, edge_point}
use Rattle.crossing.proofs.Edges.{cell_inside}
use Rattle.page.specs.declared.TracedPoint.{TracedPoint}
use Rattle.page.specs.Page.{Lists}
use Rattle.page.proofs.Moves.{Holding}
use Rattle.walk.proofs.Pushed.{GoodEdge, GoodEvents}
use Rattle.trace.specs.Curve.{samples_of}
use Rattle.trace.specs.Drawing.{room_in}
use Rattle.trace.specs.Trace.{drawing_of, trace_flat}
use Rattle.trace.specs.Demand.{EachPoint, Made, OnSide, DemandMet, Demand3}
use Rattle.trace.proofs.Pushed.{trace_good}
use Rattle.trace.proofs.Drawn.{GoodDrawing, drawn_good}
use Rattle.trace.proofs.Points.{Stands, each_point}

no_point_lem : {c : Crossing} → None ≡ Some c → ⊥
no_point_lem e = let z : ◌≡◌ {A = ℕ} 0 1 = cc in omega arith

-- made from the two ends of a grid edge by the fraction t
pub record FromEdge (g : List Float) (s : Shape) (c : Crossing) : Type 0 where
  pub edge : surface.EdgeNumbers s c.p c.q
  pub blended : c.point ≡ blend (point_at g c.p) (point_at g c.q) c.t

-- ---- each event's side is a grid edge, whatever the seams

module _ (g : List Float) (m n : ℕ) (hm : m ≤ 255) (hn : n ≤ 255) (su sv : Seam) where
  abbrev s : Shape
  s = surface_with m n su sv

  -- a crossing of the two ends of a grid edge
  made : {u v u' v' : ℕ} {t : Float} {c : Crossing} → GridEdge s u v u' v' →
      Some (crossing g (point_number n u v) (point_number n u' v') t) ≡ Some c → FromEdge g s c
  made {u} {v} {u'} {v'} {t} {c} edge e =
      let same : crossing g (point_number n u v) (point_number n u' v') t ≡ c = cc in
      record {
        edge = record { u = u; v = v; u' = u'; v' = v'; edge = edge; p_is = cc; q_is = cc };
        blended = rw (← same);
      }

  on_u_lem : (u : ℕ) (x : Float) (c : Crossing) → u ≤ m → on_u g n u (step_index x n) ≡ Some c → FromEdge g s c
  on_u_lem u x c h e = go (step_index x n) refl e
    where
      go : (i : Option (ℕ × Float)) → step_index x n ≡ i → on_u g n u i ≡ Some c → FromEdge g s c
      go (Some (v, t)) q r = made (along_v h (cell_inside x n hn refl q)) r
      go None q r = absurd (no_point_lem r)

  on_v_lem : (v : ℕ) (x : Float) (c : Crossing) → v ≤ n → on_v g n v (step_index x m) ≡ Some c → FromEdge g s c
  on_v_lem v x c h e = go (step_index x m) refl e
    where
      go : (i : Option (ℕ × Float)) → step_index x m ≡ i → on_v g n v i ≡ Some c → FromEdge g s c
      go (Some (u, t)) q r = made (along_u (cell_inside x m hm refl q) h) r
      go None q r = absurd (no_point_lem r)

  -- the sides that `edge_point` takes are grid edges
  good_edge : (e : ParamEdge) → Inside (cells m n) e → GoodEdge g (cells m n) (FromEdge g s) e
  unfolding edge_point
  good_edge (U u) h x c q = on_u_lem u x.v c h q
  good_edge («V» v) h x c q = on_v_lem v x.u c h q
  good_edge (Diagonal u v) h x c q = made (falls h.0 h.1 refl) q

  -- each event of a leg falls on a side inside the grid
  good_events : (l : Leg) → GoodEvents g (cells m n) (FromEdge g s) (sorted_edge_events (cells m n) l)
  good_events l =
      each_implies (OnGrid (cells m n)) (λ (e : EdgeEvent). GoodEdge g (cells m n) (FromEdge g s) e.edge)
      (λ e. good_edge e.edge) (sorted_edge_events (cells m n) l)
      (leg_inside (cells m n) l hm hn refl)

  -- ---- the points of a trace

  -- of a point
  abbrev PointFromEdge : TracedPoint → Type 0
  PointFromEdge c = FromEdge g s c.crossing

  -- every point that a trace draws was made from the ends of a grid edge
  from_edges : (tolerances : Tolerances) (pairs : List Float) (marks : List ℕ) (l : Lists) →
      Holding (GoodDrawing PointFromEdge)
      (drawing_of tolerances.line g m n pairs marks (room_in l))
  from_edges tolerances pairs marks l =
      drawn_good PointFromEdge tolerances.line (room_in l)
      (trace_good g (cells m n) (FromEdge g s) good_events 0 (samples_of marks pairs) None)

  -- so what follows of such a point holds of each point of the lists
  from_edge : (P : Lists → ℕ → Type 0) →
      ((c : TracedPoint) → PointFromEdge c → (l : Lists) (i : ℕ) → Stands l i c → P l i) →
      (tolerances : Tolerances) (pairs : List Float) (marks : List ℕ) (l : Lists) →
      EachPoint P (trace_flat g m n tolerances pairs marks l)
  from_edge P of_point tolerances pairs marks l =
      each_point PointFromEdge P of_point g m n tolerances pairs marks l
      (λ e. from_edges tolerances pairs marks l)

  -- the ends of a grid edge are grid points
  end_below : {u v u' v' : ℕ} → GridEdge s u v u' v' →
      (point_number n u v < (m + 1) * (n + 1)) × (point_number n u' v' < (m + 1) * (n + 1))
  end_below {u} {v} (along_u h k) = (point_below m n u v (omega arith) k, point_below m n (u + 1) v (omega arith) k)
  end_below {u} {v} (along_v h k) = (point_below m n u v h (omega arith), point_below m n u (v + 1) h (omega arith))
  end_below (falls {u} {v} h k e) =
      (point_below m n (u + 1) v (omega arith) (omega arith), point_below m n u (v + 1) (omega arith) (omega arith))
  end_below (rises {u} {v} h k e) =
      (point_below m n u v (omega arith) (omega arith), point_below m n (u + 1) (v + 1) (omega arith) (omega arith))

  pub points_made : (tolerances : Tolerances) (pairs : List Float) (marks : List ℕ) (l : Lists) →
      EachPoint (Made g m n) (trace_flat g m n tolerances pairs marks l)
  points_made =
      from_edge (Made g m n)
      (λ c from l i s.
      let e = from.edge in
      let b = end_below e.edge in
      record {
        p_there = rw (s.p_is, e.p_is) b.0;
        q_there = rw (s.q_is, e.q_is) b.1;
        blended = rw (s.point_is, s.p_is, s.q_is, s.t_is) from.blended;
      })

  pub points_on_sides : Meets s → StepsAround 2 s → (tolerances : Tolerances) (pairs : List Float) (marks : List ℕ)
      (l : Lists) → EachPoint (OnSide s) (trace_flat g m n tolerances pairs marks l)
  points_on_sides meets around =
      from_edge (OnSide s)
      (λ c from l i at. rw (at.p_is, at.q_is)
      (surface.traced s meets around c.crossing.p c.crossing.q from.edge))

-- ---- Rules 5.4 and 5.5: demand 3

-- of two seams that fit the grid
pub fitting_met : (g : List Float) (m n : ℕ) → Accepted g m n → (t : Tolerances) (u v : Seam) →
    seams_fit g m n t u v ≡ true → CoveredJoining u v → DemandMet g m n u v
fitting_met g m n accepted t u v fit covered =
    let steps = (accepted_known g m n accepted).steps in
    let meets = given_meets g m n accepted t u v fit covered in
    record {
      surface = meets;
      points = λ around. points_on_sides g m n steps.m_most steps.n_most u v meets around;
    }

-- the seams that are found are such seams
pub demand3 : (g : List Float) (m n : ℕ) → Demand3 g m n
demand3 g m n accepted =
    let steps = (accepted_known g m n accepted).steps in
    record {
      made = points_made g m n steps.m_most steps.n_most None None;
      given = fitting_met g m n accepted;
      covered =
          λ t covered. fitting_met g m n accepted t (u_search g m n t.u).seam (v_search g m n t.v).seam
          (found_fits g m n t steps.m_least steps.n_least) covered;
    }
