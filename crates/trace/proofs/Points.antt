-- What is said of each point that a trace draws is said of each point of the lists that it leaves: the places of point
-- i hold what the point puts there.
use Rattle.std.specs.Prelude.{Ok, Err}
use Rattle.refusal.specs.Refusals.{Check, passed}
use mathlib.Core.Path.{◌≡◌, refl}
use mathlib.Core.List.{List}
use Prim.Native.Nat.{ℕ, ◌+◌, ◌*◌, ◌<◌}
use native.Mathlib.Nat.{add-zero}
use native.Mathlib.Omega.{arith}
use lib.ListN.{length, get_or}
use lib.Ieee.{Float, nan}
use Rattle.basics.proofs.Lists.{each_at}
use Rattle.float.specs.Consts.{zero64}
use Rattle.tolerance.specs.declared.Tolerances.{Tolerances}
use Rattle.lent.specs.Lent.{if_passed}
use Rattle.vector.specs.Vectors.{vector}
use Rattle.grid.specs.Grid.{point_at}
use Rattle.page.specs.declared.TracedPoint.{TracedPoint}
use Rattle.page.specs.Moves.{Outcome, on, off}
use Rattle.page.specs.Page.{Lists, traced_by}
use Rattle.page.proofs.Moves.{Holding}
use Rattle.trace.specs.Drawing.{Drawing, room_in}
use Rattle.trace.specs.Trace.{point_of, side_of, fraction_of, sample_number_of, lists_with, drawing_of, finished}
use Rattle.trace.specs.Trace.{trace_check, trace_flat}
use Rattle.trace.specs.Demand.{EachPoint, p_of, q_of, t_of}
use Rattle.trace.specs.Numbers.{sample_number}
use Rattle.trace.proofs.Turns.{filled_at}
use Rattle.trace.proofs.Drawn.{GoodDrawing}

-- what stands for a point past the last
pub no_point : TracedPoint
no_point = traced_by 0 (record { p = 0; q = 0; t = nan; point = vector nan nan nan })

-- the places of point i hold c
pub record Stands (l : Lists) (i : ℕ) (c : TracedPoint) : Type 0 where
  pub p_is : p_of l i ≡ c.crossing.p
  pub q_is : q_of l i ≡ c.crossing.q
  pub t_is : t_of l i ≡ c.crossing.t
  pub point_is : point_at l.points i ≡ c.crossing.point
  pub sample_is : sample_number l i ≡ c.sample

-- so those of the lists that a trace leaves hold its points
pub stands : (cs : List TracedPoint) (ss : List ℕ) (l : Lists) (i : ℕ) → i < length cs →
    Stands (lists_with cs ss l) i (get_or cs i no_point)
unfolding point_at
stands cs ss l i h =
    let x : _ =
    simp add-zero at (filled_at 3 point_of (λ c. refl) cs l.points zero64 i 0 nan no_point h (omega arith)) in
    let y : _ = filled_at 3 point_of (λ c. refl) cs l.points zero64 i 1 nan no_point h (omega arith) in
    let z : _ = filled_at 3 point_of (λ c. refl) cs l.points zero64 i 2 nan no_point h (omega arith) in
    let one : 1 * i + 0 ≡ i = omega arith in
    record {
      p_is = simp add-zero at (filled_at 2 side_of (λ c. refl) cs l.sides 0 i 0 0 no_point h (omega arith));
      q_is = filled_at 2 side_of (λ c. refl) cs l.sides 0 i 1 0 no_point h (omega arith);
      t_is = rw one at (filled_at 1 fraction_of (λ c. refl) cs l.fractions zero64 i 0 nan no_point h (omega arith));
      point_is = rw (x, y, z);
      sample_is = rw one at (filled_at 1 sample_number_of (λ c. refl) cs l.samples 0 i 0 0 no_point h (omega arith));
    }

-- THE LAW: P of each point of the lists, where it follows of each place that holds a good point, and a trace that is
-- not refused before the walk draws only good points
module _ (Good : TracedPoint → Type 0) (P : Lists → ℕ → Type 0)
    (of_point : (c : TracedPoint) → Good c → (l : Lists) (i : ℕ) → Stands l i c → P l i)
    (g : List Float) (m n : ℕ) (tolerances : Tolerances) (pairs : List Float) (marks : List ℕ) (l : Lists)
  where
    finished_each : (y : Outcome Drawing) → Holding (GoodDrawing Good) y → EachPoint P (finished y l)
    finished_each (off k d) good i h = absurd (omega arith)
    finished_each (on d) good i h =
        of_point (get_or d.drawn i no_point) (each_at Good d.drawn i no_point good.drawn h)
        (finished (on d) l).lists i (stands d.drawn d.starts l i h)

    abbrev drawn : Outcome Drawing
    drawn = drawing_of tolerances.line g m n pairs marks (room_in l)

    pub each_point : (trace_check g m n tolerances pairs marks ≡ passed → Holding (GoodDrawing Good) drawn) →
        EachPoint P (trace_flat g m n tolerances pairs marks l)
    unfolding trace_flat
    each_point good = go (trace_check g m n tolerances pairs marks) refl
      where
        go : (k : Check) → trace_check g m n tolerances pairs marks ≡ k → EachPoint P (if_passed k l (finished drawn l))
        go (Err k) e = λ i h. absurd (omega arith)
        go (Ok u) e = finished_each drawn (good e)
