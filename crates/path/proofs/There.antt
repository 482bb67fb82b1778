-- When a line is there, as facts: `line_span` answers by the test, and these turn the test into its five facts and
-- back.
use Prim.Native.Nat.{ℕ, ◌*◌, ◌≤◌, ◌<◌}
use native.Mathlib.Omega.{arith}
use mathlib.Core.Path.{◌≡◌, refl, sym, ap, ◌∙◌}
use mathlib.Core.Bool.{Bool, true, false, ◌&&◌, cond}
use mathlib.Core.List.{List}
use lib.Dec.{leb, ltb}
use lib.Ieee.{Float}
use lib.ListN.{length}
use borrow.Author.Tests.{ltb-true, leb-true, lt-ltb, le-leb}
use Rattle.basics.proofs.Tests.{and_both}
use Rattle.std.specs.Prelude.{Result, Ok}
use Rattle.refusal.specs.declared.Refusal.{Refusal}
use Rattle.refusal.specs.Refusals.{ok, refused, stated}
use Rattle.path.specs.declared.Span.{Span}
use Rattle.path.specs.Line.{line_start, line_end, is_there, line_span, part_of, line_at}

pub record There (points : List Float) (starts : List ℕ) (point_count line_count index : ℕ) : Type 0 where
  pub below : index < line_count
  pub points_fit_lem : 3 * point_count ≤ length points
  pub starts_fit : line_count ≤ length starts
  pub ordered : line_start starts index ≤ line_end starts point_count line_count index
  pub within : line_end starts point_count line_count index ≤ point_count

module _ (points : List Float) (starts : List ℕ) (point_count line_count index : ℕ) where
  abbrev ends : Span
  ends = record { start = line_start starts index; end = line_end starts point_count line_count index }

  is_there_lem : There points starts point_count line_count index →
      is_there points starts point_count line_count index ≡ true
  unfolding is_there
  is_there_lem t =
      rw (
        lt-ltb _ _ t.below,
        le-leb _ _ t.points_fit_lem,
        le-leb _ _ t.starts_fit,
        le-leb _ _ t.ordered,
        le-leb _ _ t.within,
      )

  there : is_there points starts point_count line_count index ≡ true → There points starts point_count line_count index
  unfolding is_there
  there h =
      let s = line_start starts index in
      let e = line_end starts point_count line_count index in
      let p = leb (3 * point_count) (length points) in
      let q = leb line_count (length starts) in
      let a = and_both (ltb index line_count) ((p && q) && (leb s e && leb e point_count)) h in
      let b = and_both (p && q) (leb s e && leb e point_count) a.1 in
      let f = and_both p q b.0 in
      let o = and_both (leb s e) (leb e point_count) b.1 in
      record {
        below = ltb-true _ _ a.0;
        points_fit_lem = leb-true _ _ f.0;
        starts_fit = leb-true _ _ f.1;
        ordered = leb-true _ _ o.0;
        within = leb-true _ _ o.1;
      }

  -- the span of a line that is there, and 8 for one that is not
  pub span_there : There points starts point_count line_count index →
      line_span points starts point_count line_count index ≡ ok ends
  unfolding line_span
  span_there t = rw (is_there_lem t)

  pub span_not : (There points starts point_count line_count index → ⊥) →
      line_span points starts point_count line_count index ≡ refused 8
  unfolding line_span
  span_not f = go (is_there points starts point_count line_count index) refl
    where
      go : (t : Bool) → is_there points starts point_count line_count index ≡ t →
          cond t (ok ends) (refused 8) ≡ refused 8
      go true e = absurd (f (there e))
      go false e = refl

  -- an answer that is no refusal is of a line that is there
  pub span_ok : {e : Span} → ok e ≡ line_span points starts point_count line_count index →
      There points starts point_count line_count index
  unfolding line_span
  span_ok {e} h = go (is_there points starts point_count line_count index) refl h
    where
      go : (t : Bool) → is_there points starts point_count line_count index ≡ t → ok e ≡ cond t (ok ends) (refused 8) →
          There points starts point_count line_count index
      go true q h = there q
      go false q h = let z : ◌≡◌ {A = ℕ} 0 1 = cc in absurd (omega arith)

  -- where a line lies whose ends were answered
  pub span_bounds : {r : Result Span Refusal} {e : Span} → r ≡ Ok e →
      stated r ≡ line_span points starts point_count line_count index → (e.start ≤ e.end) × (3 * e.end ≤ length points)
  span_bounds {r} {e} i h =
      let answered : ok e ≡ line_span points starts point_count line_count index = ap stated (sym i) ∙ h in
      let t = span_ok answered in
      let same : e ≡ ends = cc (span_there t) in
      let a : e.start ≡ line_start starts index = ap (λ (x : Span). x.start) same in
      let b : e.end ≡ line_end starts point_count line_count index = ap (λ (x : Span). x.end) same in
      (omega arith, omega arith)

  -- the part that an answer gives
  pub part_is : {r q : Result Span Refusal} → r ≡ q → stated r ≡ line_span points starts point_count line_count index →
      part_of points (stated q) ≡ line_at points starts point_count line_count index
  unfolding line_at
  part_is i h = rw (← i, h)
