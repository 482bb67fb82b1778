-- A line as a part of the points: the part that `line_span` gives is what `get` hands back, and as long.
use Prim.Native.Nat.{ℕ, ◌-◌, ◌*◌}
use native.Mathlib.Omega.{arith}
use mathlib.Core.Path.{◌≡◌, sym, ap, ◌∙◌}
use mathlib.Core.List.{List}
use lib.ListN.{length, length-take, length-drop}
use lib.Ieee.{Float}
use Rattle.std.specs.Prelude.{Result, Ok, Err}
use Rattle.path.specs.declared.Span.{Span}
use Rattle.refusal.specs.Refusals.{stated}
use Rattle.path.specs.Line.{line_span, line_at}
use Rattle.path.proofs.There.{span_bounds, part_is}
use Rattle.refusal.specs.declared.Refusal.{Refusal}
use Rattle.merlontrispa.specs.Lines.{part_in, Gets}

module _ (points : List Float) (starts : List ℕ) (point_count line_count index : ℕ) where
  pub gets : {r : Result Span Refusal} (q : Result Span Refusal) → r ≡ q →
      stated r ≡ line_span points starts point_count line_count index →
      Gets points starts point_count line_count index (part_in (stated q))
  gets (Ok e) p h =
      record {
        part = ap part_in (ap stated (sym p) ∙ h);
        line = part_is points starts point_count line_count index p h;
      }
  gets (Err k) p h =
      record {
        part = ap part_in (ap stated (sym p) ∙ h);
        line = part_is points starts point_count line_count index p h;
      }

  -- a line that is there, by where it begins and how long what `get` hands back is
  pub there : {r : Result Span Refusal} {e : Span} {line : List Float} → r ≡ Ok e →
      stated r ≡ line_span points starts point_count line_count index →
      line ≡ line_at points starts point_count line_count index →
      Gets points starts point_count line_count index (record { offset = 3 * e.start; length = length line })
  there {r} {e} {line} p h q =
      let b = span_bounds points starts point_count line_count index p h in
      let g = gets (Ok e) p h in
      let long : length line ≡ 3 * e.end - 3 * e.start =
      ap length (q ∙ sym g.line) ∙ simp (length-take, length-drop) (omega arith) in
      rw long g

  -- one that is not
  pub not_there : {r : Result Span Refusal} {k : Refusal} {line : List Float} → r ≡ Err k →
      stated r ≡ line_span points starts point_count line_count index →
      line ≡ line_at points starts point_count line_count index →
      Gets points starts point_count line_count index (record { offset = 0; length = length line })
  not_there {r} {k} {line} p h q =
      let g = gets (Err k) p h in
      let long : length line ≡ 0 = ap length (q ∙ sym g.line) in
      rw long g
