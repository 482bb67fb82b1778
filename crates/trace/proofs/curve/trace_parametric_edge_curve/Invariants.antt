use mathlib.Core.Path.{◌≡◌}
use Rattle.std.specs.Prelude.{None}
use Rattle.page.specs.Sheets.{page_of, same_lists}
use Rattle.trace.proofs.Sampled.{left}
use Rattle.trace.proofs.curve.trace_parametric_edge_curve.Given as goal

abbrev pub invariant-loop-i : goal.invariant-loop-i
invariant-loop-i l =
    let g = l.grid in
    let s = l.samples in
    same_lists l.initial.sheet l.sheet
    × (left l.tolerance g.points.now g.cells s.marks.now s.pairs.now 0 None (page_of l.initial.sheet)
    ≡ left l.tolerance g.points.now g.cells s.marks.now s.pairs.now l.i l.previous (page_of l.sheet))
