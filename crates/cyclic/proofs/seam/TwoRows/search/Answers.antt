-- `cyclic::seam::TwoRows::search` meets its contract. The invariant of the offsets: the whole search is the search of
-- the offsets that are left, after the comparisons so far; of the two mappings at an offset: it is what is left from
-- there on; of the points: those before are close to their images, and k is the image of j. At most 131,072 comparisons
-- are made at an offset, so that their sum fits.
use native.Mathlib.Omega.{arith}
use mathlib.Core.Path.{◌≡◌, refl, sym, ◌∙◌}
use Rattle.cyclic.proofs.Remains.{first_offset, no_offset, both_left, none_left, past_run}
use Rattle.cyclic.proofs.Remains.{first_point, within, next_point, next_mapping, mapping_fits}
use Rattle.cyclic.proofs.seam.TwoRows.search.Goals as goal
use Rattle.cyclic.proofs.seam.TwoRows.search.Goals.{then-ends, else-ends, then-offset-eq0, else-offset-eq0}
use Rattle.cyclic.proofs.seam.TwoRows.search.Goals.{else-loop-j-test, then-loop-j-test+else-not-close+else-j-steps}

pub offsets-init : goal.offsets-init
offsets-init c =
    first_offset c.args.self.now.inside.steps_least c.closed-ends.ensures
    (elim c.if-ends.branch [
      | then-ends w ↦ rw w.if-ends.true w.end-is
      | else-ends w ↦ rw w.if-ends.false w.end-is
    ])

pub mappings-init : goal.mappings-init
mappings-init c = both_left c.offsets.invariant c.if-offset-end.false

pub loop-j-init : goal.loop-j-init
loop-j-init c = (
  refl,
  elim c.if-offset-eq0.branch [
    | then-offset-eq0 w ↦
        rw (w.start-is, w.k-is)
        (past_run c.mappings-test.true (omega arith) (omega arith) (omega arith) w.opposite-k.ensures.0
        w.close_run-start.ensures.1)
    | else-offset-eq0 w ↦
        first_point c.mappings-test.true (omega arith) (omega arith) w.if-offset-eq0.false w.start-is w.k-is
  ],
)

pub mappings-preserved : goal.mappings-preserved
mappings-preserved c =
    rw c.loop-j.invariant.0
    (next_mapping c.mappings-test.true c.mappings.invariant c.loop-j.invariant.1
    (sym c.close.ensures ∙ c.if-not-close.true))

pub loop-j-preserved : goal.loop-j-preserved
loop-j-preserved c = (
  c.loop-j.invariant.0,
  next_point c.offsets.offset c.mappings-test.true c.loop-j.invariant.1 (sym c.close.ensures ∙ c.if-not-close.false)
      (omega arith) c.next_image-k.ensures,
)

pub offsets-preserved : goal.offsets-preserved
offsets-preserved c =
    let last : c.mappings.mapping-index ≡ 2 = omega arith in
    none_left (rw last at c.mappings.invariant)

pub returns-then-offset-end : goal.returns-then-offset-end
returns-then-offset-end c = sym (no_offset c.offsets.invariant c.if-offset-end.true)

pub returns-after-loop-j : goal.returns-after-loop-j
returns-after-loop-j c =
    rw c.loop-j.invariant.0
    (elim c.loop-j-test.branch [
      | else-loop-j-test w ↦
          absurd (omega (arith, within c.offsets.offset c.mappings-test.true c.loop-j.invariant.1))
      | then-loop-j-test+else-not-close+else-j-steps w ↦
          sym (mapping_fits c.mappings-test.true c.mappings.invariant c.loop-j.invariant.1 (omega arith)
          (sym w.close.ensures ∙ w.if-not-close.false))
    ])
