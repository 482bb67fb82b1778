-- At EPS refusal 13 never applies, and a test that passes may stand between others or be left out: so the tests are
-- those of before, and all else takes EPS where it stood.
use mathlib.Core.Path.{◌≡◌}
use Rattle.refusal.specs.Refusals.{passed}
use Rattle.refusal.proofs.Laws.{then_nothing}
use Rattle.tolerance.specs.Tolerance.{every_eps, tolerances_check}
use Rattle.tolerance.specs.Table.{eps_fits}
use Rattle.cyclic.specs.Search.{rows_check, new_vector}
use Rattle.surface.specs.Found.{u_search, v_search}
use Rattle.mesh.specs.Mesh.{mesh_check}
use Rattle.triangulation.proofs.Answers.{in_turn_lem}
use Rattle.trace.specs.Trace.{check_lengths, trace_check, trace_flat}
use Rattle.at_eps.specs.AtEps.{SameAtEps}

every_fits : tolerances_check every_eps ≡ passed
every_fits = rw eps_fits

pub same_at_eps : SameAtEps
unfolding rows_check new_vector u_search v_search mesh_check trace_check trace_flat
same_at_eps =
    record {
      rows = λ a b. rw eps_fits;
      triangles = λ g m n lent. rw (in_turn_lem g m n every_eps lent, every_fits);
      trace = λ g m n pairs marks l. rw (every_fits, then_nothing (check_lengths pairs marks));
    }
