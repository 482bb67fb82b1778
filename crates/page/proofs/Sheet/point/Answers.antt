-- `page::Sheet::point` meets its contract.
use Rattle.std.proofs.Common.{arith, ◌+◌, ◌*◌}
use Rattle.grid.specs.Grid.{point_at}
use Rattle.page.proofs.Ends.{same_read}
use Rattle.page.proofs.Sheet.point.Goals as goal

pub returns : goal.returns
unfolding point_at
returns c =
    let l = c.args.self.now.points.now in
    let i = c.args.i in
    rw (
      c.coordinate.ensures,
      c.coordinate-2.ensures,
      c.coordinate-3.ensures,
      same_read l _ c.saturating_mul-at.result (3 * i) (λ h. omega arith) (λ h. omega arith),
      same_read l _ c.saturating_add.result (3 * i + 1) (λ h. omega arith) (λ h. omega arith),
      same_read l _ c.saturating_add-2.result (3 * i + 2) (λ h. omega arith) (λ h. omega arith),
    )
