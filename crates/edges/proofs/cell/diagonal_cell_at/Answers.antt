-- `edges::cell::diagonal_cell_at` meets its contract: the cells are those of the definition, in its order, and an index
-- that the point is not in is tried in vain.
use Rattle.std.proofs.Common.{rules}
use Rattle.edges.specs.Cell.{try_cell}
use Rattle.edges.proofs.Index.{or_else_cell, tried_in_turn}
use Rattle.edges.proofs.cell.diagonal_cell_at.Goals as goal

pub returns : goal.returns
returns c =
    let p = c.args.point in
    let first = c.try_cell.result in
    let u0 = c.in_cell-u0.result in
    let u1 = c.index_of-u1.result in
    let v0 = c.in_cell-v0.result in
    let v1 = c.index_of-v1.result in
    let second = or_else_cell first (try_cell p u0 v1) _ c.or_else.ensures (λ q. search rules) in
    let third = or_else_cell c.or_else.result (try_cell p u1 v0) _ c.or_else-2.ensures (λ q. search rules) in
    let fourth = or_else_cell c.or_else-2.result (try_cell p u1 v1) _ c.or_else-3.ensures (λ q. search rules) in
    tried_in_turn c.args.cells p (search rules) (search rules) (search rules) (search rules) c.in_cell-u0.ensures
    c.in_cell-v0.ensures c.try_cell.ensures second third fourth
