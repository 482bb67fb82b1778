-- `edges::scratch::place_of` meets its contract: a lambda goes to the end, where it goes behind the last, or else where
-- the search by halves says.
use Rattle.std.proofs.Common.{rules, sym, ◌∙◌}
use Rattle.std.proofs.lemmas.List.Sorted.{IsPartitionPoint-from_clause}
use Rattle.edges.specs.Order.{is_behind}
use Rattle.edges.proofs.Places.{last_says, goes_last, goes_there}
use Rattle.edges.proofs.scratch.place_of.Goals as goal

pub returns-then-is_none_or : goal.returns-then-is_none_or
returns-then-is_none_or c =
    let a = c.args in
    let last =
    last_says a.lambdas.now (is_behind a.lambda) c.last.result _ c.last.ensures.value c.is_none_or.ensures
    (λ x k. search rules) in
    goes_last a.lambda a.lambdas.now (sym last ∙ c.if-is_none_or.true)

pub returns-else-is_none_or : goal.returns-else-is_none_or
returns-else-is_none_or c =
    let a = c.args in
    let place = c.partition_point.result in
    let part =
    IsPartitionPoint-from_clause (is_behind a.lambda) a.lambdas.now place c.partition_point.ensures.partitioned
    c.requires (λ x r f k. search rules) in
    goes_there a.lambda a.lambdas.now place c.partition_point.ensures.bound part
