use Rattle.std.proofs.Common.{rules}
use Rattle.std.proofs.lemmas.List.Sorted.{IsPartitionPoint-from_clause}
use Rattle.similar_find.specs.Board.{is_better}
use Rattle.similar_find.proofs.best.place_of.Goals as goal

pub returns-clause-place : goal.returns-clause-place
returns-clause-place c = λ parts.
    IsPartitionPoint-from_clause (λ hit. is_better hit c.args.offer) c.args.hits.now c.partition_point.result
    c.partition_point.ensures.partitioned parts (λ a r q k. search rules)
