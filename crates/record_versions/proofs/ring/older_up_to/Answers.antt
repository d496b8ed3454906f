use Rattle.std.proofs.Common.{nat_le, rules}
use Rattle.std.proofs.lemmas.Bool.{leb-false, leb-true}
use Rattle.std.proofs.lemmas.List.Sorted.{IsPartitionPoint-from_clause}
use Rattle.record_versions.proofs.Order.{parted}
use Rattle.record_versions.proofs.ring.older_up_to.Goals as goal

pub returns-clause-before : goal.returns-clause-before
returns-clause-before g c =
    let p = IsPartitionPoint-from_clause (λ k. nat_le k.version c.args.version) c.args.older.now.items
    c.partition_point.result c.partition_point.ensures.partitioned (parted c.args.version _ c.requires)
    (λ a r f h. search rules) in
    λ k d low high. leb-true _ _ (p.0 k d low high)

pub returns-clause-behind : goal.returns-clause-behind
returns-clause-behind g c =
    let p = IsPartitionPoint-from_clause (λ k. nat_le k.version c.args.version) c.args.older.now.items
    c.partition_point.result c.partition_point.ensures.partitioned (parted c.args.version _ c.requires)
    (λ a r f h. search rules) in
    λ k d low high. leb-false _ _ (p.1 k d low high)
