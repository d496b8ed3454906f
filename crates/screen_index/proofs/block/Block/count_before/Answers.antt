use Rattle.std.proofs.Common.{◌≡◌, ◌∙◌, arith, false, get_or, length, nat_lt, rules, subst, sym, true, ap}
use Rattle.std.proofs.lemmas.Bool.Decides.{nat_tests}
use Rattle.std.proofs.lemmas.List.Sorted.{IsPartitionPoint-from_clause}
use Rattle.screen_index.specs.Pairs.{Ascend, rank, rank_of}
use Rattle.screen_index.proofs.Places.{parted}
use Rattle.screen_index.proofs.block.Block.count_before.Goals as goal

pub returns-clause-before : goal.returns-clause-before
returns-clause-before g c =
    let r = rank c.args.place.0 c.args.place.1 in
    let same = c.as_slice.ensures.value ∙ c.self.view_is in
    let p = IsPartitionPoint-from_clause (λ x. nat_lt (rank_of x) r) c.as_slice.result.now
    c.partition_point.result c.partition_point.ensures.partitioned
    (parted r _ (subst (Ascend 0) (sym same) c.requires)) (λ a b f h. search rules) in
    λ k d low high.
    let t : nat_lt (rank_of (get_or c.args.self.now k d)) r ≡ true =
    ap (λ l. nat_lt (rank_of (get_or l k d)) r) (sym same) ∙ p.0 k d low high in
    grind (arith, nat_tests, t)

pub returns-clause-behind : goal.returns-clause-behind
returns-clause-behind g c =
    let r = rank c.args.place.0 c.args.place.1 in
    let same = c.as_slice.ensures.value ∙ c.self.view_is in
    let p = IsPartitionPoint-from_clause (λ x. nat_lt (rank_of x) r) c.as_slice.result.now
    c.partition_point.result c.partition_point.ensures.partitioned
    (parted r _ (subst (Ascend 0) (sym same) c.requires)) (λ a b f h. search rules) in
    λ k d low high.
    let t : nat_lt (rank_of (get_or c.args.self.now k d)) r ≡ false =
    ap (λ l. nat_lt (rank_of (get_or l k d)) r) (sym same)
    ∙ p.1 k d low (omega (arith, high, ap (λ l. length l) same)) in
    grind (arith, nat_tests, t)
