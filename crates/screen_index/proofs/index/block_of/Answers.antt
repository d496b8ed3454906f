use Rattle.std.proofs.Common.{◌<◌, ◌∙◌, add-one, All, ap, arith, drop, get_or, length, rules, subst, sym}
use Rattle.std.proofs.lemmas.List.Sorted.{IsPartitionPoint-from_clause}
use Rattle.screen_index.specs.Pairs.{AreBlocks, ends_before, joined, rank, rank_of}
use Rattle.screen_index.proofs.Blocks.{before-place, behind-place, blocks-parted}
use Rattle.screen_index.proofs.index.block_of.Goals as goal

pub returns-clause-before : goal.returns-clause-before
returns-clause-before g c =
    let r = rank c.args.place.0 c.args.place.1 in
    let bs = c.args.blocks.now.items in
    let same = c.as_slice.ensures.value in
    let p = IsPartitionPoint-from_clause (ends_before r) c.as_slice.result.now c.partition_point.result
    c.partition_point.ensures.partitioned
    (blocks-parted r _ (subst AreBlocks (sym same) c.requires)) (λ a b f h. search rules) in
    let n = c.partition_point.result in
    before-place r n bs c.requires (omega (arith, c.partition_point.ensures.bound, ap (λ l. length l) same))
    (λ k d low high. ap (λ l. ends_before r (get_or l k d)) (sym same) ∙ p.0 k d low high)

pub returns-clause-behind : goal.returns-clause-behind
returns-clause-behind g c =
    let r = rank c.args.place.0 c.args.place.1 in
    let bs = c.args.blocks.now.items in
    let same = c.as_slice.ensures.value in
    let p = IsPartitionPoint-from_clause (ends_before r) c.as_slice.result.now c.partition_point.result
    c.partition_point.ensures.partitioned
    (blocks-parted r _ (subst AreBlocks (sym same) c.requires)) (λ a b f h. search rules) in
    let n = c.partition_point.result in
    subst (λ m. All (λ x. r < rank_of x) (joined (drop m bs))) (sym (add-one n))
    (behind-place r n bs c.requires (λ k d low high.
    ap (λ l. ends_before r (get_or l k d)) (sym same)
    ∙ p.1 k d low (omega (arith, high, ap (λ l. length l) same))))
