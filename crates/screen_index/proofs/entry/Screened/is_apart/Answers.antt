use Rattle.std.proofs.Common.{◌≡◌, ◌<◌, ◌∙◌, arith, get_or, length, nat_eq, nat_lt, rules, sym, true, ℕ}
use Rattle.std.proofs.lemmas.Bool.Decides.{nat_tests}
use Rattle.std.proofs.lemmas.List.Sorted.{IsPartitionPoint-from_clause}
use Rattle.screen_index.specs.Pairs.{rank, rank_of}
use Rattle.screen_index.proofs.Places.{apart-at, apart-decided, places-parted}
use Rattle.screen_index.proofs.entry.Screened.is_apart.Goals as goal

pub returns-then-place-places : goal.returns-then-place-places
returns-then-place-places g c =
    let ps = c.args.places.now in
    let x = c.args.self.now in
    let r = rank_of x in
    let n = c.partition_point-place.result in
    let p = IsPartitionPoint-from_clause (λ (q : ℕ × ℕ). nat_lt (rank q.0 q.1) r) ps n
    c.partition_point-place.ensures.partitioned (places-parted r ps c.requires) (λ a b f h. search rules) in
    let e : n ≡ length ps = c.if-place-places.true in
    let t : nat_eq n (length ps) ≡ true = grind (arith, nat_tests) in
    t
    ∙ sym (apart-at ps x n (omega (arith, e)) c.requires
    (λ k d low high. let h : nat_lt (rank (get_or ps k d).0 (get_or ps k d).1) r ≡ true = p.0 k d low high in
    grind (arith, nat_tests, h))
    (λ d less. absurd (omega (arith, less, e))))

pub returns-else-place-places : goal.returns-else-place-places
returns-else-place-places g c =
    let ps = c.args.places.now in
    let x = c.args.self.now in
    let r = rank_of x in
    let n = c.partition_point-place.result in
    let p = IsPartitionPoint-from_clause (λ (q : ℕ × ℕ). nat_lt (rank q.0 q.1) r) ps n
    c.partition_point-place.ensures.partitioned (places-parted r ps c.requires) (λ a b f h. search rules) in
    let ne = c.if-place-places.false in
    let bound = c.partition_point-place.ensures.bound in
    let less : n < length ps = omega (arith, ne, bound) in
    apart-decided ps x n _ _ less c.requires
    (λ k d low high. let h : nat_lt (rank (get_or ps k d).0 (get_or ps k d).1) r ≡ true = p.0 k d low high in
    grind (arith, nat_tests, h))
    (λ d. p.1 n d (omega arith) less) c.is_before.ensures
