use Rattle.std.proofs.Common.{◌≡◌, ◌+◌, ◌<◌, ◌∙◌, [], All, ap, arith, length, List, subst, sym, take}
use Rattle.std.proofs.lemmas.List.{length-drop, nil_from_length}
use Rattle.screen_index.specs.declared.entry.Screened.{Screened}
use Rattle.screen_index.specs.Pairs.{Ascend, is_apart, joined}
use Rattle.screen_index.proofs.Blocks.{blocks-removed, blocks-set, drop-none, drop-some, joined-emptied, joined-set, removed-is}
use Rattle.screen_index.proofs.Places.{rises-take, some-ascend, to-the-end}
use Rattle.screen_index.proofs.index.drop_first.Goals as goal

pub returns-then-index-len-clause-entries : goal.returns-then-index-len-clause-entries
returns-then-index-len-clause-entries g c =
    let bs = c.args.blocks.now.items in
    let e = c.if-index-len.true in
    drop-none c.args.places.now c.block_of-index.result bs (0, 0) c.requires.rises
    (omega (arith, e, c.args.blocks.now.ok.0, c.len.ensures)) c.block_of-index.ensures.before

pub drop_all-requires : goal.drop_all-requires
drop_all-requires g c =
    let ps = c.args.places.now in
    let count = c.reach-count.result in
    let size = length-drop 1 ps in
    rises-take (1 + count) ps
    (omega (arith, c.reach-count.ensures.within, size, ap (λ l. length l) (to-the-end 1 ps), c.requires.some))
    c.requires.rises

pub returns-then-len-eq0-clause-entries : goal.returns-then-len-eq0-clause-entries
returns-then-len-eq0-clause-entries g c =
    let ps = c.args.places.now in
    let bs = c.args.blocks.now.items in
    let i = c.block_of-index.result in
    let less : i < length bs = let ne = c.if-index-len.false in
    omega (arith, ne, c.block_of-index.ensures.within, c.args.blocks.now.ok.0, c.len.ensures) in
    let b = c.index_mut-block.result.now in
    let new = c.drop_all.new.self in
    let taken = drop-some ps _ c.reach-count.result i bs b new (0, 0) (to-the-end 1 ps) c.requires.blocks
    c.requires.rises c.requires.some
    c.reach-count.ensures.within less c.index_mut-block.ensures.value c.block_of-index.ensures.before
    c.block_of-index.ensures.behind c.reach-count.ensures.reached c.drop_all.ensures in
    let none : new ≡ [] = nil_from_length new (let e = c.if-len-eq0.true in omega (arith, e, c.len-2.ensures.len)) in
    ap joined c.remove-empty.ensures.items ∙ (joined-emptied bs i new none ∙ taken)

pub returns-then-len-eq0-clause-blocks : goal.returns-then-len-eq0-clause-blocks
returns-then-len-eq0-clause-blocks g c =
    let ps = c.args.places.now in
    let bs = c.args.blocks.now.items in
    let i = c.block_of-index.result in
    let less : i < length bs = let ne = c.if-index-len.false in
    omega (arith, ne, c.block_of-index.ensures.within, c.args.blocks.now.ok.0, c.len.ensures) in
    let b = c.index_mut-block.result.now in
    let new = c.drop_all.new.self in
    let taken = drop-some ps _ c.reach-count.result i bs b new (0, 0) (to-the-end 1 ps) c.requires.blocks
    c.requires.rises c.requires.some
    c.reach-count.ensures.within less c.index_mut-block.ensures.value c.block_of-index.ensures.before
    c.block_of-index.ensures.behind c.reach-count.ensures.reached c.drop_all.ensures in
    let none : new ≡ [] = nil_from_length new (let e = c.if-len-eq0.true in omega (arith, e, c.len-2.ensures.len)) in
    let entries = ap joined c.remove-empty.ensures.items ∙ (joined-emptied bs i new none ∙ taken) in (
      subst (Ascend 0) (sym entries)
          (some-ascend (is_apart (take (1 + c.reach-count.result) ps)) 0 (joined bs) c.requires.blocks.0),
      subst (All (λ (l : List (Screened g.row.V.Denot)). 0 < length l))
          (sym (c.remove-empty.ensures.items ∙ removed-is bs i new)) (blocks-removed bs i c.requires.blocks.1),
    )

pub join_next-requires-clause-blocks : goal.join_next-requires-clause-blocks
join_next-requires-clause-blocks g c =
    let ps = c.args.places.now in
    let bs = c.args.blocks.now.items in
    let i = c.block_of-index.result in
    let less : i < length bs = let ne = c.if-index-len.false in
    omega (arith, ne, c.block_of-index.ensures.within, c.args.blocks.now.ok.0, c.len.ensures) in
    let b = c.index_mut-block.result.now in
    let new = c.drop_all.new.self in
    let taken = drop-some ps _ c.reach-count.result i bs b new (0, 0) (to-the-end 1 ps) c.requires.blocks
    c.requires.rises c.requires.some
    c.reach-count.ensures.within less c.index_mut-block.ensures.value c.block_of-index.ensures.before
    c.block_of-index.ensures.behind c.reach-count.ensures.reached c.drop_all.ensures in
    let entries = joined-set bs i new less ∙ taken in (
      subst (Ascend 0) (sym entries)
          (some-ascend (is_apart (take (1 + c.reach-count.result) ps)) 0 (joined bs) c.requires.blocks.0),
      blocks-set bs i new c.requires.blocks.1 (let ne = c.if-len-eq0.false in omega (arith, ne, c.len-2.ensures.len)),
    )

pub returns-then-index-gt0-clause-entries : goal.returns-then-index-gt0-clause-entries
returns-then-index-gt0-clause-entries g c =
    let ps = c.args.places.now in
    let bs = c.args.blocks.now.items in
    let i = c.block_of-index.result in
    let less : i < length bs = let ne = c.if-index-len.false in
    omega (arith, ne, c.block_of-index.ensures.within, c.args.blocks.now.ok.0, c.len.ensures) in
    let b = c.index_mut-block.result.now in
    let new = c.drop_all.new.self in
    let taken = drop-some ps _ c.reach-count.result i bs b new (0, 0) (to-the-end 1 ps) c.requires.blocks
    c.requires.rises c.requires.some
    c.reach-count.ensures.within less c.index_mut-block.ensures.value c.block_of-index.ensures.before
    c.block_of-index.ensures.behind c.reach-count.ensures.reached c.drop_all.ensures in
    c.join_next-then-index-gt0.ensures.entries ∙ (c.join_next.ensures.entries ∙ (joined-set bs i new less ∙ taken))

pub returns-else-index-gt0-clause-entries : goal.returns-else-index-gt0-clause-entries
returns-else-index-gt0-clause-entries g c =
    let ps = c.args.places.now in
    let bs = c.args.blocks.now.items in
    let i = c.block_of-index.result in
    let less : i < length bs = let ne = c.if-index-len.false in
    omega (arith, ne, c.block_of-index.ensures.within, c.args.blocks.now.ok.0, c.len.ensures) in
    let b = c.index_mut-block.result.now in
    let new = c.drop_all.new.self in
    let taken = drop-some ps _ c.reach-count.result i bs b new (0, 0) (to-the-end 1 ps) c.requires.blocks
    c.requires.rises c.requires.some
    c.reach-count.ensures.within less c.index_mut-block.ensures.value c.block_of-index.ensures.before
    c.block_of-index.ensures.behind c.reach-count.ensures.reached c.drop_all.ensures in
    c.join_next.ensures.entries ∙ (joined-set bs i new less ∙ taken)
