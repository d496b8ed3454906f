use Rattle.std.proofs.Common.{◌≡◌, ◌-◌, ◌+◌, ◌++◌, ◌<◌, ◌∙◌, add-one, All, ap, arith, length, List, min, set, subst, sym}
use Rattle.std.specs.List.{insert}
use Rattle.screen_index.specs.declared.entry.Screened.{Screened}
use Rattle.screen_index.specs.Pairs.{Ascend, joined, rank_of}
use Rattle.screen_index.proofs.Blocks.{IsPlace, ascends-here, blocks-set, blocks-split, joined-set, joined-split, lacks-block, place-of, put-one}
use Rattle.screen_index.proofs.Places.{put-ascends, put-some}
use Rattle.screen_index.proofs.index.put.Goals as goal

pub insert-requires-then-len-lt-ROOM-clause-ascending :
    goal.insert-requires-then-len-lt-ROOM-clause-ascending
insert-requires-then-len-lt-ROOM-clause-ascending g c =
    let bs = c.args.blocks.now.items in
    let i = c.min-place.result in
    let b = c.index_mut-block.result.now in
    let size = c.args.blocks.now.ok.0 in
    let last : i ≡ min c.block_of.result (length bs - 1) = omega (arith, size, c.min-place.ensures) in
    let at : IsPlace (rank_of c.args.entry) bs i = place-of (rank_of c.args.entry) c.block_of.result i bs
    c.block_of.ensures.within (omega (arith, size)) last c.block_of.ensures.before c.block_of.ensures.behind in
    let is = c.index_mut-block.ensures.value in
    ascends-here bs i b c.requires.blocks.0 at.less is

pub insert-requires-then-len-lt-ROOM-clause-absent :
    goal.insert-requires-then-len-lt-ROOM-clause-absent
insert-requires-then-len-lt-ROOM-clause-absent g c =
    let bs = c.args.blocks.now.items in
    let i = c.min-place.result in
    let b = c.index_mut-block.result.now in
    let size = c.args.blocks.now.ok.0 in
    let last : i ≡ min c.block_of.result (length bs - 1) = omega (arith, size, c.min-place.ensures) in
    let at : IsPlace (rank_of c.args.entry) bs i = place-of (rank_of c.args.entry) c.block_of.result i bs
    c.block_of.ensures.within (omega (arith, size)) last c.block_of.ensures.before c.block_of.ensures.behind in
    let is = c.index_mut-block.ensures.value in
    lacks-block (rank_of c.args.entry) bs i b at.less is c.requires.absent

pub returns-then-len-lt-ROOM-clause-entries :
    goal.returns-then-len-lt-ROOM-clause-entries
returns-then-len-lt-ROOM-clause-entries g c =
    let bs = c.args.blocks.now.items in
    let i = c.min-place.result in
    let b = c.index_mut-block.result.now in
    let size = c.args.blocks.now.ok.0 in
    let last : i ≡ min c.block_of.result (length bs - 1) = omega (arith, size, c.min-place.ensures) in
    let at : IsPlace (rank_of c.args.entry) bs i = place-of (rank_of c.args.entry) c.block_of.result i bs
    c.block_of.ensures.within (omega (arith, size)) last c.block_of.ensures.before c.block_of.ensures.behind in
    let is = c.index_mut-block.ensures.value in
    let new = c.insert-then-len-lt-ROOM.new.self in
    joined-set bs i new at.less ∙ put-one c.args.entry bs i b new at is c.insert-then-len-lt-ROOM.ensures

pub returns-then-len-lt-ROOM-clause-blocks :
    goal.returns-then-len-lt-ROOM-clause-blocks
returns-then-len-lt-ROOM-clause-blocks g c =
    let bs = c.args.blocks.now.items in
    let i = c.min-place.result in
    let b = c.index_mut-block.result.now in
    let size = c.args.blocks.now.ok.0 in
    let last : i ≡ min c.block_of.result (length bs - 1) = omega (arith, size, c.min-place.ensures) in
    let at : IsPlace (rank_of c.args.entry) bs i = place-of (rank_of c.args.entry) c.block_of.result i bs
    c.block_of.ensures.within (omega (arith, size)) last c.block_of.ensures.before c.block_of.ensures.behind in
    let is = c.index_mut-block.ensures.value in
    let new = c.insert-then-len-lt-ROOM.new.self in (
      subst (Ascend 0)
          (sym (joined-set bs i new at.less
          ∙ put-one c.args.entry bs i b new at is c.insert-then-len-lt-ROOM.ensures))
          (put-ascends 0 c.args.entry (joined bs) (omega arith) c.requires.blocks.0 c.requires.absent),
      blocks-set bs i new c.requires.blocks.1
          (subst (λ l. 0 < length l) (sym c.insert-then-len-lt-ROOM.ensures) (put-some c.args.entry b)),
    )

pub insert_split-requires-clause-ascending : goal.insert_split-requires-clause-ascending
insert_split-requires-clause-ascending g c =
    let bs = c.args.blocks.now.items in
    let i = c.min-place.result in
    let b = c.index_mut-block.result.now in
    let size = c.args.blocks.now.ok.0 in
    let last : i ≡ min c.block_of.result (length bs - 1) = omega (arith, size, c.min-place.ensures) in
    let at : IsPlace (rank_of c.args.entry) bs i = place-of (rank_of c.args.entry) c.block_of.result i bs
    c.block_of.ensures.within (omega (arith, size)) last c.block_of.ensures.before c.block_of.ensures.behind in
    let is = c.index_mut-block.ensures.value in
    ascends-here bs i b c.requires.blocks.0 at.less is

pub insert_split-requires-clause-absent : goal.insert_split-requires-clause-absent
insert_split-requires-clause-absent g c =
    let bs = c.args.blocks.now.items in
    let i = c.min-place.result in
    let b = c.index_mut-block.result.now in
    let size = c.args.blocks.now.ok.0 in
    let last : i ≡ min c.block_of.result (length bs - 1) = omega (arith, size, c.min-place.ensures) in
    let at : IsPlace (rank_of c.args.entry) bs i = place-of (rank_of c.args.entry) c.block_of.result i bs
    c.block_of.ensures.within (omega (arith, size)) last c.block_of.ensures.before c.block_of.ensures.behind in
    let is = c.index_mut-block.ensures.value in
    lacks-block (rank_of c.args.entry) bs i b at.less is c.requires.absent

pub returns-clause-entries : goal.returns-clause-entries
returns-clause-entries g c =
    let bs = c.args.blocks.now.items in
    let i = c.min-place.result in
    let b = c.index_mut-block.result.now in
    let size = c.args.blocks.now.ok.0 in
    let last : i ≡ min c.block_of.result (length bs - 1) = omega (arith, size, c.min-place.ensures) in
    let at : IsPlace (rank_of c.args.entry) bs i = place-of (rank_of c.args.entry) c.block_of.result i bs
    c.block_of.ensures.within (omega (arith, size)) last c.block_of.ensures.before c.block_of.ensures.behind in
    let is = c.index_mut-block.ensures.value in
    let lower = c.insert_split.new.self in
    let upper = c.insert_split.new.upper in
    ap joined c.in-Ok.ensures.items
    ∙ (ap (λ j. joined (insert (set bs i lower) j upper)) (add-one i)
    ∙ (joined-split bs i lower upper at.less
    ∙ put-one c.args.entry bs i b (lower ++ upper) at is c.insert_split.ensures.whole))

pub returns-clause-blocks : goal.returns-clause-blocks
returns-clause-blocks g c =
    let bs = c.args.blocks.now.items in
    let i = c.min-place.result in
    let b = c.index_mut-block.result.now in
    let size = c.args.blocks.now.ok.0 in
    let last : i ≡ min c.block_of.result (length bs - 1) = omega (arith, size, c.min-place.ensures) in
    let at : IsPlace (rank_of c.args.entry) bs i = place-of (rank_of c.args.entry) c.block_of.result i bs
    c.block_of.ensures.within (omega (arith, size)) last c.block_of.ensures.before c.block_of.ensures.behind in
    let is = c.index_mut-block.ensures.value in
    let lower = c.insert_split.new.self in
    let upper = c.insert_split.new.upper in
    let entries = ap joined c.in-Ok.ensures.items
    ∙ (ap (λ j. joined (insert (set bs i lower) j upper)) (add-one i)
    ∙ (joined-split bs i lower upper at.less
    ∙ put-one c.args.entry bs i b (lower ++ upper) at is c.insert_split.ensures.whole)) in (
      subst (Ascend 0) (sym entries)
          (put-ascends 0 c.args.entry (joined bs) (omega arith) c.requires.blocks.0 c.requires.absent),
      subst (All (λ (l : List (Screened g.row.V.Denot)). 0 < length l)) (sym c.in-Ok.ensures.items)
          (blocks-split bs i (i + 1) lower upper c.requires.blocks.1 c.insert_split.ensures.some
          c.insert_split.ensures.upper_some),
    )
