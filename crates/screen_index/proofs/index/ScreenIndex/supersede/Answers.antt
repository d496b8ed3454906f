use Rattle.std.proofs.Common.{◌<◌, ◌∙◌, ap, arith, length, subst, sym}
use Rattle.std.proofs.lemmas.List.{length-map}
use Rattle.screen_index.specs.Pairs.{Ascend, IndexTerm, ends_at, joined, rank, superseded}
use Rattle.screen_index.proofs.Blocks.{ascends-here, blocks-set, supersede-none, supersede-one}
use Rattle.screen_index.proofs.Places.{superseded-ascends}
use Rattle.screen_index.proofs.index.ScreenIndex.supersede.Goals as goal

pub supersede-requires : goal.supersede-requires
supersede-requires g c =
    let bs = c.self.inside.blocks.items in
    ascends-here bs c.block_of-place.result c.index_mut.result.now c.self.invariant.0.0
    (omega (arith, c.if-place-len.true, c.len.ensures, c.self.inside.blocks.ok.0)) c.index_mut.ensures.value

pub invariant_of-self : goal.invariant_of-self
invariant_of-self g c =
    let bs = c.self.inside.blocks.items in
    let r = rank c.args.id c.args.version in
    let until = c.args.until in
    let i = c.block_of-place.result in
    let b = c.index_mut.result.now in
    let is = c.index_mut.ensures.value in
    let less : i < length bs = omega (arith, c.if-place-len.true, c.len.ensures, c.self.inside.blocks.ok.0) in
    let some = c.self.invariant.0.1 i b less in
    let size = ap (λ l. length l) c.supersede.ensures ∙ length-map b (ends_at r until) in (
      (
        subst (Ascend 0)
            (sym (supersede-one r until i bs b c.supersede.new.self less is c.block_of-place.ensures.before
            c.block_of-place.ensures.behind c.supersede.ensures))
            (superseded-ascends 0 r until (joined bs) c.self.invariant.0.0),
        blocks-set bs i c.supersede.new.self c.self.invariant.0.1 (omega (arith, some, size, ap (λ l. length l) is)),
      ),
      c.self.invariant.1,
      c.self.invariant.2,
    )

pub returns-then-place-len-clause-entries : goal.returns-then-place-len-clause-entries
returns-then-place-len-clause-entries g c =
    let bs = c.self.inside.blocks.items in
    let r = rank c.args.id c.args.version in
    supersede-one r c.args.until c.block_of-place.result bs c.index_mut.result.now c.supersede.new.self
    (omega (arith, c.if-place-len.true, c.len.ensures, c.self.inside.blocks.ok.0)) c.index_mut.ensures.value
    c.block_of-place.ensures.before c.block_of-place.ensures.behind c.supersede.ensures
    ∙ ap (λ (t : IndexTerm g.row.V.Denot). superseded r c.args.until t.entries) c.self.view_is

pub returns-else-place-len-clause-entries : goal.returns-else-place-len-clause-entries
returns-else-place-len-clause-entries g c =
    let bs = c.self.inside.blocks.items in
    let r = rank c.args.id c.args.version in
    let is = ap (λ (t : IndexTerm g.row.V.Denot). t.entries) c.self.view_is in
    sym is
    ∙ (supersede-none r c.args.until c.block_of-place.result bs
    (omega (arith, c.if-place-len.false, c.len.ensures, c.self.inside.blocks.ok.0)) c.block_of-place.ensures.before
    ∙ ap (superseded r c.args.until) is)
