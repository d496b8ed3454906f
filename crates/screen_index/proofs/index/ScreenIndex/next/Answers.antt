use Rattle.std.proofs.Common.{◌++◌, ◌<◌, ◌∙◌, ap, arith, get_or, length, Some, subst, sym, take}
use Rattle.std.proofs.lemmas.List.{take_all}
use Rattle.std.proofs.lemmas.List.Elements.{All-append}
use Rattle.screen_index.specs.declared.entry.Screened.{Screened}
use Rattle.screen_index.specs.Pairs.{Ascend, IndexTerm, IsNext, IsWanted, joined, rank}
use Rattle.screen_index.proofs.Blocks.{Before, Behind, ascends-here, joined-at, joined-more}
use Rattle.screen_index.proofs.Nexts.{NoneWanted, next-within}
use Rattle.screen_index.proofs.Places.{ascend-right}
use Rattle.screen_index.proofs.index.ScreenIndex.next.Goals as goal

pub next-requires : goal.next-requires
next-requires g c =
    let bs = c.self.inside.blocks.items in
    ascends-here bs c.loop-place.place c.index.result.now c.self.invariant.0.0
    (omega (arith, c.self.inside.blocks.ok.0)) c.index.ensures

pub returns-in-Some-clause-next : goal.returns-in-Some-clause-next
returns-in-Some-clause-next g c =
    let bs = c.self.inside.blocks.items in
    let want = c.args.want.now in
    let r = rank c.args.from.0 c.args.from.1 in
    let i = c.loop-place.place in
    let b = c.index.result.now in
    let block = get_or bs i b in
    let less : i < length bs = omega (arith, c.self.inside.blocks.ok.0) in
    let parts = joined-at bs i b less in
    let up = subst (Ascend 0) parts c.self.invariant.0.0 in
    let x = c.in-Some.found.now in
    subst (λ l. IsNext want r l (Some x)) (sym parts ∙ ap (λ (t : IndexTerm g.row.V.Denot). t.entries) c.self.view_is)
    (next-within want r (Before bs i) block (Behind bs i) x up c.loop-place.invariant
    (subst (λ l. IsNext want r l (Some x)) c.index.ensures c.in-Some.ensures)
    (ascend-right 0 (Before bs i) (block ++ Behind bs i) up))

pub loop-place-preserved : goal.loop-place-preserved
loop-place-preserved g c =
    let bs = c.self.inside.blocks.items in
    let want = c.args.want.now in
    let r = rank c.args.from.0 c.args.from.1 in
    let i = c.loop-place.place in
    let b = c.index.result.now in
    let less : i < length bs = omega (arith, c.self.inside.blocks.ok.0) in
    subst (NoneWanted want r) (sym (joined-more bs i b less))
    (All-append (λ (x : Screened g.row.V.Denot). ¬ IsWanted want r x) (joined (take i bs)) (get_or bs i b)
    c.loop-place.invariant
    (subst (NoneWanted want r) c.index.ensures c.in_default.ensures))

pub returns-clause-next : goal.returns-clause-next
returns-clause-next g c =
    let bs = c.self.inside.blocks.items in
    subst (NoneWanted c.args.want.now (rank c.args.from.0 c.args.from.1))
    (ap joined (take_all c.loop-place.place bs (omega (arith, c.self.inside.blocks.ok.0)))
    ∙ ap (λ (t : IndexTerm g.row.V.Denot). t.entries) c.self.view_is)
    c.loop-place.invariant
