use Rattle.std.proofs.Common.{◌≡◌, ◌++◌, ◌<◌, ◌∙◌, add-one, All, ap, ap₂, arith, get_or, length, length-append, List, set, subst, suc, sym}
use Rattle.std.proofs.lemmas.List.{get_or_default}
use Rattle.std.specs.List.{remove}
use Rattle.screen_index.specs.declared.entry.Screened.{Screened}
use Rattle.screen_index.specs.Pairs.{Ascend, joined}
use Rattle.screen_index.proofs.Blocks.{blocks-removed, blocks-set, joined-merged, kept-below}
use Rattle.screen_index.proofs.index.join_next.Goals as goal

pub returns-clause-entries : goal.returns-clause-entries
returns-clause-entries g c =
    let bs = c.args.blocks.now.items in
    let i = c.args.index in
    let b = c.index_mut-block.result.now in
    let next = c.remove-next.result in
    let new = c.append.new.self in
    let less : suc i < length bs = omega (arith, c.args.blocks.now.ok.0) in
    let items : c.remove-next.new.self.items ≡ remove bs (suc i) = c.remove-next.ensures.items
    ∙ ap (λ n. remove bs n) (add-one i) in
    let first : b ≡ get_or bs i b = c.index_mut-block.ensures.value
    ∙ (ap (λ l. get_or l i b) items ∙ kept-below bs i b less) in
    let second : next ≡ get_or bs (suc i) b = c.remove-next.ensures.value
    ∙ (ap (λ n. get_or bs n next) (add-one i) ∙ get_or_default bs (suc i) next b less) in
    ap (λ l. joined (set l i new)) items
    ∙ (ap (λ m. joined (set (remove bs (suc i)) i m)) (c.append.ensures.moved ∙ ap₂ (λ k l. k ++ l) first second)
    ∙ joined-merged bs i b less)

pub returns-clause-blocks : goal.returns-clause-blocks
returns-clause-blocks g c =
    let bs = c.args.blocks.now.items in
    let i = c.args.index in
    let b = c.index_mut-block.result.now in
    let next = c.remove-next.result in
    let new = c.append.new.self in
    let less : suc i < length bs = omega (arith, c.args.blocks.now.ok.0) in
    let items : c.remove-next.new.self.items ≡ remove bs (suc i) = c.remove-next.ensures.items
    ∙ ap (λ n. remove bs n) (add-one i) in
    let first : b ≡ get_or bs i b = c.index_mut-block.ensures.value
    ∙ (ap (λ l. get_or l i b) items ∙ kept-below bs i b less) in
    let second : next ≡ get_or bs (suc i) b = c.remove-next.ensures.value
    ∙ (ap (λ n. get_or bs n next) (add-one i) ∙ get_or_default bs (suc i) next b less) in
    let entries = ap (λ l. joined (set l i new)) items
    ∙ (ap (λ m. joined (set (remove bs (suc i)) i m)) (c.append.ensures.moved ∙ ap₂ (λ k l. k ++ l) first second)
    ∙ joined-merged bs i b less) in
    let some = c.requires.blocks.1 i b (omega (arith, less)) in (
      subst (Ascend 0) (sym entries) c.requires.blocks.0,
      blocks-set c.remove-next.new.self.items i new
          (subst (All (λ (l : List (Screened g.row.V.Denot)). 0 < length l)) (sym items)
          (blocks-removed bs (suc i) c.requires.blocks.1))
          (omega (
            arith,
            some,
            ap (λ l. length l) first,
            ap (λ l. length l) c.append.ensures.moved,
            length-append b next,
          )),
    )
