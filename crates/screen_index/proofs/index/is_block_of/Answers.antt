use Rattle.std.proofs.Common.{◌<◌, ◌-◌, ◌∙◌, arith, length, sym}
use Rattle.screen_index.specs.Pairs.{rank}
use Rattle.screen_index.proofs.Blocks.{behind-this, up-to-block}
use Rattle.screen_index.proofs.index.is_block_of.Goals as goal

pub returns-then-index-eq0-clause-behind : goal.returns-then-index-eq0-clause-behind
returns-then-index-eq0-clause-behind g c =
    let r = rank c.args.place.0 c.args.place.1 in
    let bs = c.args.blocks.now.items in
    let less : c.args.index < length bs = omega (arith, c.args.blocks.now.ok.0) in
    λ _. behind-this r c.args.index bs c.index.result.now c.requires less c.index.ensures
    (sym c.ends_before.ensures ∙ c.if-ends_before.false)

pub returns-else-index-eq0-clause-before : goal.returns-else-index-eq0-clause-before
returns-else-index-eq0-clause-before g c =
    let r = rank c.args.place.0 c.args.place.1 in
    let i = c.args.index in
    let bs = c.args.blocks.now.items in
    let less : i < length bs = omega (arith, c.args.blocks.now.ok.0) in
    λ t. up-to-block r (i - 1) i bs c.index-else-index-eq0.result.now c.requires (omega (arith, less)) (omega arith)
    c.index-else-index-eq0.ensures (sym c.ends_before-else-index-eq0.ensures ∙ t)

pub returns-else-index-eq0-clause-behind : goal.returns-else-index-eq0-clause-behind
returns-else-index-eq0-clause-behind g c =
    let r = rank c.args.place.0 c.args.place.1 in
    let bs = c.args.blocks.now.items in
    let less : c.args.index < length bs = omega (arith, c.args.blocks.now.ok.0) in
    λ _. behind-this r c.args.index bs c.index.result.now c.requires less c.index.ensures
    (sym c.ends_before.ensures ∙ c.if-ends_before.false)
