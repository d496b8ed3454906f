use Rattle.std.proofs.Common.{◌<◌, ◌-◌, ◌∙◌, ap, arith, get_or, length, sym}
use Rattle.screen_index.specs.Pairs.{rank}
use Rattle.screen_index.proofs.Places.{from-late, up-to-early}
use Rattle.screen_index.proofs.block.Block.is_first_from.Goals as goal

pub returns-then-index-eq0-clause-behind : goal.returns-then-index-eq0-clause-behind
returns-then-index-eq0-clause-behind g c =
    let r = rank c.args.place.0 c.args.place.1 in
    let i = c.args.index in
    let now = c.args.self.now in
    let x = c.index.result.now in
    let less : i < length now = omega (arith, c.self.inside.entries.ok.0, ap (λ l. length l) c.self.view_is) in
    λ _. from-late r i now x c.requires less (c.index.ensures ∙ ap (λ l. get_or l i x) c.self.view_is)
    (sym c.is_before.ensures ∙ c.if-is_before.false)

pub returns-else-index-eq0-clause-before : goal.returns-else-index-eq0-clause-before
returns-else-index-eq0-clause-before g c =
    let r = rank c.args.place.0 c.args.place.1 in
    let i = c.args.index in
    let now = c.args.self.now in
    let x = c.index-else-index-eq0.result.now in
    let less : i < length now = omega (arith, c.self.inside.entries.ok.0, ap (λ l. length l) c.self.view_is) in
    λ t. up-to-early r (i - 1) i now x c.requires (omega (arith, less)) (omega arith)
    (c.index-else-index-eq0.ensures ∙ ap (λ l. get_or l (i - 1) x) c.self.view_is)
    (sym c.is_before-else-index-eq0.ensures ∙ t)

pub returns-else-index-eq0-clause-behind : goal.returns-else-index-eq0-clause-behind
returns-else-index-eq0-clause-behind g c =
    let r = rank c.args.place.0 c.args.place.1 in
    let i = c.args.index in
    let now = c.args.self.now in
    let x = c.index.result.now in
    let less : i < length now = omega (arith, c.self.inside.entries.ok.0, ap (λ l. length l) c.self.view_is) in
    λ _. from-late r i now x c.requires less (c.index.ensures ∙ ap (λ l. get_or l i x) c.self.view_is)
    (sym c.is_before.ensures ∙ c.if-is_before.false)
