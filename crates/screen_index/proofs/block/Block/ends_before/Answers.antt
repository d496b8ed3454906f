use Rattle.std.proofs.Common.{◌-◌, ◌∙◌, ap, arith, nat_lt}
use Rattle.screen_index.specs.Pairs.{ends_before, rank, rank_of}
use Rattle.screen_index.proofs.Places.{last-decides}
use Rattle.screen_index.proofs.block.Block.ends_before.Goals as goal

pub returns-else-len-eq0 : goal.returns-else-len-eq0
returns-else-len-eq0 g c =
    let r = rank c.args.place.0 c.args.place.1 in
    c.is_before.ensures
    ∙ (ap (λ y. nat_lt (rank_of y) r) c.index.ensures
    ∙ (last-decides r c.self.inside.entries.items (c.len-len.result - 1) c.index.result.now
    (omega (arith, c.self.inside.entries.ok.0))
    ∙ ap (ends_before r) c.self.view_is))
