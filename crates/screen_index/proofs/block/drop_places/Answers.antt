use Rattle.std.proofs.Common.{rules}
use Rattle.std.proofs.lemmas.Fn.{filter_same}
use Rattle.screen_index.specs.Pairs.{is_apart}
use Rattle.screen_index.proofs.block.drop_places.Goals as goal

pub returns-clause-entries : goal.returns-clause-entries
returns-clause-entries g c =
    filter_same _ (is_apart c.args.places.now) _ (λ x b q k. search rules) _ _ c.retain.ensures.filtered
