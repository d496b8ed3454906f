use Rattle.std.proofs.Common.{rules}
use Rattle.std.proofs.lemmas.Fn.{filter_same}
use Rattle.watch_list.specs.Entries.{EntryTerm}
use Rattle.watch_list.specs.Watches.{is_other}
use Rattle.watch_list.proofs.list.take_out.Goals as goal

pub returns : goal.returns
returns c =
    filter_same _ (λ (e : EntryTerm). is_other c.args.name.now e.watch) _ (λ x b f k. search rules) _ _
    c.retain.ensures.filtered
