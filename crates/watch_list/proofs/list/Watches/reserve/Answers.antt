use Rattle.std.proofs.Common.{◌≡◌, ◌++◌, ◌∙◌, ap, drop, length, List, take}
use Rattle.std.proofs.lemmas.Result.{on_ok_weaker}
use Rattle.watch_list.specs.Entries.{all_have_room}
use Rattle.watch_list.specs.Watches.{Watch}
use Rattle.watch_list.proofs.Rows.{both, each-room, written}
use Rattle.watch_list.proofs.list.Watches.reserve.Goals as goal

pub returns-clause-reserved : goal.returns-clause-reserved
returns-clause-reserved c =
    let old = c.deref_mut.result.now in
    let new = c.reserve_each.new.entries in
    let whole : take c.self.inside.entries.len (new ++ drop (length new) c.self.inside.entries.items) ≡ new =
    written c.self.inside.entries.len old new (drop (length new) c.self.inside.entries.items)
    (ap (λ (l : List Watch). length l) c.reserve_each.ensures.watches) c.deref_mut.ensures.len in
    on_ok_weaker c.reserve_each.result
    (λ each. both _ _ c.in_ok-reserve_scratch.ensures (ap all_have_room whole ∙ each-room new each))
    c.reserve_each.ensures.room
