use Rattle.std.proofs.Common.{◌<◌, ◌∙◌, arith, length}
use Rattle.std.proofs.lemmas.List.Elements.{AllWithin-more_set}
use Rattle.watch_list.specs.Entries.{HasRoom}
use Rattle.watch_list.proofs.Rows.{watches-set}
use Rattle.watch_list.proofs.list.reserve_each.Goals as goal

pub returns-in_err-reserve-clause-watches : goal.returns-in_err-reserve-clause-watches
returns-in_err-reserve-clause-watches c =
    let l = c.loop-entry in
    watches-set l.entries l.entry-index c.reserve.new.self c.entry-item.result (omega arith) c.reserve.ensures.watch
    ∙ l.invariant.watches

pub loop-entry-preserved : goal.loop-entry-preserved
loop-entry-preserved c =
    let l = c.loop-entry in
    let within : l.entry-index < length l.entries = omega arith in
    record {
      watches = watches-set l.entries l.entry-index c.reserve.new.self c.entry-item.result within
          c.reserve.ensures.watch ∙ l.invariant.watches;
      room = AllWithin-more_set l.entries l.entry-index c.reserve.new.self within HasRoom l.invariant.room
          c.in_ok-reserve.ensures.room;
    }
