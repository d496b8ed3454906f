use Rattle.std.proofs.Common.{◌≡◌}
use Rattle.std.specs.List.{AllWithin}
use Rattle.watch_list.specs.Entries.{HasRoom, watches_in}
use Rattle.watch_list.proofs.list.reserve_each.Given as goal

abbrev pub invariant-loop-entry : goal.invariant-loop-entry
invariant-loop-entry l = record {
  watches : watches_in l.entries ≡ watches_in l.initial.entries;
  room : AllWithin HasRoom l.entries 0 l.entry-index;
}
