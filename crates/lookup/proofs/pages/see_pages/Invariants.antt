use Rattle.std.proofs.Common.{◌≤◌, ◌*◌}
use Rattle.store_machine.specs.Searches.{At}
use Rattle.lookup.proofs.Walking.{Walking}
use Rattle.lookup.proofs.pages.see_pages.Given as goal

abbrev pub invariant-loop-turn : goal.invariant-loop-turn
invariant-loop-turn g l = record {
  walking : Walking g.S.Service g.V.Visit.has_seen l.given l.fn.service l.service l.fn.visitor l.visitor l.pin.slot
      l.size l.want (At l.from) l.count;
  few : l.count ≤ 256 * l._turn;
  room : l.size ≤ l.page.room;
}
