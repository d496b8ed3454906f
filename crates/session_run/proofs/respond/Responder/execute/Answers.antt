use Rattle.std.proofs.Common.{[], append-nil, refl, sym}
use Rattle.store_machine.specs.declared.machine.Event.TheVariants as events
use Rattle.session_acts.specs.Acts.{Silence}
use Rattle.session_run.specs.Made.{Said}
use Rattle.session_run.proofs.Joined.{uses-none}
use Rattle.session_run.proofs.Requested.{spells_lines}
use Rattle.session_run.proofs.Standing.{asks_none, close_none, find_none, keeps_all, open_none, rests, search_none, turn_none}
use Rattle.session_run.proofs.Watched.{unwatched}
use Rattle.session_run.proofs.respond.Responder.execute.Goals as goal

pub returns-in-Empty-clause-answered : goal.returns-in-Empty-clause-answered
returns-in-Empty-clause-answered g c more =
    rw c.in-Empty.is (Said tt (record {
      calls = [];
      lines = [];
      made = uses-none g.met.S.Service.stays c.args.service.now;
      is = rests Silence refl;
    }) (sym (append-nil c.args.self.now.out.items)))

pub returns-in-Register-clause-answered : goal.returns-in-Register-clause-answered
returns-in-Register-clause-answered g c more = rw c.in-Register.is c.change.ensures.answered

pub returns-in-Revise-clause-answered : goal.returns-in-Revise-clause-answered
returns-in-Revise-clause-answered g c more = rw c.in-Revise.is c.change-in-Revise.ensures.answered

pub returns-in-Withdraw-clause-answered : goal.returns-in-Withdraw-clause-answered
returns-in-Withdraw-clause-answered g c more = rw c.in-Withdraw.is c.withdraw.ensures.answered

pub returns-in-Show-clause-answered : goal.returns-in-Show-clause-answered
returns-in-Show-clause-answered g c more = rw c.in-Show.is (keeps_all _ (asks_none (events.Look _) tt) (c.show.ensures _ _))

pub returns-in-Data-clause-answered : goal.returns-in-Data-clause-answered
returns-in-Data-clause-answered g c more = rw c.in-Data.is (keeps_all _ (find_none _ _) (c.find_data.ensures _ _))

pub returns-in-Prune-clause-answered : goal.returns-in-Prune-clause-answered
returns-in-Prune-clause-answered g c more = rw c.in-Prune.is (keeps_all _ (asks_none events.Prune tt) (c.prune.ensures _ _))

pub returns-in-Compact-clause-answered : goal.returns-in-Compact-clause-answered
returns-in-Compact-clause-answered g c more =
    rw c.in-Compact.is (keeps_all _ (asks_none events.Compact tt) (c.compact.ensures _ _))

pub returns-in-Stats-clause-answered : goal.returns-in-Stats-clause-answered
returns-in-Stats-clause-answered g c more = rw c.in-Stats.is (keeps_all _ (asks_none events.Stats tt) (c.stats.ensures _ _))

pub returns-in-Search-clause-answered : goal.returns-in-Search-clause-answered
returns-in-Search-clause-answered g c more = rw c.in-Search.is (keeps_all _ (search_none _) (c.search.ensures _))

pub returns-in-Same-clause-answered : goal.returns-in-Same-clause-answered
returns-in-Same-clause-answered g c more = rw c.in-Same.is c.same.ensures.answered

pub returns-in-RegisterNew-clause-answered : goal.returns-in-RegisterNew-clause-answered
returns-in-RegisterNew-clause-answered g c more = rw c.in-RegisterNew.is c.register_new.ensures.answered

pub returns-in-Similar-clause-answered : goal.returns-in-Similar-clause-answered
returns-in-Similar-clause-answered g c more = rw c.in-Similar.is c.similar.ensures.answered

pub returns-in-Start-clause-answered : goal.returns-in-Start-clause-answered
returns-in-Start-clause-answered g c more = rw c.in-Start.is (keeps_all _ (open_none _ _ _) c.open.ensures.answered)

pub returns-in-Next-clause-answered : goal.returns-in-Next-clause-answered
returns-in-Next-clause-answered g c more = rw c.in-Next.is (keeps_all _ (turn_none _ _) c.next.ensures.answered)

pub returns-in-Close-clause-answered : goal.returns-in-Close-clause-answered
returns-in-Close-clause-answered g c more = rw c.in-Close.is (keeps_all _ (close_none _ _) c.close.ensures.answered)

pub returns-in-Watch-clause-answered : goal.returns-in-Watch-clause-answered
returns-in-Watch-clause-answered g c more = rw c.in-Watch.is c.watch.ensures.answered

pub returns-in-Hits-clause-answered : goal.returns-in-Hits-clause-answered
returns-in-Hits-clause-answered g c more = rw c.in-Hits.is c.hits.ensures.answered

pub returns-in-Unwatch-clause-answered : goal.returns-in-Unwatch-clause-answered
returns-in-Unwatch-clause-answered g c more =
    rw c.in-Unwatch.is (unwatched _ (uses-none g.met.S.Service.stays c.args.service.now) c.unwatch.ensures)

pub change-requires : goal.change-requires
change-requires g c = let s = rw c.in-Register.is at c.requires.line.1 in s.0

pub change-requires-in-Revise : goal.change-requires-in-Revise
change-requires-in-Revise g c = let s = rw c.in-Revise.is at c.requires.line.1 in s.0

pub unreachable-requires : goal.unreachable-requires
unreachable-requires g c =
    spells_lines c.requires.line.0 c.args.command c.in-RegisterMol.is c.requires.line.1 c.requires.line.2

pub register_new-requires-clause-id : goal.register_new-requires-clause-id
register_new-requires-clause-id g c = let s = rw c.in-RegisterNew.is at c.requires.line.1 in s.0

pub similar-requires-clause-asked : goal.similar-requires-clause-asked
similar-requires-clause-asked g c = let s = rw c.in-Similar.is at c.requires.line.1 in s.0
