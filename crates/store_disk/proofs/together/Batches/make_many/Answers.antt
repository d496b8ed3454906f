use Rattle.std.proofs.Common.{subst, sym}
use Rattle.std.proofs.lemmas.List.Elements.{All-nil}
use Rattle.commit_log.specs.Change.{change_of}
use Rattle.commit_log.specs.Log.{IsLogged}
use Rattle.commit_log.specs.declared.change.Commit.{Commit}
use Rattle.store_disk.specs.Replays.{AreLogged}
use Rattle.store_disk.proofs.Replayed.{taken-all}
use Rattle.store_disk.proofs.Results.{on-both, on-ok}
use Rattle.store_disk.proofs.together.Batches.make_many.Goals as goal

pub returns-clause-waiting : goal.returns-clause-waiting
returns-clause-waiting g c = on-ok c.make_all.result
    (λ none. subst AreLogged (sym none) (All-nil (λ (x : Commit). IsLogged (change_of x.wire)))) c.make_all.ensures.none

pub returns-clause-taken : goal.returns-clause-taken
returns-clause-taken g c = on-ok c.make_all.result
    (λ made version base log t. taken-all c.make_all.new.self.rebuild.memory c.make_all.new.self.rebuild.stopped version
    base log c.make_all.new.self.waiting.items made.0 (made.1 version base log t))
    (on-both _ _ c.make_all.result c.make_all.ensures.none c.make_all.ensures.come)
