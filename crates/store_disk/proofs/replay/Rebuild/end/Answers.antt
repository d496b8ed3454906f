use Rattle.std.proofs.Common.{Option, subst, ℕ}
use Rattle.commit_log.specs.Base.{entries_of}
use Rattle.commit_log.specs.Log.{changes_of}
use Rattle.store_disk.specs.Replays.{HasCome}
use Rattle.store_disk.proofs.Replayed.{replayed}
use Rattle.store_disk.proofs.replay.Rebuild.end.Goals as goal

pub returns-in-None-clause-ok : goal.returns-in-None-clause-ok
returns-in-None-clause-ok c = λ version base log come.
    replayed version (entries_of base) c.args.self.memory c.opened.result c.args.commits (changes_of log)
    (subst (λ (o : Option ℕ). HasCome c.args.self.memory o version base log) c.in-None.is come) c.opened.ensures

pub returns-in-Some-clause-damaged : goal.returns-in-Some-clause-damaged
returns-in-Some-clause-damaged c = λ version base log come.
    subst (λ (o : Option ℕ). HasCome c.args.self.memory o version base log) c.in-Some.is come
