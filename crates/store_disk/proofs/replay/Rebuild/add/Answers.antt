use Rattle.std.proofs.Common.{[], ◌∷◌, Option, subst, ℕ}
use Rattle.store_disk.specs.Replays.{HasCome}
use Rattle.store_disk.proofs.Replayed.{come-stopped}
use Rattle.store_disk.proofs.Results.{on-ok}
use Rattle.store_disk.proofs.replay.Rebuild.add.Goals as goal

pub returns-in-Some : goal.returns-in-Some
returns-in-Some c = λ version base log come. come-stopped c.args.self.now.memory c.args.self.now.stopped version base
    log (c.args.commit.now ∷ []) c.in-Some.field-0 c.in-Some.is come

pub returns-in-None : goal.returns-in-None
returns-in-None c = on-ok c.make.result (λ made version base log come. made version base log
    (subst (λ (o : Option ℕ). HasCome c.args.self.now.memory o version base log) c.in-None.is come)) c.make.ensures
