use Rattle.std.proofs.Common.{◌++◌, [], ◌∷◌, Option, inr, subst, sym, ℕ}
use Rattle.commit_log.specs.Base.{entries_of}
use Rattle.commit_log.specs.Log.{changes_of}
use Rattle.store_core.specs.Stored.{alone}
use Rattle.store_disk.specs.Replays.{HasCome}
use Rattle.store_disk.proofs.Replayed.{come-made, come-stops, made-thinned}
use Rattle.store_disk.proofs.Results.{damaged-at}
use Rattle.store_disk.proofs.replay.Rebuild.make.Goals as goal

pub returns-in-Ok : goal.returns-in-Ok
returns-in-Ok c = λ version base log m.
    let more = log ++ c.args.commit.now ∷ [] in
    let made = come-made version base log c.args.commit.now c.args.self.now.memory c.add.new.memory m
    (c.in-Ok.ensures.ok (alone m.part) m.stands) in
    subst (λ (o : Option ℕ). HasCome c.thinned-self.new.memory o version base more) (sym c.requires.made)
    (made-thinned version (entries_of base) c.add.new.memory c.thinned-self.new.memory (changes_of more) made
    c.thinned-self.ensures)

pub returns-in-Err-Damaged : goal.returns-in-Err-Damaged
returns-in-Err-Damaged c = λ version base log m.
    inr (come-stops version base log c.args.commit.now c.args.self.now.memory c.in-Err-Damaged.at m
    (damaged-at (Unit {0}) c.in-Err-Damaged.field-0 c.in-Err-Damaged.at _ c.in-Err-Damaged.field-0-is
    c.in-Err-Damaged.ensures.damaged))
