use Rattle.std.proofs.Common.{◌++◌, ◌∙◌, ap, List, subst, sym}
use Rattle.commit_log.specs.declared.change.Commit.{Commit}
use Rattle.store_disk.specs.Replays.{HasCome}
use Rattle.store_disk.proofs.Replayed.{come-stopped}
use Rattle.store_disk.proofs.Results.{on-ok}
use Rattle.store_disk.proofs.together.Batches.make_waiting.Goals as goal

pub returns-in-Some : goal.returns-in-Some
returns-in-Some g c = λ version base log t.
    let rebuild = c.args.self.now.rebuild in
    subst (λ (l : List Commit). HasCome rebuild.memory rebuild.stopped version base l) (sym t.1)
    (come-stopped rebuild.memory rebuild.stopped version base t.0 c.args.self.now.waiting.items c.in-Some.field-0
    c.in-Some.is t.2)

pub returns-in_ok-changes-in-None : goal.returns-in_ok-changes-in-None
returns-in_ok-changes-in-None g c = on-ok c.add_all.result (λ made version base log t.
    let rebuild = c.add_all.new.self in
    subst (λ (l : List Commit). HasCome rebuild.memory rebuild.stopped version base l)
    (ap (λ (l : List Commit). t.0 ++ l) c.as_slice-commits.ensures.value ∙ sym t.1)
    (made version base t.0 t.2)) c.add_all.ensures
