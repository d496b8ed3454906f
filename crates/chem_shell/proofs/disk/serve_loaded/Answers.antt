use Rattle.std.proofs.Common.{subst, sym}
use Rattle.session_acts.specs.Served.{IsServedBy}
use Rattle.session_acts.specs.Truths.{IsInRun}
use Rattle.session_run.specs.Servable.{IsServable}
use Rattle.session_run.specs.declared.settings.Settings.{Settings}
use Rattle.store_machine.specs.declared.machine.State.{State}
use Rattle.chem_shell.proofs.Ended.{causes_of_end}
use Rattle.chem_shell.proofs.Loaded.{in_run, on_these_disks}
use Rattle.chem_shell.proofs.Transcripts.{script_of, served_true}
use Rattle.chem_shell.proofs.disk.serve_loaded.Goals as goal

pub session-ended-requires-clause-servable : goal.session-ended-requires-clause-servable
session-ended-requires-clause-servable g c _ _ = subst IsServable (sym c.settings.ensures) c.requires.servable

pub returns-clause-runs : goal.returns-clause-runs
returns-clause-runs g c = λ disks s stands opened opens read_a read_b.
    let d = g.D.Disk.model in
    let serves = c.session-ended.ensures.serves in
    let made = serves.1.made s stands in
    let on = on_these_disks c.replies_tell.ensures.commits c.runs_stay_sound.ensures c.rebases_keep.ensures.grown d
    c.args.plan.now.commits disks s c.args.store c.session-ended.new.service c.a_standing_store_opens.ensures stands
    opened opens read_a read_b serves.0 c.into_disks.result c.into_disks.ensures.a c.into_disks.ensures.b made in
    record {
      calls = serves.0;
      on = on.0;
      script = script_of g.S.Source g.K.Sink c.session-ended.result c.args.plan.now.page serves.0
          on.0.last.history _ _ c.session-ended.ensures.worn c.end_status-end.ensures
          (served_true c.services_are_true.ensures c.session-ended.result c.args.plan.now.page _ _ _ _ serves.0
          on.0.last.history (subst (λ (x : State). IsInRun serves.0 x.history) (sym on.1)
          (in_run d s c.args.store c.session-ended.new.service serves.0 made))
          (subst (λ (settings : Settings). IsServedBy c.session-ended.result settings.page
          (g.S.Source.left c.args.end.now.source) (g.S.Source.left c.session-ended.new.source)
          (g.K.Sink.written c.args.end.now.sink) (g.K.Sink.written c.session-ended.new.sink) serves.0)
          c.settings.ensures serves.2))
          (rw c.settings.ensures at c.session-ended.ensures.ends);
    }

pub returns-clause-ends : goal.returns-clause-ends
returns-clause-ends g c =
    causes_of_end g.S.Source g.K.Sink c.session-ended.result _ _ c.end_status-end.ensures
    (rw c.settings.ensures at c.session-ended.ensures.ends)
