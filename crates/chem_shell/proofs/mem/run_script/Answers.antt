use Rattle.std.proofs.Common.{subst, sym}
use Rattle.session_acts.specs.Served.{IsServedBy}
use Rattle.session_acts.specs.Truths.{IsInRun}
use Rattle.session_run.specs.Servable.{IsServable}
use Rattle.session_run.specs.declared.settings.Settings.{Settings}
use Rattle.store_core.specs.Stored.{empty}
use Rattle.store_machine.specs.declared.machine.State.{State}
use Rattle.disk_edge.specs.NoDisk.{model}
use Rattle.chem_shell.proofs.Loaded.{in_run}
use Rattle.chem_shell.proofs.Transcripts.{served_true}
use Rattle.chem_shell.proofs.Unfailing.{of_calls}
use Rattle.chem_shell.proofs.mem.run_script.Goals as goal

pub session-requires-clause-servable : goal.session-requires-clause-servable
session-requires-clause-servable g c _ _ = subst IsServable (sym c.settings.ensures) c.requires.servable

pub returns-clause-ends : goal.returns-clause-ends
returns-clause-ends g c = rw c.settings.ensures at c.session.ensures.ends

pub returns-clause-serves : goal.returns-clause-serves
returns-clause-serves g c =
    let serves = c.session.ensures.serves in
    let made = serves.1.made (empty c.args.plan.now.commits) c.in_memory-store.ensures in
    let run = of_calls c.args.plan.now.commits c.in_memory-store.result c.session.new.service serves.0 made in (
      serves.0,
      run.0,
      served_true c.services_are_true.ensures c.session.result c.args.plan.now.page _ _ _ _ serves.0
          run.0.last.history
          (subst (λ (x : State). IsInRun serves.0 x.history) (sym run.1)
          (in_run model (empty c.args.plan.now.commits) c.in_memory-store.result c.session.new.service serves.0
          made))
          (subst (λ (settings : Settings). IsServedBy c.session.result settings.page (g.I.Source.left c.args.source.now)
          (g.I.Source.left c.session.new.source) (g.O.Sink.written c.args.sink.now)
          (g.O.Sink.written c.session.new.sink) serves.0) c.settings.ensures serves.2),
    )
