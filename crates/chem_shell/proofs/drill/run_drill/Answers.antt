use Rattle.std.proofs.Common.{subst, sym}
use Rattle.dialogue.specs.Talked.{IsServedBy}
use Rattle.drill_run.specs.Talking.{begun, drills}
use Rattle.session_run.specs.Servable.{IsServable}
use Rattle.session_run.specs.declared.settings.Settings.{Settings}
use Rattle.dialogue.proofs.Turning.{ends-none}
use Rattle.store_core.specs.Stored.{empty}
use Rattle.chem_shell.proofs.Drills.{drilled_none}
use Rattle.chem_shell.proofs.drill.run_drill.Goals as goal

pub returns-in_default-clause-drills : goal.returns-in_default-clause-drills
returns-in_default-clause-drills g c =
    drilled_none c.args.plan.now.commits c.args.plan.now.page (g.I.Source.left c.args.source.now)
    (g.O.Sink.written c.args.sink.now)

pub returns-in_default-clause-ends : goal.returns-in_default-clause-ends
returns-in_default-clause-ends g c = ends-none g.I.Source g.O.Sink _ c.args.source.now c.args.sink.now

pub drill-requires-clause-servable : goal.drill-requires-clause-servable
drill-requires-clause-servable g c _ _ = subst IsServable (sym c.settings.ensures) c.requires.servable

pub returns-clause-ends : goal.returns-clause-ends
returns-clause-ends g c = rw c.settings.ensures at c.drill.ensures.ends

pub returns-clause-drills : goal.returns-clause-drills
returns-clause-drills g c =
    let made = c.drill.ensures.drills in
    let run = made.1 (empty c.args.plan.now.commits) c.in-Ok.ensures.empty in (
      made.0,
      record { steps = run.0; last = run.1; run = run.2; all = run.3 },
      subst (λ (settings : Settings). IsServedBy drills c.drill.result (begun settings.page)
          (g.I.Source.left c.args.source.now) (g.I.Source.left c.drill.new.source) (g.O.Sink.written c.args.sink.now)
          (g.O.Sink.written c.drill.new.sink) made.0) c.settings.ensures made.2,
    )
