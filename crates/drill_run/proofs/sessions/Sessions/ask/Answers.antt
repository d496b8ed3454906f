use Rattle.std.proofs.Common.{◌≡◌, ◌++◌, ◌-◌, arith, List, refl, set, subst, ℕ}
use Rattle.std.specs.Prelude.{OnOk}
use Rattle.std.specs.Vec.{with_item}
use Rattle.shell_lang.specs.Reply.{text_of}
use Rattle.drill_run.specs.Numbers.{numbered}
use Rattle.drill_run.proofs.Answering.{asked, asks-fit, asks-settings, not-ok, said-alone}
use Rattle.drill_run.proofs.sessions.Sessions.ask.Goals as goal

pub index_mut-responder-requires : goal.index_mut-responder-requires
index_mut-responder-requires g c = omega (arith, c.requires.ready.2.number, c.requires.some, c.requires.few)

pub answer_alone-requires-clause-fit : goal.answer_alone-requires-clause-fit
answer_alone-requires-clause-fit g c _ _ =
    (asks-fit c.requires.ready.2 c.args.number c.index_mut-responder.result.now c.requires.some c.requires.few
    c.index_mut-responder.ensures.value).0

pub answer_alone-requires-clause-held : goal.answer_alone-requires-clause-held
answer_alone-requires-clause-held g c _ _ =
    (asks-fit c.requires.ready.2 c.args.number c.index_mut-responder.result.now c.requires.some c.requires.few
    c.index_mut-responder.ensures.value).1

pub returns-in_err-answer_alone : goal.returns-in_err-answer_alone
returns-in_err-answer_alone g c = λ of reads tally n h small.
    let same = asks-settings h c.args.number c.index_mut-responder.result.now c.requires.some c.requires.few
    c.index_mut-responder.ensures.value in
    asked c.args.self.now _ (set c.args.self.now.responders.items (c.args.number - 1) c.answer_alone.new.responder)
    c.args.world.now c.answer_alone.new.world c.args.number c.args.line.now c.index_mut-responder.result.now
    c.answer_alone.new.responder tally n h c.disk_faults_are_counted.ensures c.requires.some c.requires.few
    c.index_mut-responder.ensures.value refl c.answer_alone.ensures.fit c.answer_alone.ensures.settings
    (c.in_err-answer_alone.ensures.err c.args.self.now.settings.page same) of reads small refl refl
    c.from_residual.result (not-ok _ c.from_residual.result c.from_residual.ensures.0)

pub returns : goal.returns
returns g c = λ of reads tally n h small.
    let same = asks-settings h c.args.number c.index_mut-responder.result.now c.requires.some c.requires.few
    c.index_mut-responder.ensures.value in
    let sized = c.in_ok-answer_alone.ensures.ok c.args.self.now.settings.page same in
    asked c.args.self.now
    (record {
      settings = c.args.self.now.settings;
      responders = with_item c.args.self.now.responders (c.args.number - 1) c.answer_alone.new.responder;
      too_long = c.args.self.now.too_long;
      out = c.push_numbered.new.out;
    })
    (set c.args.self.now.responders.items (c.args.number - 1) c.answer_alone.new.responder)
    c.args.world.now c.answer_alone.new.world c.args.number c.args.line.now c.index_mut-responder.result.now
    c.answer_alone.new.responder tally n h c.disk_faults_are_counted.ensures c.requires.some c.requires.few
    c.index_mut-responder.ensures.value refl c.answer_alone.ensures.fit c.answer_alone.ensures.settings sized.0 of reads
    small refl refl c.push_numbered.result
    (said-alone c.push_numbered.result c.args.self.now.out.items c.push_numbered.new.out.items
    (numbered c.args.number (text_of sized.0.lines)) c.requires.empty
    (subst (λ (t : List ℕ). OnOk c.push_numbered.result (c.push_numbered.new.out.items
    ≡ c.args.self.now.out.items ++ numbered c.args.number t)) sized.1
    (rw c.deref.ensures.value at c.push_numbered.ensures)))
