use Rattle.std.proofs.Common.{◌∙◌, None, refl, subst, sym}
use Rattle.io_edge.specs.Lines.{TextLine, TooLong}
use Rattle.drill_run.specs.Acts.{refused_text}
use Rattle.drill_run.specs.Talks.{Answers}
use Rattle.drill_run.specs.declared.sessions.Sessions.{Sessions}
use Rattle.drill_run.proofs.Answering.{appended-alone, quiet-at}
use Rattle.drill_run.proofs.Asked.{long-line, whole-line}
use Rattle.drill_run.proofs.sessions.Sessions.answer_line.Goals as goal

pub returns-then-self : goal.returns-then-self
returns-then-self g c = λ line is text.
    let long = long-line line (is ∙ c.if-self.true) in
    let out = c.extend_from_slice in
    let said : Sessions = record c.args.self.now { out = out.new.self } in
    subst (λ (l : TextLine). Answers out.result c.args.self.now said c.args.slot.now c.args.slot.now l) (sym long.1)
    (λ tally n h small.
    quiet-at c.args.self.now said c.args.slot.now (TooLong long.0) None (refused_text (TooLong long.0)) refl
    (refl, refl, refl) (λ t. refl) refl refl out.result
    (appended-alone out.result c.args.self.now.out.items out.new.self.items (refused_text (TooLong long.0))
    c.requires.empty out.ensures.items) tally n h)

pub returns-else-self : goal.returns-else-self
returns-else-self g c = λ line is text.
    subst (λ (l : TextLine). Answers c.obey.result c.args.self.now c.obey.new.self c.args.slot.now c.obey.new.slot l)
    (sym (whole-line line c.args.text.now (is ∙ c.if-self.false) text)) c.obey.ensures
