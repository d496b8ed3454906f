use Rattle.std.proofs.Common.{[], None, Ok, refl, Some}
use Rattle.io_edge.specs.Lines.{Whole}
use Rattle.drill_run.specs.Acts.{refused_text, set_text}
use Rattle.drill_run.specs.Lines.{Empty, Fail, Stop}
use Rattle.drill_run.proofs.Answering.{appended-alone, quiet}
use Rattle.drill_run.proofs.Asked.{at-world}
use Rattle.drill_run.proofs.sessions.Sessions.obey.Goals as goal

pub returns-in-Some-Empty : goal.returns-in-Some-Empty
returns-in-Some-Empty g c =
    at-world (Ok tt) c.args.self.now _ c.args.slot.now _ c.in-Some.world (Whole c.args.text.now) c.in-Some.is
    (λ tally n h small.
    quiet c.args.self.now _ c.in-Some.world c.in-Some.world (Whole c.args.text.now) (Some Empty) []
    (rw c.in-Some-Empty.field-0-is at c.in-Some-Empty.ensures) (refl, refl, refl) (λ s at. at) refl (λ t k. k) refl
    refl (Ok tt) c.requires.empty tally n h)

pub returns-in-Some-Stop : goal.returns-in-Some-Stop
returns-in-Some-Stop g c =
    at-world c.extend_from_slice.result c.args.self.now _ c.args.slot.now _ c.in-Some.world (Whole c.args.text.now)
    c.in-Some.is
    (λ tally n h small.
    quiet c.args.self.now _ c.in-Some.world c.stop.new.world (Whole c.args.text.now)
    (Some (Stop c.in-Some-Stop.disk c.in-Some-Stop.calls)) set_text
    (rw c.in-Some-Stop.field-0-is at c.in-Some-Stop.ensures) (refl, refl, refl) c.stop.ensures.stands
    c.stop.ensures.memory c.stop.ensures.tallied refl refl c.extend_from_slice.result
    (appended-alone c.extend_from_slice.result c.args.self.now.out.items c.extend_from_slice.new.self.items set_text
    c.requires.empty c.extend_from_slice.ensures.items) tally n h)

pub returns-in-Some-Fail : goal.returns-in-Some-Fail
returns-in-Some-Fail g c =
    let out = c.extend_from_slice-in-Some-Fail in
    at-world out.result c.args.self.now _ c.args.slot.now _ c.in-Some.world (Whole c.args.text.now) c.in-Some.is
    (λ tally n h small.
    quiet c.args.self.now _ c.in-Some.world c.fail.new.world (Whole c.args.text.now)
    (Some (Fail c.in-Some-Fail.disk c.in-Some-Fail.call)) set_text
    (rw c.in-Some-Fail.field-0-is at c.in-Some-Fail.ensures) (refl, refl, refl) c.fail.ensures.stands
    c.fail.ensures.memory c.fail.ensures.tallied refl refl out.result
    (appended-alone out.result c.args.self.now.out.items out.new.self.items set_text c.requires.empty
    out.ensures.items) tally n h)

pub returns-in-None : goal.returns-in-None
returns-in-None g c =
    let out = c.extend_from_slice-in-None in
    at-world out.result c.args.self.now _ c.args.slot.now _ c.in-Some.world (Whole c.args.text.now) c.in-Some.is
    (λ tally n h small.
    quiet c.args.self.now _ c.in-Some.world c.in-Some.world (Whole c.args.text.now) None
    (refused_text (Whole c.args.text.now)) c.in-None.ensures (refl, refl, refl) (λ s at. at) refl (λ t k. k) refl refl
    out.result
    (appended-alone out.result c.args.self.now.out.items out.new.self.items (refused_text (Whole c.args.text.now))
    c.requires.empty out.ensures.items) tally n h)
