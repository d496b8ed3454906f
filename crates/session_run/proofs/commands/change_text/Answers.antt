use Rattle.std.proofs.Common.{◌≡◌, ◌∙◌, [], subst, ℕ, List}
use Rattle.std.specs.Arc.{arc_value}
use Rattle.mol_finish.specs.declared.fault.Format.{Format}
use Rattle.shell_lang.specs.Reply.{reply_of}
use Rattle.store_core.specs.Records.{IsRecord}
use Rattle.store_machine.specs.Structures.{IsText}
use Rattle.session_run.specs.Responds.{change_by}
use Rattle.session_run.proofs.Joined.{uses-none}
use Rattle.session_run.proofs.Lines.{may_change, said, text_is, text_refused}
use Rattle.session_run.proofs.Standing.{at_rest, responds_as}
use Rattle.session_run.proofs.commands.change_text.Goals as goal

pub returns-in-Err : goal.returns-in-Err
returns-in-Err g c size cursors =
    said [] (reply_of c.refuse_text.result) c.say.result (uses-none g.met.S.Service.stays c.args.service.now)
    (at_rest (text_refused _ _ _ c.in-Err.fault _ c.in-Err.ensures.fault c.refuse_text.ensures)) c.say.ensures

pub returns : goal.returns
returns g c size cursors =
    let r = arc_value c.in-Ok.record in
    let made = c.in-Ok.ensures in
    let change = c.args.change in
    let same : change_by change.verb r.id r.format r.text
    ≡ change_by change.verb change.id change.format c.args.text.now = rw (made.id, made.format, made.text) in
    let sound : IsRecord r = rw c.deref.ensures at c.record_is_sound.ensures.record in
    let is : IsText change.format c.args.text.now =
    subst (λ (x : List ℕ). IsText change.format x) made.text
    (subst (λ (x : Format). IsText x r.text) made.format (text_is r sound)) in
    responds_as (may_change _ _ change.format c.args.text.now (c.change_to.ensures ∙ same) is)
    (c.commit.ensures size cursors)
