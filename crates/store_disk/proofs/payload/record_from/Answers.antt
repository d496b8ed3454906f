use Rattle.std.proofs.Common.{subst}
use Rattle.commit_log.specs.Entry.{entry_of}
use Rattle.commit_log.specs.declared.base.BaseState.{BaseState}
use Rattle.store_machine.specs.History.{HasText}
use Rattle.store_disk.specs.Payloads.{told_entry}
use Rattle.store_disk.proofs.Payloads.{refused-text}
use Rattle.store_disk.proofs.payload.record_from.Goals as goal

pub returns-in_err-record-in-Live-clause-fault : goal.returns-in_err-record-in-Live-clause-fault
returns-in_err-record-in-Live-clause-fault c =
    refused-text c.one_answer.ensures (HasText (told_entry (entry_of c.args.entry.now)).1) c.stored_format.result
    c.deref.result.now c.in_err-record-in-Live.field-0.0 c.from_residual.result c.from_residual.ensures.1
    c.in_err-record-in-Live.ensures.fault
    (λ v. rw (c.stored_format.ensures, c.deref.ensures.value)
    (subst (λ (state : BaseState). HasText (told_entry (entry_of (record c.args.entry.now { state = state }))).1)
    c.in-Live.is v))
