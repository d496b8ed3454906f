use Rattle.std.proofs.Common.{subst}
use Rattle.commit_log.specs.Change as logged
use Rattle.commit_log.specs.declared.change.Wire.{Wire}
use Rattle.store_machine.specs.History.{IsValid}
use Rattle.store_disk.specs.Payloads.{told}
use Rattle.store_disk.proofs.Payloads.{refused-text}
use Rattle.store_disk.proofs.payload.change_from.Goals as goal

pub returns-in_err-record-in-Register-clause-fault : goal.returns-in_err-record-in-Register-clause-fault
returns-in_err-record-in-Register-clause-fault c =
    refused-text c.one_answer.ensures
    (IsValid (told (logged.change_of c.args.wire.now))) c.stored_format.result c.deref.result.now
    c.in_err-record-in-Register.field-0.0 c.from_residual.result c.from_residual.ensures.1
    c.in_err-record-in-Register.ensures.fault
    (λ v. rw (c.stored_format.ensures, c.deref.ensures.value)
    ((subst (λ (w : Wire). IsValid (told (logged.change_of w))) c.in-Register.is v).1))

pub returns-in_err-record-in-Revise-clause-fault : goal.returns-in_err-record-in-Revise-clause-fault
returns-in_err-record-in-Revise-clause-fault c =
    refused-text c.one_answer.ensures (IsValid (told (logged.change_of c.args.wire.now)))
    c.stored_format-in-Revise.result
    c.deref-in-Revise.result.now c.in_err-record-in-Revise.field-0.0 c.from_residual-in_err-record-in-Revise.result
    c.from_residual-in_err-record-in-Revise.ensures.1 c.in_err-record-in-Revise.ensures.fault
    (λ v. rw (c.stored_format-in-Revise.ensures, c.deref-in-Revise.ensures.value)
    ((subst (λ (w : Wire). IsValid (told (logged.change_of w))) c.in-Revise.is v).1))
