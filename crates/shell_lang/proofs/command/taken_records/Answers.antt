use Rattle.shell_lang.proofs.Taken.{records_read}
use Rattle.shell_lang.proofs.command.taken_records.Goals as goal

pub returns-clause-some : goal.returns-clause-some
returns-clause-some c =
    rw c.ok_or-first.ensures.value
    (records_read c.args.rest.now c.in_ok-part.part.now c.in_ok-part.count c.first_of.result
    c.in_ok-part.ensures.some c.first_of.ensures.some c.first_of.ensures.none)
