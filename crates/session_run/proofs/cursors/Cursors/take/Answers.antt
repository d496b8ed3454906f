use Rattle.std.proofs.Common.{sym}
use Rattle.session_run.proofs.ByName.{absent, if_none, taken}
use Rattle.session_run.proofs.cursors.Cursors.take.Goals as goal

pub returns-in_err-name-clause-none : goal.returns-in_err-name-clause-none
returns-in_err-name-clause-none c =
    if_none c.from_residual.result _
    (absent c.args.name.now c.args.self.now.by_name.entries (sym c.in_err-name.ensures.value))

pub returns-clause-some : goal.returns-clause-some
returns-clause-some c =
    taken c.args.name.now c.args.self.now.by_name.entries c.in_ok-name.name c.in_ok-name.walk
    c.shift_remove_entry.new.self.entries (sym c.in_ok-name.ensures.key) (sym c.in_ok-name.ensures.value)
    c.in_ok-name.ensures.entries
