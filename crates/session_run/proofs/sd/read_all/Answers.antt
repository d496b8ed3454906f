use Rattle.session_run.proofs.Registered.{read_all}
use Rattle.session_run.proofs.sd.read_all.Goals as goal

pub returns-in-Ok : goal.returns-in-Ok
returns-in-Ok g c = read_all c.args.first _ _ (rw c.as_slice.ensures.value at c.in-Ok.ensures)
