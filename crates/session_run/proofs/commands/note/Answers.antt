use Rattle.std.proofs.Common.{refl}
use Rattle.session_run.proofs.commands.note.Goals as goal

pub returns-in-Ok : goal.returns-in-Ok
returns-in-Ok c = rw c.in-Ok.is c.note_version.ensures

pub returns-in-Err : goal.returns-in-Err
returns-in-Err c = rw c.in-Err.is refl
