use Rattle.store_core.proofs.Beside.{calls-serve}
use Rattle.store_core.proofs.laws.calls_serve_any_disks.Goals as goal

pub returns : goal.returns
returns c = calls-serve c.runs_stay_sound.ensures
