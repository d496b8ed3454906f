use Rattle.drill_run.proofs.Shared.{last-part}
use Rattle.drill_run.proofs.Told.{drills-are-true}
use Rattle.drill_run.proofs.laws.drills_are_true.Goals as goal

pub returns : goal.returns
returns c =
    drills-are-true (last-part c.dialogues_are_true.ensures c.runs_stay_sound.ensures c.pins_stay.ensures)
