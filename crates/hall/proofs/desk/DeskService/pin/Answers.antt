-- What the pass's turn tells.
use Rattle.hall.proofs.Holding.{pin-apart, pin-held}
use Rattle.hall.proofs.desk.DeskService.pin.Goals as goal

pub returns-clause-call : goal.returns-clause-call
returns-clause-call g c = λ s at.
    let made = c.pin.ensures.answered.made s at in
    record { steps = made.steps; after = made.after; stands = made.stands; own = made.own }

pub returns-clause-held : goal.returns-clause-held
returns-clause-held g c = pin-held _ _ c.pin.result c.pin.ensures.answered.pins c.pin.ensures.memory

pub returns-clause-apart : goal.returns-clause-apart
returns-clause-apart g c = pin-apart _ _ c.pin.result c.pin.ensures.answered.pins
