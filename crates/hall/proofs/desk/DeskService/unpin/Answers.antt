-- What the pass's turn tells.
use Rattle.hall.proofs.Holding.{unpin-held}
use Rattle.hall.proofs.desk.DeskService.unpin.Goals as goal

pub returns-clause-call : goal.returns-clause-call
returns-clause-call g c = λ s at.
    let made = c.unpin.ensures.answered.made s at in
    record { steps = made.steps; after = made.after; stands = made.stands; own = made.own }

pub returns-clause-held : goal.returns-clause-held
returns-clause-held g c = unpin-held _ _ c.args.pin c.unpin.result c.unpin.ensures.answered.pins c.unpin.ensures.memory
