-- What the pass's turn tells.
use Rattle.std.proofs.Common.{refl}
use Rattle.store_machine.specs.declared.machine.Event.TheVariants.{Stats}
use Rattle.hall.proofs.Calls.{other-call}
use Rattle.hall.proofs.Holding.{same-held}
use Rattle.hall.proofs.desk.DeskService.stats.Goals as goal

pub returns-clause-call : goal.returns-clause-call
returns-clause-call g c = λ s at.
    let made = c.stats.ensures.answered.made s at in
    record { steps = made.steps; after = made.after; stands = made.stands; own = made.own }

pub returns-clause-held : goal.returns-clause-held
returns-clause-held g c =
    same-held _ _ Stats _ _ c.stats.ensures.answered.pins
    (other-call Stats _ c.stats.result) (λ slot. refl) (λ e. cc e)
