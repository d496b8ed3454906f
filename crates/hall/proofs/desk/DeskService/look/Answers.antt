-- What the pass's turn tells.
use Rattle.std.proofs.Common.{refl}
use Rattle.store_machine.specs.declared.machine.Event.TheVariants.{Look}
use Rattle.hall.proofs.Calls.{other-call}
use Rattle.hall.proofs.Holding.{same-held}
use Rattle.hall.proofs.desk.DeskService.look.Goals as goal

pub returns-clause-call : goal.returns-clause-call
returns-clause-call g c = λ s at.
    let made = c.look.ensures.answered.made s at in
    record { steps = made.steps; after = made.after; stands = made.stands; own = made.own }

pub returns-clause-held : goal.returns-clause-held
returns-clause-held g c =
    same-held _ _ (Look c.args.id) _ _ c.look.ensures.answered.pins
    (other-call (Look c.args.id) _ c.look.result) (λ slot. refl) (λ e. cc e)
