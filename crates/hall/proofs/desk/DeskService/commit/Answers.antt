-- What the pass's turn tells.
use Rattle.std.proofs.Common.{refl}
use Rattle.store_machine.specs.declared.machine.Event.TheVariants.{Commit}
use Rattle.store_core.specs.Replies.{change_of}
use Rattle.hall.proofs.Calls.{commit-call}
use Rattle.hall.proofs.Holding.{same-held}
use Rattle.hall.proofs.desk.DeskService.commit.Goals as goal

pub returns-clause-call : goal.returns-clause-call
returns-clause-call g c = λ s at.
    let made = c.commit.ensures.answered.made s at in
    record { steps = made.steps; after = made.after; stands = made.stands; own = made.own }

pub returns-clause-held : goal.returns-clause-held
returns-clause-held g c =
    same-held _ _ (Commit (change_of c.args.change)) _ _ c.commit.ensures.answered.pins
    (commit-call c.args.change c.commit.result) (λ slot. refl) (λ e. cc e)
