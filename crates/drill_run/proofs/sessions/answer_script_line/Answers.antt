use Rattle.drill_run.proofs.Answering.{never-worn, own-said, own-unsaid}
use Rattle.drill_run.proofs.sessions.answer_script_line.Goals as goal

pub answer_line-requires-clause-ready : goal.answer_line-requires-clause-ready
answer_line-requires-clause-ready g c _ _ = record { fit = c.requires.fit; held = c.requires.held }

pub returns-in-Ok-clause-ok : goal.returns-in-Ok-clause-ok
returns-in-Ok-clause-ok g c =
    own-said _ (λ calls u. record { makes = record { made = u.makes.made }; pins = u.pins; bounds = u.bounds })
    c.requires.alone c.answer_line.new.self.out.items c.in-Ok.ensures.answered

pub returns-in-Err-NoMemory-clause-err : goal.returns-in-Err-NoMemory-clause-err
returns-in-Err-NoMemory-clause-err g c =
    own-unsaid _ (λ calls u. record { makes = record { made = u.makes.made }; pins = u.pins; bounds = u.bounds })
    c.requires.alone c.answer_line.new.self.out.items
    (rw c.in-Err-NoMemory.field-0-is at c.in-Err-NoMemory.ensures.answered)

pub unreachable-requires : goal.unreachable-requires
unreachable-requires g c =
    never-worn (λ w. w) (rw c.in-Err-Worn.field-0-is at c.in-Err-Worn.ensures.answered)
