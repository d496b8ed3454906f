-- The pins of both are held where both were seen.
use Rattle.std.proofs.Common.{subst}
use Rattle.turn_gate.specs.Passes.{Merged}
use Rattle.hall.specs.Passes.{by}
use Rattle.hall.proofs.Joining.{both-pins}
use Rattle.hall.proofs.hall.Hall.join.Goals as goal

pub returns-clause-pins : goal.returns-clause-pins
returns-clause-pins g c =
    both-pins c.laws.ensures.stay c.args.pass.now c.args.other (record { pass = c.join.new.pass })
    (subst (λ o. Merged by c.args.pass.now.pass o c.join.new.pass) c.into_pass.ensures c.join.ensures.merged)
