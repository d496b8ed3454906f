-- The store that comes back is the one for which the whole history was told.
use Rattle.std.proofs.Common.{subst}
use Rattle.turn_gate.specs.Passes.{Ends}
use Rattle.hall.specs.Histories.{KeptFor}
use Rattle.hall.proofs.Starting.{ends}
use Rattle.hall.proofs.hall.Hall.close.Goals as goal

pub returns : goal.returns
returns g c =
    ends _ c.args.pass c.close.result c.into_store.result c.into_store.ensures
    (subst (λ p. Ends (KeptFor g.D.Disk.model) p c.close.result) c.into_pass.ensures c.close.ensures)
