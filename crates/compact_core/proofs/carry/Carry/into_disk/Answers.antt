use Rattle.std.proofs.Common.{subst, sym}
use Rattle.compact_core.specs.Carrying.{Carrying}
use Rattle.compact_core.specs.Copies.{Copies}
use Rattle.compact_core.proofs.Gates.{not_open}
use Rattle.compact_core.proofs.carry.Carry.into_disk.Goals as goal

pub returns-clause-shut : goal.returns-clause-shut
returns-clause-shut g c base commits q x i =
    let d = g.D.Disk.model in
    let r = subst (λ (k : Carrying g.row.D.Denot). Copies d k base commits) (sym c.self.view_is) q in
    not_open r.gate x r.shut (r.gathered.stands.each x i)
