use Rattle.std.proofs.Common.{subst, sym}
use Rattle.record_versions.specs.Entries.{IsLeastId}
use Rattle.record_versions.proofs.Walk.{least-id, no-id}
use Rattle.record_versions.proofs.chains.Chains.next_id.Goals as goal

pub returns-in_err-id : goal.returns-in_err-id
returns-in_err-id g c =
    subst (IsLeastId c.args.from c.args.self.now) (sym c.from_residual.ensures)
    (no-id c.args.from c.args.self.now c.in_err-id.ensures)

pub returns : goal.returns
returns g c = least-id c.args.from c.in_ok-id.id c.in_ok-id.field-0-1 c.args.self.now c.in_ok-id.ensures
