use Rattle.std.proofs.Common.{◌∙◌, ap, arith, length, map, sym}
use Rattle.snap_registry.specs.declared.Pin.{Pin}
use Rattle.snap_registry.proofs.Arrays.{held-count, held-versions}
use Rattle.snap_registry.proofs.Order.{slots-length}
use Rattle.snap_registry.proofs.Registry.live.Goals as goal

pub returns-clause-versions : goal.returns-clause-versions
returns-clause-versions c =
    let n = slots-length c.self.inside.slots c.self.invariant.1 in
    sym (held-versions c.self.inside.held c.self.inside.slots c.self.inside.versions
    (omega (arith, n, c.self.invariant.0)) (omega (arith, n, c.self.invariant.2)))
    ∙ ap (λ l. map (λ (p : Pin). p.version) l) c.self.view_is

pub returns-clause-few : goal.returns-clause-few
returns-clause-few c =
    let n = slots-length c.self.inside.slots c.self.invariant.1 in
    let count = held-count c.self.inside.held c.self.inside.slots c.self.inside.versions
    (omega (arith, n, c.self.invariant.0)) (omega (arith, n, c.self.invariant.2)) in
    omega (arith, ap (λ l. length l) c.self.view_is, count, c.self.invariant.0)
