use Rattle.std.proofs.Common.{arith, refl}
use Rattle.snap_registry.proofs.Order.{counted}
use Rattle.snap_registry.proofs.Registry.new.Goals as goal

pub invariant_of-result : goal.invariant_of-result
invariant_of-result c = (
  omega arith,
  counted c.loop-slot.slots c.loop-slot.invariant.length
      (λ k less. c.loop-slot.invariant.filled k (omega (arith, less, c.loop-slot-test.false))),
  refl,
)
