use Rattle.std.proofs.Common.{◌∙◌, ◌++◌, ap, arith, length, refl, slice_index, subst, ◌∷◌, []}
use Rattle.snap_registry.specs.Pins.{IsFree}
use Rattle.snap_registry.proofs.Arrays.{held-count, held-free, held-pushed}
use Rattle.snap_registry.proofs.Order.{slots-apart, slots-below, slots-length}
use Rattle.snap_registry.proofs.Registry.pin.Goals as goal

pub returns-then-self-eq-MOST_PINS-clause-none : goal.returns-then-self-eq-MOST_PINS-clause-none
returns-then-self-eq-MOST_PINS-clause-none c =
    let n = slots-length c.self.inside.slots c.self.invariant.1 in
    let count = held-count c.self.inside.held c.self.inside.slots c.self.inside.versions
    (omega (arith, n, c.self.invariant.0)) (omega (arith, n, c.self.invariant.2)) in
    omega (arith, ap (λ l. length l) c.self.view_is, count, c.if-self-eq-MOST_PINS.true)

pub returns-clause-pinned : goal.returns-clause-pinned
returns-clause-pinned c =
    let n = slots-length c.self.inside.slots c.self.invariant.1 in (
      refl,
      held-pushed c.self.inside.held c.args.version c.self.inside.slots c.self.inside.versions
          (omega (arith, n, c.self.invariant.0, c.if-self-eq-MOST_PINS.false)) (omega (arith, n, c.self.invariant.2))
          ∙ ap (λ l. l ++ record { slot = slice_index c.self.inside.slots c.self.inside.held; version = c.args.version }
          ∷ []) c.self.view_is,
    )

pub returns-clause-none : goal.returns-clause-none
returns-clause-none c =
    let n = slots-length c.self.inside.slots c.self.invariant.1 in
    let count = held-count c.self.inside.held c.self.inside.slots c.self.inside.versions
    (omega (arith, n, c.self.invariant.0)) (omega (arith, n, c.self.invariant.2)) in
    omega (arith, ap (λ l. length l) c.self.view_is, count, c.self.invariant.0, c.if-self-eq-MOST_PINS.false)

pub returns-clause-free : goal.returns-clause-free
returns-clause-free c =
    let n = slots-length c.self.inside.slots c.self.invariant.1 in (
      slots-below c.self.inside.slots c.self.invariant.1 c.self.inside.held 0
          (omega (arith, n, c.self.invariant.0, c.if-self-eq-MOST_PINS.false)),
      subst (IsFree (slice_index c.self.inside.slots c.self.inside.held)) c.self.view_is
          (held-free c.self.inside.held c.self.inside.slots c.self.inside.versions
          (slots-apart c.self.inside.slots c.self.invariant.1)
          (omega (arith, n, c.self.invariant.0, c.if-self-eq-MOST_PINS.false))),
    )
