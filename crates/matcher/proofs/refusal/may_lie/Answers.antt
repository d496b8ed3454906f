use Rattle.std.proofs.Common.{inl, inr, slice_index}
use Rattle.std.proofs.lemmas.Bool.{iff_false}
use Rattle.matcher.proofs.Refusals.{ends_in_range, ends_read, no_bond}
use Rattle.matcher.proofs.refusal.may_lie.Goals as goal

pub returns-then-not-bond_true : goal.returns-then-not-bond_true
returns-then-not-bond_true c = λ _ image e j t. iff_false c.bond_true.ensures c.if-not-bond_true.true t

pub may_join-requires-clause-one : goal.may_join-requires-clause-one
may_join-requires-clause-one c = rw (c.bonds.ensures.value, c.from.ensures)
    (ends_in_range c.args.task.now.mol.now c.args.other no_bond c.bonds.ensures.valid c.requires.other).0

pub may_join-requires-clause-two : goal.may_join-requires-clause-two
may_join-requires-clause-two c = rw (c.bonds.ensures.value, c.from.ensures)
    (ends_in_range c.args.task.now.mol.now c.args.other no_bond c.bonds.ensures.valid c.requires.other).1

pub may_join-requires-2-clause-one : goal.may_join-requires-2-clause-one
may_join-requires-2-clause-one c = rw (c.bonds.ensures.value, c.from.ensures)
    (ends_in_range c.args.task.now.mol.now c.args.other no_bond c.bonds.ensures.valid c.requires.other).1

pub may_join-requires-2-clause-two : goal.may_join-requires-2-clause-two
may_join-requires-2-clause-two c = rw (c.bonds.ensures.value, c.from.ensures)
    (ends_in_range c.args.task.now.mol.now c.args.other no_bond c.bonds.ensures.valid c.requires.other).0

pub returns : goal.returns
returns c = λ f image e j t.
    let one = rw (c.bonds.ensures.value, c.from.ensures) at c.may_join.ensures in
    let two = rw (c.bonds.ensures.value, c.from.ensures) at c.may_join-2.ensures in
    elim (ends_read c.args.task.now.mol.now c.args.other (slice_index image c.args.bond.now.a)
    (slice_index image c.args.bond.now.b) no_bond c.requires.other j) [
      | inl p ↦ one c.if-may_join.false image e p.0 p.1
      | inr p ↦ two f image e p.0 p.1
    ]
