use Rattle.std.proofs.Common.{arith, subst, sym}
use Rattle.store_core.specs.Kept.{AreIndexed, Kept}
use Rattle.store_core.proofs.Superseded.{none-ends, superseded-ends, superseded-indexed}
use Rattle.store_core.proofs.kept.supersede.Goals as goal

pub returns-in-Some-clause-indexed : goal.returns-in-Some-clause-indexed
returns-in-Some-clause-indexed c =
    let k : Kept = record { version = c.in-Some.latest; value = c.in-Some.field-0-1.now } in
    subst (AreIndexed c.args.chains.now) (sym c.supersede.ensures.entries)
    (superseded-indexed c.args.chains.now c.args.index.now.entries c.args.id c.args.version k c.requires.later
    (omega (arith, c.ranges.version)) c.in-Some.ensures c.requires.indexed)

pub returns-in-Some-clause-until : goal.returns-in-Some-clause-until
returns-in-Some-clause-until c =
    let k : Kept = record { version = c.in-Some.latest; value = c.in-Some.field-0-1.now } in
    rw c.supersede.ensures.entries
    (superseded-ends c.args.chains.now c.args.index.now.entries c.args.id c.args.version k c.requires.later
    (omega (arith, c.ranges.version)) c.in-Some.ensures c.requires.indexed)

pub returns-in_default-clause-until : goal.returns-in_default-clause-until
returns-in_default-clause-until c =
    none-ends c.args.chains.now c.args.index.now.entries c.args.id c.args.version c.requires.later c.requires.indexed
    c.in_default.ensures
