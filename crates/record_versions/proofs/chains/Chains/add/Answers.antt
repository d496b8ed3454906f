use Rattle.std.proofs.Common.{ap, arith, length}
use Rattle.std.proofs.lemmas.List.{length_push}
use Rattle.std.specs.BTreeMap.{is_at}
use Rattle.std.specs.Ordering.{nat_cmp}
use Rattle.record_versions.specs.Entries.{entries}
use Rattle.record_versions.proofs.Listed.{length-changed}
use Rattle.record_versions.proofs.chains.Chains.add.Goals as goal

pub invariant_of-self : goal.invariant_of-self
invariant_of-self g c =
    let holds = c.get_mut.follows.holds c.add.new.self in
    let changed = length-changed (is_at (nat_cmp c.args.id)) c.self.inside.chains.entries c.in-Some.chain.now c.add.new.self
    c.in-Some.ensures.value in
    omega (
      arith,
      changed,
      ap (λ l. length (entries l)) holds.0,
      ap (λ l. length l) c.add.ensures,
      length_push c.in-Some.chain.now.entries (record { version = c.args.version; value = c.args.value }),
      c.self.invariant,
    )

pub returns-in-Some-clause-one_more : goal.returns-in-Some-clause-one_more
returns-in-Some-clause-one_more g c =
    let holds = c.get_mut.follows.holds c.add.new.self in
    let changed = length-changed (is_at (nat_cmp c.args.id)) c.self.inside.chains.entries c.in-Some.chain.now c.add.new.self
    c.in-Some.ensures.value in
    omega (
      arith,
      changed,
      ap (λ l. length (entries l)) holds.0,
      ap (λ l. length l) c.add.ensures,
      length_push c.in-Some.chain.now.entries (record { version = c.args.version; value = c.args.value }),
      ap (λ l. length (entries l)) c.self.view_is,
    )
