use Rattle.std.proofs.Common.{◌≡◌, ◌+◌, ap, arith, length, MatchOption, subst, sym}
use Rattle.std.specs.BTreeMap.{is_at}
use Rattle.std.specs.Ordering.{nat_cmp}
use Rattle.record_versions.specs.Entries.{entries}
use Rattle.record_versions.proofs.Listed.{length-changed}
use Rattle.record_versions.proofs.chains.Chains.take.Goals as goal

pub invariant_of-self-in_err-value : goal.invariant_of-self-in_err-value
invariant_of-self-in_err-value g c =
    let changed = length-changed (is_at (nat_cmp c.args.id)) c.self.inside.chains.entries c.in_ok-get_mut.field-0.now
    c.take.new.self c.in_ok-get_mut.ensures.value in
    omega (
      arith,
      changed,
      ap (λ l. length (entries l)) (c.get_mut.follows.holds c.take.new.self).0,
      ap (λ l. length l) c.in_err-value.ensures.fewer,
      c.self.invariant,
    )

pub returns-in_err-value-clause-fewer : goal.returns-in_err-value-clause-fewer
returns-in_err-value-clause-fewer g c =
    let changed = length-changed (is_at (nat_cmp c.args.id)) c.self.inside.chains.entries c.in_ok-get_mut.field-0.now
    c.take.new.self c.in_ok-get_mut.ensures.value in
    let new = length (entries (c.get_mut.follows.lender c.take.new.self).entries) in
    let old = length (entries c.args.self.now) in
    subst (λ o. MatchOption o (new ≡ old) (λ _. new + 1 ≡ old)) (sym c.from_residual-in_err-value.ensures)
    (omega (
      arith,
      changed,
      ap (λ l. length (entries l)) (c.get_mut.follows.holds c.take.new.self).0,
      ap (λ l. length l) c.in_err-value.ensures.fewer,
      ap (λ l. length (entries l)) c.self.view_is,
    ))

pub overflow_sub-self : goal.overflow_sub-self
overflow_sub-self g c =
    let changed = length-changed (is_at (nat_cmp c.args.id)) c.self.inside.chains.entries c.in_ok-get_mut.field-0.now
    c.take.new.self c.in_ok-get_mut.ensures.value in
    omega (arith, changed, c.in_ok-value.ensures.fewer, c.self.invariant)

pub invariant_of-self-2 : goal.invariant_of-self-2
invariant_of-self-2 g c =
    let changed = length-changed (is_at (nat_cmp c.args.id)) c.self.inside.chains.entries c.in_ok-get_mut.field-0.now
    c.take.new.self c.in_ok-get_mut.ensures.value in
    omega (
      arith,
      changed,
      ap (λ l. length (entries l)) (c.get_mut.follows.holds c.take.new.self).0,
      c.in_ok-value.ensures.fewer,
      c.self.invariant,
    )

pub returns-clause-fewer : goal.returns-clause-fewer
returns-clause-fewer g c =
    let changed = length-changed (is_at (nat_cmp c.args.id)) c.self.inside.chains.entries c.in_ok-get_mut.field-0.now
    c.take.new.self c.in_ok-get_mut.ensures.value in
    omega (
      arith,
      changed,
      ap (λ l. length (entries l)) (c.get_mut.follows.holds c.take.new.self).0,
      c.in_ok-value.ensures.fewer,
      ap (λ l. length (entries l)) c.self.view_is,
    )
