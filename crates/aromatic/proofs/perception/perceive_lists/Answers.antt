use Rattle.std.proofs.Common.{◌≡◌, map, subst}
use Rattle.std.specs.List.{enumerate_from}
use Rattle.aromatic.specs.Tallies.{IsFirstToPass, NonePasses}
use Rattle.aromatic.proofs.Found.{all-found, fault-first}
use Rattle.aromatic.proofs.Tallies.{refusals-told, valences-told}
use Rattle.aromatic.proofs.perception.perceive_lists.Goals as goal

pub returns-in-Some-clause-refused : goal.returns-in-Some-clause-refused
returns-in-Some-clause-refused c =
    let first = rw (c.deref-4.ensures.value, c.deref-5.ensures.value) at c.in-Some.ensures.some in
    let told = refusals-told _ c.in_ok-flags.flags.items _ c.in_ok-tallies.tallies.items c.in_ok-tallies.ensures.each in
    fault-first _ _ c.in_ok-flags.flags.items _ c.in_ok-flags.ensures
    (subst (λ test. IsFirstToPass test c.args.atoms.now c.in-Some.written) told first)

pub returns-clause-perceived : goal.returns-clause-perceived
returns-clause-perceived c =
    let tallies = rw c.deref-3.ensures.value at c.in_ok-tallies.ensures.each in
    let none = rw (c.deref-4.ensures.value, c.deref-5.ensures.value) at c.in_default.ensures.none in
    let values = rw (c.deref-6.ensures.value, c.deref-7.ensures.value, c.deref-8.ensures.value) at
    c.in_ok-values.ensures in
    let refusals = refusals-told _ c.in_ok-flags.flags.items _ c.in_ok-tallies.tallies.items tallies in
    let valences = valences-told _ c.in_ok-rows.rows.items c.in_ok-flags.flags.items _ c.in_ok-tallies.tallies.items
    tallies in
    all-found _ _ c.in_ok-rows.rows.items c.in_ok-flags.flags.items c.in_ok-marks.marks.items
    c.in_ok-values.values.items c.in_ok-rows.ensures c.in_ok-marks.ensures c.in_ok-flags.ensures
    (subst (λ test. NonePasses test c.args.atoms.now) refusals none)
    (subst (λ f. c.in_ok-values.values.items ≡ map (λ p. f p.0 p.1) (enumerate_from 0 c.args.atoms.now)) valences
    values)
