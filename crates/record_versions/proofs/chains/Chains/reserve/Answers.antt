use Rattle.std.proofs.Common.{◌≡◌, ◌∙◌, ap, cond, length, None, Some, subst, sym}
use Rattle.std.specs.BTreeMap.{get, insert_entry, is_at}
use Rattle.std.specs.Ordering.{nat_cmp}
use Rattle.record_versions.specs.Entries.{chain_of, entries, row_of}
use Rattle.record_versions.proofs.Listed.{empty-chain, empty-entries, same-entries}
use Rattle.record_versions.proofs.Walk.{same-at}
use Rattle.record_versions.proofs.chains.Chains.reserve.Goals as goal

pub invariant_of-self : goal.invariant_of-self
invariant_of-self g c =
    let holds = c.get_mut.follows.holds c.reserve.new.self in
    let same = same-entries (is_at (nat_cmp c.args.id)) c.self.inside.chains.entries c.in-Some.chain.now c.reserve.new.self
    c.in-Some.ensures.value c.reserve.ensures.entries in
    ap (λ l. length l) (ap entries holds.0 ∙ same) ∙ c.self.invariant

pub returns-in-Some-clause-entries : goal.returns-in-Some-clause-entries
returns-in-Some-clause-entries g c =
    let holds = c.get_mut.follows.holds c.reserve.new.self in
    let same = same-entries (is_at (nat_cmp c.args.id)) c.self.inside.chains.entries c.in-Some.chain.now c.reserve.new.self
    c.in-Some.ensures.value c.reserve.ensures.entries in
    ap entries holds.0 ∙ (same ∙ ap entries c.self.view_is)

pub invariant_of-self-in-Ok : goal.invariant_of-self-in-Ok
invariant_of-self-in-Ok g c =
    let chain = c.reserve-2.new.self in
    let id = c.args.id in
    ap (λ l. length l) (ap entries c.in-Ok.ensures.entries
    ∙ (ap (λ m. entries (insert_entry nat_cmp m.entries id chain)) c.get_mut.follows.holds-at-none
    ∙ empty-entries id c.self.inside.chains.entries chain (c.reserve-2.ensures.entries ∙ c.new-chain.ensures)
    (sym c.in_default.ensures.value)))
    ∙ c.self.invariant

pub returns-in-Ok-clause-entries : goal.returns-in-Ok-clause-entries
returns-in-Ok-clause-entries g c =
    let chain = c.reserve-2.new.self in
    let id = c.args.id in
    ap entries c.in-Ok.ensures.entries
    ∙ (ap (λ m. entries (insert_entry nat_cmp m.entries id chain)) c.get_mut.follows.holds-at-none
    ∙ (empty-entries id c.self.inside.chains.entries chain (c.reserve-2.ensures.entries ∙ c.new-chain.ensures)
    (sym c.in_default.ensures.value)
    ∙ ap entries c.self.view_is))

pub returns-in-Ok-clause-chains : goal.returns-in-Ok-clause-chains
returns-in-Ok-clause-chains g c = λ q.
    let chain = c.reserve-2.new.self in
    let id = c.args.id in
    let old = c.self.inside.chains.entries in
    empty-chain (is_at (nat_cmp id) q) (row_of old q) (row_of c.insert.new.self.entries q) chain
    (c.reserve-2.ensures.entries ∙ c.new-chain.ensures)
    (c.in-Ok.ensures.updates.0 q
    ∙ ap (λ m. cond (is_at (nat_cmp id) q) (Some chain) (get nat_cmp m q)) c.get_mut.follows.holds-at-none)
    (λ t. subst (λ n. row_of old n ≡ None) (same-at id q t) (sym c.in_default.ensures.value))
    ∙ ap (λ l. chain_of l q) c.self.view_is
