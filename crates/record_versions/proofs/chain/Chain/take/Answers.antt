use Rattle.std.proofs.Common.{◌≡◌, ◌-◌, ◌<◌, ◌∙◌, ap, arith, Contains, filter, get_or, length, subst, sym}
use Rattle.std.proofs.lemmas.List.{get_or_read}
use Rattle.std.proofs.lemmas.List.Quantifiers.{all_pairs_remove}
use Rattle.record_versions.specs.Entries.{is_other}
use Rattle.record_versions.specs.Rows.{Row}
use Rattle.record_versions.specs.declared.entries.Entry.{Entry}
use Rattle.record_versions.proofs.Order.{Ascends, absent, kept-whole, one-removed, removed-there}
use Rattle.record_versions.proofs.chain.Chain.take.Goals as goal

pub returns-in_err-place-clause-entries : goal.returns-in_err-place-clause-entries
returns-in_err-place-clause-entries g c =
    let items = c.self.inside.entries.entries in
    subst (λ ks. ks ≡ filter (is_other c.args.version) ks) (ap (λ (r : Row g.row.V.Denot). r.entries) c.self.view_is)
    (kept-whole c.args.version items (absent c.args.version c.up_to.result items c.up_to.ensures.within
    c.up_to.ensures.before c.up_to.ensures.behind c.self.invariant
    (λ d some. absurd (omega (arith, some)))))

pub returns-then-index-version-clause-entries : goal.returns-then-index-version-clause-entries
returns-then-index-version-clause-entries g c =
    let items = c.self.inside.entries.entries in
    let place : c.in_ok-place.place ≡ c.up_to.result - 1 = omega arith in
    let less : c.in_ok-place.place < length items = omega (arith, c.up_to.ensures.within) in
    subst (λ ks. ks ≡ filter (is_other c.args.version) ks) (ap (λ (r : Row g.row.V.Denot). r.entries) c.self.view_is)
    (kept-whole c.args.version items (absent c.args.version c.up_to.result items c.up_to.ensures.within
    c.up_to.ensures.before c.up_to.ensures.behind c.self.invariant
    (λ d some e. c.if-index-version.true
    (ap (λ (k : Entry g.row.V.Denot). k.version)
    (get_or_read items c.in_ok-place.place c.index.result.now less c.index.ensures d)
    ∙ (ap (λ n. (get_or items n d).version) place ∙ e)))))

pub invariant_of-self-2 : goal.invariant_of-self-2
invariant_of-self-2 g c =
    let items = c.self.inside.entries.entries in
    let less : c.in_ok-place.place < length items = omega (arith, c.up_to.ensures.within) in
    subst Ascends (sym c.in_ok-value.ensures.entries)
    (all_pairs_remove (λ (k l : Entry g.row.V.Denot). k.version < l.version) items c.in_ok-place.place less
    c.self.invariant)

pub returns-clause-entries : goal.returns-clause-entries
returns-clause-entries g c =
    let items = c.self.inside.entries.entries in
    let less : c.in_ok-place.place < length items = omega (arith, c.up_to.ensures.within) in
    c.in_ok-value.ensures.entries
    ∙ (one-removed c.args.version c.in_ok-place.place items c.index.result.now less c.self.invariant
    (sym (ap (λ (k : Entry g.row.V.Denot). k.version) c.index.ensures) ∙ c.if-index-version.false)
    ∙ ap (λ (r : Row g.row.V.Denot). filter (is_other c.args.version) r.entries) c.self.view_is)

pub returns-clause-value : goal.returns-clause-value
returns-clause-value g c =
    let items = c.self.inside.entries.entries in
    let less : c.in_ok-place.place < length items = omega (arith, c.up_to.ensures.within) in
    let value = c.in_ok-value.field-0 in
    subst (λ ks. Contains ks (record { version = c.args.version; value = value.value }))
    (ap (λ (r : Row g.row.V.Denot). r.entries) c.self.view_is)
    (removed-there c.args.version c.in_ok-place.place items value less c.in_ok-value.ensures.value
    (ap (λ (k : Entry g.row.V.Denot). k.version)
    (c.in_ok-value.ensures.value
    ∙ sym (get_or_read items c.in_ok-place.place c.index.result.now less c.index.ensures value))
    ∙ c.if-index-version.false))
