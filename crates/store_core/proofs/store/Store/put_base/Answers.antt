use Rattle.std.proofs.Common.{◌++◌, ◌≤◌, Contains, get_or, [], ◌∷◌, refl, subst, sym}
use Rattle.std.proofs.lemmas.List.Elements.{Contains-get_or}
use Rattle.record_versions.specs.Entries.{chain_of}
use Rattle.store_core.specs.Based.{IsBefore, based}
use Rattle.store_core.specs.Kept.{status_in}
use Rattle.store_core.specs.Stored.{StoreTerm}
use Rattle.store_core.proofs.Based.{at-err, base-stands, nothing-there, own-entry}
use Rattle.store_core.proofs.Rows.{reserved-stands}
use Rattle.store_core.proofs.store.Store.put_base.Goals as goal

pub invariant_of-self : goal.invariant_of-self
invariant_of-self c =
    let was = c.self.invariant in
    (was.0, reserved-stands _ c.reserve.new.self was.0 c.reserve.ensures.entries c.reserve.ensures.chains was.1)

pub returns-in_err-reserve-clause-err : goal.returns-in_err-reserve-clause-err
returns-in_err-reserve-clause-err c =
    rw (sym c.self.view_is) (at-err c.from_residual.result
    (λ s h. reserved-stands _ c.reserve.new.self s c.reserve.ensures.entries c.reserve.ensures.chains h))

pub add-requires-clause-later : goal.add-requires-clause-later
add-requires-clause-later c = λ i d less.
    let before = subst (λ (t : StoreTerm). IsBefore t c.args.id) (sym c.self.view_is) c.requires.before in
    let ks = chain_of c.reserve.new.self.chains c.args.id in
    absurd (nothing-there _ before.0 c.args.id before.1 before.2 (get_or ks i d)
    (subst (λ l. Contains l (get_or ks i d)) (c.reserve.ensures.chains c.args.id) (Contains-get_or ks i d less)))

pub invariant_of-self-2 : goal.invariant_of-self-2
invariant_of-self-2 c =
    let before = subst (λ (t : StoreTerm). IsBefore t c.args.id) (sym c.self.view_is) c.requires.before in
    let was = reserved-stands _ c.reserve.new.self _ c.reserve.ensures.entries c.reserve.ensures.chains before.1 in (
      based c.self.inside.version (before.0 ++ (c.args.id, status_in c.args.made_at c.args.entry) ∷ []),
      base-stands _ _ before.0 c.args.id (record { version = c.args.made_at; value = c.args.entry }) was before.2
          (record {
            chains = c.add.ensures.chains;
            more = c.add.ensures.one_more;
            pins = refl;
            version = refl;
            limit = refl;
            counts = c.one_more-live.ensures;
            in_range = c.requires.in_range;
            since = c.requires.since;
            until = subst (λ (t : StoreTerm). c.args.made_at ≤ t.version) (sym c.self.view_is) c.requires.until;
            entry = own-entry c.args.id c.args.entry c.own_record.ensures.sound c.requires.own;
          }),
    )

pub returns-clause-given : goal.returns-clause-given
returns-clause-given c =
    rw (sym c.self.view_is)
    (λ base h all. base-stands _ _ base c.args.id (record { version = c.args.made_at; value = c.args.entry })
    (reserved-stands _ c.reserve.new.self _ c.reserve.ensures.entries c.reserve.ensures.chains h) all
    (record {
      chains = c.add.ensures.chains;
      more = c.add.ensures.one_more;
      pins = refl;
      version = refl;
      limit = refl;
      counts = c.one_more-live.ensures;
      in_range = c.requires.in_range;
      since = c.requires.since;
      until = subst (λ (t : StoreTerm). c.args.made_at ≤ t.version) (sym c.self.view_is) c.requires.until;
      entry = own-entry c.args.id c.args.entry c.own_record.ensures.sound c.requires.own;
    }))
