use Rattle.std.proofs.Common.{◌+◌, arith, get_or, refl, subst, sym}
use Rattle.std.proofs.lemmas.List.Elements.{Contains-get_or}
use Rattle.record_versions.specs.Entries.{chain_of}
use Rattle.store_machine.specs.Machine.{committed}
use Rattle.store_core.specs.Replies.{change_of}
use Rattle.store_core.specs.Stored.{StandsFor, StoreTerm, alone, served}
use Rattle.store_core.proofs.Commits.{commit-stands, may-count}
use Rattle.store_core.proofs.Indexed.{Adds}
use Rattle.store_core.proofs.store.Store.make.Goals as goal

pub counted-live-requires-clause-some : goal.counted-live-requires-clause-some
counted-live-requires-clause-some c =
    let was = c.self.invariant in
    may-count _ was.0 c.args.change was.1
    (c.requires.may_add (alone was.0) (subst (λ (t : StoreTerm). StandsFor t was.0) c.self.view_is was.1))

pub add-requires-clause-later : goal.add-requires-clause-later
add-requires-clause-later c = λ i d less.
    let was = c.self.invariant in
    let ks = chain_of c.self.inside.kept.chains c.id-id.result in
    let late = (was.1.chains c.id-id.result).late (get_or ks i d) (Contains-get_or ks i d less) in
    omega (arith, late, was.1.version)

pub invariant_of-self : goal.invariant_of-self
invariant_of-self c =
    let was = c.self.invariant in
    let may = c.requires.may_add (alone was.0) (subst (λ (t : StoreTerm). StandsFor t was.0) c.self.view_is was.1) in (
      served (committed (alone was.0) (change_of c.args.change)),
      commit-stands (record {
        commits = c.laws.ensures.commits;
        sound = c.laws.ensures.sound;
        snapshots = c.laws.ensures.snapshots;
        states = c.laws.ensures.states;
      }) _ _ was.0 c.args.change
          (record { version = c.self.inside.version + 1; value = c.into_entry.result }) was.1
          (record {
            chains = subst (λ i. Adds c.self.inside.kept.chains c.add.new.self.chains i
                (record { version = c.self.inside.version + 1; value = c.into_entry.result })) c.id-id.ensures.id
                c.add.ensures.chains;
            more = c.add.ensures.one_more;
            pins = refl;
            version = refl;
            limit = refl;
            counts = c.counted-live.ensures;
            at = refl;
            left = c.into_entry.ensures;
            sound = c.id-id.ensures.sound;
          }) may,
    )

pub returns-clause-committed : goal.returns-clause-committed
returns-clause-committed c =
    rw (sym c.self.view_is)
    (λ s h. commit-stands (record {
      commits = c.laws.ensures.commits;
      sound = c.laws.ensures.sound;
      snapshots = c.laws.ensures.snapshots;
      states = c.laws.ensures.states;
    }) _ _ (served s) c.args.change
    (record { version = c.self.inside.version + 1; value = c.into_entry.result }) h
    (record {
      chains = subst (λ i. Adds c.self.inside.kept.chains c.add.new.self.chains i
          (record { version = c.self.inside.version + 1; value = c.into_entry.result })) c.id-id.ensures.id
          c.add.ensures.chains;
      more = c.add.ensures.one_more;
      pins = refl;
      version = refl;
      limit = refl;
      counts = c.counted-live.ensures;
      at = refl;
      left = c.into_entry.ensures;
      sound = c.id-id.ensures.sound;
    })
    (c.requires.may_add (alone (served s))
    (subst (λ (t : StoreTerm). StandsFor t (served s)) c.self.view_is h)))

pub returns-clause-few : goal.returns-clause-few
returns-clause-few c =
    let was = c.self.invariant in
    let may = c.requires.may_add (alone was.0) (subst (λ (t : StoreTerm). StandsFor t was.0) c.self.view_is was.1) in
    let room = may.2 in
    omega (arith, room, was.1.version, was.1.limit, was.1.most)
