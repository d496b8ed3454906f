use Rattle.std.proofs.Common.{◌↔◌, ◌∙◌, ap, eq-eqb, IsTrue, rules, Some, subst, sym}
use Rattle.std.proofs.lemmas.Bool.{true≢false}
use Rattle.record_versions.specs.Entries.{IsLatest, chain_of}
use Rattle.screen_index.specs.Pairs.{Holds}
use Rattle.store_core.specs.Kept.{IsFoundAt, kept_of, record_of}
use Rattle.store_core.specs.Records.{RecordTerm}
use Rattle.store_core.proofs.Candidates.{at-version, found-at-once, found-is, found-later, none-found, not-found}
use Rattle.store_core.proofs.kept.record_at.Goals as goal
use Rattle.store_core.proofs.kept.record_at.Goals.{in_default-via-in-Some-default-Some+else-holds, then-at-candidate, else-at-candidate, in_default-via-in-Some+in_default, in_default-via-in_default}

pub returns-then-version-candidate-clause-found : goal.returns-then-version-candidate-clause-found
returns-then-version-candidate-clause-found g c =
    subst (λ r. IsFoundAt c.args.version c.args.want.now (chain_of c.args.finder.now c.args.candidate.now.id) (Some r))
    (sym c.read.ensures.value)
    (found-at-once c.args.want.now c.args.finder.now c.args.candidate.now c.requires c.args.version
    c.if-candidate-version.true c.if-version-candidate.true)

pub returns-in-Some-default-Some-clause-found : goal.returns-in-Some-default-Some-clause-found
returns-in-Some-default-Some-clause-found g c =
    let want = c.args.want.now in
    let ks = chain_of c.args.finder.now c.args.candidate.now.id in
    let found = c.in-Some-default-Some in
    let latest = subst (λ o. IsLatest c.args.version ks (Some (record { version = found.at; value = o })))
    found.field-0-1-is found.ensures.latest in
    found-later want ks c.args.version found.at found.record latest
    (elim c.if-at-candidate.branch [
      | then-at-candidate w ↦ at-version want c.args.finder.now c.args.candidate.now c.requires found.record found.at
          w.if-at-candidate.true c.at.ensures.ascending latest.0
      | else-at-candidate w ↦
          let print = w.print.ensures.print ∙ ap (λ (r : RecordTerm). r.print) w.deref.ensures in
          let holds = subst (λ p. IsTrue w.holds.result ↔ Holds p want) print w.holds.ensures.value in
          holds.0 (sym w.value-is ∙ c.if-holds.true)
    ])

pub returns-in_default-clause-found : goal.returns-in_default-clause-found
returns-in_default-clause-found g c =
    let want = c.args.want.now in
    let ks = chain_of c.args.finder.now c.args.candidate.now.id in
    let latest = found-is c.args.version ks c.at.result c.at.ensures.latest in
    elim c.in_default.branch [
      | in_default-via-in-Some-default-Some+else-holds w ↦
          let found = w.in-Some-default-Some in
          let here = subst (λ o. IsLatest c.args.version ks (Some (record { version = found.at; value = o })))
          found.field-0-1-is found.ensures.latest in
          not-found want ks c.args.version found.at found.record here
          (λ has. elim w.if-at-candidate.branch [
            | then-at-candidate v ↦
                true≢false (sym (eq-eqb found.at c.args.candidate.now.version v.if-at-candidate.true)
                ∙ (sym v.value-is ∙ w.if-holds.false))
            | else-at-candidate v ↦
                let print = v.print.ensures.print ∙ ap (λ (r : RecordTerm). r.print) v.deref.ensures in
                let holds = subst (λ p. IsTrue v.holds.result ↔ Holds p want) print v.holds.ensures.value in
                true≢false (sym (holds.1 has) ∙ (sym v.value-is ∙ w.if-holds.false))
          ])
      | in_default-via-in-Some+in_default w ↦
          none-found want ks c.args.version (kept_of c.at.result) (search rules) latest
      | in_default-via-in_default w ↦
          none-found want ks c.args.version (kept_of c.at.result)
          (ap (λ r. record_of (kept_of r)) w.in_default.is) latest
    ]
