use Rattle.std.proofs.Common.{◌∙◌, None, Option, Some, subst, sym}
use Rattle.std.specs.FinMap.{entries}
use Rattle.record_versions.specs.Readings.{IsFirstAt}
use Rattle.store_machine.specs.History.{snapshot}
use Rattle.store_core.specs.Copied.{FirstFrom}
use Rattle.store_core.specs.Kept.{Kept, status_in}
use Rattle.store_core.specs.Records.{Shared}
use Rattle.store_core.proofs.Firsts.{has-one, in-range, none-first, one-first}
use Rattle.store_core.proofs.states.States.next.Goals as goal

pub returns-in_err-id-clause-next : goal.returns-in_err-id-clause-next
returns-in_err-id-clause-next c =
    let law = c.laws.ensures in
    let store = c.self.inside.store.now in
    rw (c.from_residual.ensures, sym c.self.view_is)
    (λ version from at.
    let none = subst (λ v. IsFirstAt v from store.kept.chains None) at.0
    (c.in_err-id.ensures.first from store.kept.chains at.1) in
    record {
      first = λ s h keeps. none-first law.read law.states store version from s h keeps none;
      in_range = λ s h. tt;
      goes_on = tt;
    })

pub returns-clause-next : goal.returns-clause-next
returns-clause-next c =
    let law = c.laws.ensures in
    let store = c.self.inside.store.now in
    let found = c.in_ok-id in
    let k : Kept = record { version = found.made_at; value = found.entry.now } in
    rw (sym c.self.view_is)
    (λ version from at.
    let first = subst (λ v. IsFirstAt v from store.kept.chains (Some (found.id, k))) at.0
    (found.ensures.first from store.kept.chains at.1) in
    record {
      first = λ s h keeps. subst (λ (o : Option Shared). FirstFrom from (entries (snapshot s.history version))
          (found.id, status_in found.made_at o)) (sym c.as_ref.ensures.value)
          (one-first law.read law.states store version from s h keeps found.id k first);
      in_range = λ s h. in-range law.states store s found.id h (has-one version found.id store.kept.chains k first.1);
      goes_on = (found.ensures.version ∙ at.0, found.ensures.ahead from store.kept.chains at.1);
    })
