-- From an owner's calls to the steps of the run, and from the history at the Pin to that at the end.
use Rattle.std.proofs.Common.{◌≡◌, ◌≤◌, ◌∙◌, ap, arith, Bool, le_of_eq, List, ◌∷◌, refl, subst, sym, ℕ}
use Rattle.store_machine.specs.Answers.{AreFound}
use Rattle.store_machine.specs.ByCalls.{CallsGivePages, Pages}
use Rattle.store_machine.specs.History.{Snapshot, head, snapshot}
use Rattle.store_machine.specs.Laws.{IsSound, Searching}
use Rattle.store_machine.specs.Runs.{IsCalm, IsRun, calls_of}
use Rattle.store_machine.specs.Searches.{At, End, IsSearch, KeepsPin, Place, fetched, records_of}
use Rattle.store_machine.specs.Structures.{IsScreened}
use Rattle.store_machine.specs.declared.machine.Event.TheVariants.{Pin}
use Rattle.store_machine.specs.declared.machine.Found.{Found}
use Rattle.store_machine.specs.declared.machine.Reply.TheVariants.{Pinned}
use Rattle.store_machine.specs.declared.machine.State.{State}
use Rattle.store_machine.specs.declared.machine.Step.{Step}
use Rattle.store_machine.proofs.Cuts.{called}
use Rattle.store_machine.proofs.Finds.{AreMolecules, found-hits}
use Rattle.store_machine.proofs.Growing.{runs-grow}
use Rattle.store_machine.proofs.PagesRead.{snapshots-stay}
use Rattle.store_machine.proofs.Paging.{all-found, from-start, pages-are-a-prefix, pages-are-pieces, some-page}
use Rattle.store_machine.proofs.Picks.{found-tried}
use Rattle.store_machine.proofs.Sound.{runs-stay-sound}
use Rattle.store_machine.proofs.Told.{longer}

-- the pages of a search, at the states of its Pin and at the run's end
pages-at : AreMolecules → (s s' : State) (slot version from : ℕ) (want : List Bool) (place : Place)
    → (pin : Step) (back : List Step) (own : ℕ → Bool)
    → IsSound pin.before → head s.history ≤ head pin.before.history → from ≤ 1 → IsRun pin.before (pin ∷ back) s'
    → IsCalm (pin ∷ back)
    → Searching own pin back slot version want (At from) place → Pages s s' slot version want place (calls_of own back)
pages-at are s s' slot version from want place pin back own sound early le run calm c =
    let pages = fetched slot (calls_of own back) in
    let prefix = pages-are-a-prefix own pin back slot version want (At from) place c in
    let more = runs-grow pin.before s' (pin ∷ back) run calm in
    let old : version ≤ head pin.before.history = le_of_eq prefix.0 in
    let stays : snapshot pin.before.history version ≡ snapshot s'.history version = sym
    (ap (λ h. snapshot h version) more.1 ∙ snapshots-stay pin.before.history more.0 version old) in
    let back-then : (all : List Found) → AreFound (IsScreened want) (snapshot s'.history version) all
    → AreFound (IsScreened want) (snapshot pin.before.history version) all =
    λ all found. subst (λ (m : Snapshot). AreFound (IsScreened want) m all) (sym stays) found in
    let found : place ≡ End → AreFound (IsScreened want) (snapshot s'.history version) (records_of pages) =
    λ ended. subst (λ (m : Snapshot). AreFound (IsScreened want) m (records_of pages)) stays
    (all-found own pin back slot version from want sound.history le
    (subst (λ p. Searching own pin back slot version want (At from) p) ended c)) in
    record {
      not_before = omega (arith, early, prefix.0);
      not_after = omega (arith, prefix.0, longer pin.before s' (pin ∷ back) run calm);
      there = λ more.
          let some = some-page own pin back slot version want (At from) place c more in
          (some.0, subst (λ (m : Snapshot). AreFound (IsScreened want) m some.0) stays some.1);
      so_far = λ all f. prefix.1 all (back-then all f)
          ∙ from-start pin.before.history version from want all sound.history le (back-then all f);
      pieces = λ all size f sized. pages-are-pieces own pin back slot version from size want place sound.history le c
          sized all (back-then all f);
      found = found;
      tried = λ ended. found-tried want s'.history version (records_of pages) (found ended);
      hits = λ ended pattern hits screens matched.
          found-hits are pattern want s'.history version (records_of pages) hits
          screens (found ended) matched;
    }

pub calls-give-pages : AreMolecules → CallsGivePages
calls-give-pages are s s' steps own slot version from want place pages sound run calm le c =
    let p = called own s s' steps c.before (Pin, Pinned slot version) pages run calm c.own in
    let whole : IsRun p.step.before (p.step ∷ p.back) s' = (refl, p.is, p.from) in
    let searching : Searching own p.step p.back slot version want (At from) place = record {
      after = s';
      run = whole;
      calm = p.calm_from;
      takes = record { by = p.by; event = p.event; reply = p.reply };
      keeps = subst (KeepsPin slot) (sym p.last_calls) c.keeps;
      search = subst (λ l. IsSearch want (At from) (fetched slot l) place) (sym p.last_calls) c.search;
    } in
    subst (λ l. Pages s s' slot version want place l) p.last_calls
    (pages-at are s s' slot version from want place p.step p.back own
    (runs-stay-sound s p.step.before p.front p.to sound)
    (longer s p.step.before p.front p.to p.calm_to) le whole (p.calm, p.calm_from) searching)
