-- A page is filled from one identifier to the next whose print holds what is wanted.
use Rattle.std.proofs.Common.{◌≡◌, ◌+◌, ◌++◌, ◌≤◌, ◌∙◌, ap, append_assoc, arith, Bool, Contains, false, length, List, [], ◌∷◌, None, Option, option_map, refl, Some, subst, sym, true, ℕ}
use Rattle.std.proofs.lemmas.List.{append-nil, map-append}
use Rattle.std.proofs.lemmas.Option.{same_Some}
use Rattle.std.specs.Arc.{arc_value}
use Rattle.record_versions.specs.Entries.{chain_of}
use Rattle.snap_registry.specs.declared.Pin.{Pin}
use Rattle.store_machine.specs.Answers.{AreFound, from_on}
use Rattle.store_machine.specs.History.{IsId, snapshot}
use Rattle.store_machine.specs.Laws.{KeptIsRead, StatesStay}
use Rattle.store_machine.specs.Machine.{IsPage}
use Rattle.store_machine.specs.Structures.{IsScreened}
use Rattle.store_machine.specs.declared.machine.Found.{Found}
use Rattle.store_machine.specs.declared.machine.State.{State}
use Rattle.store_core.specs.Kept.{HasPrint, IsEntryOf, IsFoundAt, IsNextId, record_of}
use Rattle.store_core.specs.Records.{RecordTerm, Shared, found_of, founds}
use Rattle.store_core.specs.Stored.{Served, StandsFor, StoreTerm, served}
use Rattle.store_core.proofs.Fetched.{below-all, found-all, held-kept, here, none-left, not-here, skip}
use Rattle.store_core.proofs.Found.{at-end, at-limit}
use Rattle.store_core.proofs.Screened.{OneStructure}
use Rattle.store_core.proofs.Sees.{own-record}
use Rattle.store_core.proofs.Stepped.{SoFar, one-step}

-- the page has what is found up to an identifier
abbrev pub GoesOn : StoreTerm → ℕ → List Bool → ℕ → ℕ → List Shared → Type 0
GoesOn store v want from place page = (s : State) → StandsFor store (served s) → (all : List Found)
    → AreFound (IsScreened want) (snapshot s.history v) all
    → from_on from all ≡ founds page ++ from_on place all

-- the same where the page has other references to the same records
pub goes-same : (store : StoreTerm) (v : ℕ) (want : List Bool) (from place : ℕ) (page new : List Shared)
    → founds new ≡ founds page → GoesOn store v want from place page → GoesOn store v want from place new
goes-same store v want from place page new same goes s h all found =
    goes s h all found ∙ ap (λ l. l ++ from_on place all) (sym same)

-- an entry that has a record is of an identifier in range
pub in-range : (want : List Bool) (id : ℕ) (entry : Option Shared) → IsEntryOf id entry → HasPrint want entry
    → id ≤ 999999999
in-range want id None own print = absurd print
in-range want id (Some r) own print = let most = own.0.id.1 in omega (arith, most, own.1)

-- the record of an entry, to which another reference was found
record Owned (want : List Bool) (o : Option Shared) (r : Shared) : Type 0 where
  own : Shared
  is : o ≡ Some own
  print : HasPrint want (Some own)
  value : arc_value own ≡ arc_value r

owned : (want : List Bool) (o : Option Shared) (r : Shared)
    → HasPrint want o × (option_map (λ (q : Shared). arc_value q) o ≡ Some (arc_value r)) → Owned want o r
owned want None r found = absurd found.0
owned want (Some q) r found = record {
  own = q;
  is = refl;
  print = found.0;
  value = same_Some (arc_value q) (arc_value r) found.1;
}

-- it is of an identifier in range
pub found-id : (store : StoreTerm) (s : Served) (h : StandsFor store s) (want : List Bool) (v id : ℕ) (r : Shared)
    → IsFoundAt v want (chain_of store.kept.chains id) (Some r) → IsId (arc_value r).id
found-id store s h want v id r found =
    let o = owned want (record_of found.latest) r found.is_found in
    subst (λ (x : RecordTerm). IsId x.id) o.value
    (own-record store s h id v found.latest o.own found.is_latest o.is).id

module _ (read : KeptIsRead) (stay : StatesStay) (one : OneStructure) (store : StoreTerm) (pin : Pin)
    (held : Contains store.pins pin) (want : List Bool) (from : ℕ) where
  abbrev Goes : ℕ → List Shared → Type 0
  Goes place page = GoesOn store pin.version want from place page

  abbrev Finds : ℕ → Option Shared → Type 0
  Finds id found = IsFoundAt pin.version want (chain_of store.kept.chains id) found

  -- the next identifier's record is found
  found-next : (place id : ℕ) (r : Shared) (page : List Shared) → Goes place page
      → IsNextId want place store.kept.chains (Some id) → Finds id (Some r)
      → (s : State) → StandsFor store (served s) → (all : List Found)
      → AreFound (IsScreened want) (snapshot s.history pin.version) all
      → from_on from all ≡ founds page ++ found_of (arc_value r) ∷ from_on (id + 1) all
  found-next place id r page goes next finds s h all found =
      let keeps = held-kept store s pin h held in
      let o = owned want (record_of finds.latest) r finds.is_found in
      goes s h all found ∙ ap (λ l. founds page ++ l)
      (skip read stay one store s pin.version h keeps want all found place id next.0 next.2
      ∙ (here read stay one store s pin.version h keeps want all found id finds.latest o.own finds.is_latest o.is
      o.print
      ∙ ap (λ x. found_of x ∷ from_on (id + 1) all) o.value))

  pub put-on : (place id : ℕ) (r : Shared) (page : List Shared) → Goes place page
      → IsNextId want place store.kept.chains (Some id) → Finds id (Some r) → Goes (id + 1) (page ++ r ∷ [])
  put-on place id r page goes next finds s h all found =
      found-next place id r page goes next finds s h all found
      ∙ (sym (append_assoc (founds page) (found_of (arc_value r) ∷ []) (from_on (id + 1) all))
      ∙ ap (λ l. l ++ from_on (id + 1) all) (sym (map-append (λ x. found_of (arc_value x)) page (r ∷ []))))

  -- it is passed by
  pub passed-by : (place id : ℕ) (page : List Shared) → Goes place page
      → IsNextId want place store.kept.chains (Some id) → Finds id None → Goes (id + 1) page
  passed-by place id page goes next finds s h all found =
      let keeps = held-kept store s pin h held in
      goes s h all found ∙ ap (λ l. founds page ++ l)
      (skip read stay one store s pin.version h keeps want all found place id next.0 next.2
      ∙ not-here read stay one store s pin.version h keeps want all found id finds.latest finds.is_latest
      finds.is_found)

  -- the page is full, and one more is found
  pub full-page : (place id limit : ℕ) (r : Shared) (page : List Shared) → Goes place page
      → IsNextId want place store.kept.chains (Some id) → Finds id (Some r) → length page ≡ limit
      → (s : State) → StandsFor store (served s)
      → IsPage (snapshot s.history pin.version) want from limit (founds page) false
  full-page place id limit r page goes next finds full s h =
      let keeps = held-kept store s pin h held in
      let all = found-all read stay one store s pin.version h keeps want 1000000000
      (below-all read stay one store s pin.version h keeps want) in
      let is = at-limit page limit (from_on from all.0) (from_on (id + 1) all.0) (found_of (arc_value r)) full
      (found-next place id r page goes next finds s h all.0 all.1) in
      record { all = all.0; found = all.1; first = is.0; end = is.1 }

  -- nothing is left
  pub last-page : (place limit : ℕ) (page : List Shared) → Goes place page → IsNextId want place store.kept.chains None
      → length page ≤ limit → (s : State) → StandsFor store (served s)
      → IsPage (snapshot s.history pin.version) want from limit (founds page) true
  last-page place limit page goes none few s h =
      let keeps = held-kept store s pin h held in
      let all = found-all read stay one store s pin.version h keeps want 1000000000
      (below-all read stay one store s pin.version h keeps want) in
      let is = at-end page limit (from_on from all.0) few
      (goes s h all.0 all.1 ∙ (ap (λ l. founds page ++ l)
      (none-left read stay one store s pin.version h keeps want all.0 all.1 place none) ∙ append-nil (founds page))) in
      record { all = all.0; found = all.1; first = is.0; end = is.1 }

  -- a step was taken for it
  pub step-more : (place id old now next : ℕ) → from ≤ place → IsNextId want place store.kept.chains (Some id)
      → next ≡ now + 1 → ((s : State) → StandsFor store (served s) → SoFar s from place want old now)
      → (s : State) → StandsFor store (served s) → SoFar s from (id + 1) want old next
  step-more place id old now next low (up, (k, c, print), least) is taken s h =
      one-step one store s want from place id old now next k h low up c print is (taken s h)
