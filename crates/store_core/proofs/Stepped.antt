-- A fetch takes a step for each identifier that has an entry whose print holds what is wanted.
use Rattle.std.proofs.Common.{◌≡◌, ◌≢◌, ◌+◌, ◌<◌, ◌≤◌, All, arith, Bool, Contains, List, [], ◌∷◌, None, Option, Some, ℕ}
use Rattle.std.proofs.lemmas.List.Elements.{All-cons, All-nil, All-weaker}
use Rattle.std.proofs.lemmas.List.Kept.{AllPairs-cons}
use Rattle.std.specs.Arc.{arc_value}
use Rattle.record_versions.specs.Entries.{chain_of}
use Rattle.store_machine.specs.Answers.{IsAnswer}
use Rattle.store_machine.specs.Structures.{IsScreened}
use Rattle.store_machine.specs.declared.machine.Entry.{Entry}
use Rattle.store_machine.specs.declared.machine.State.{State}
use Rattle.store_core.specs.Kept.{HasPrint, IsEntryOf, Kept}
use Rattle.store_core.specs.Records.{Shared}
use Rattle.store_core.specs.Steps.{AreSteps}
use Rattle.store_core.specs.Stored.{StandsFor, StoreTerm, served}
use Rattle.store_core.proofs.Screened.{OneStructure, screened}
use Rattle.store_core.proofs.Sees.{kept-in}

-- the steps up to an identifier
pub record SoFar (s : State) (from place : ℕ) (want : List Bool) (old new : ℕ) : Type 0 where
  pub steps : AreSteps s from want old new
  pub below : All (λ (e : Entry). e.id < place) steps.entries

pub no-steps : (s : State) (from n : ℕ) (want : List Bool) → SoFar s from from want n n
no-steps s from n want = record {
  steps = record {
    entries = [];
    count = omega arith;
    apart = λ i j d less within. absurd (omega (arith, within));
    each = All-nil _;
  };
  below = All-nil _;
}

answer : OneStructure → (store : StoreTerm) (s : State) (want : List Bool) (id version : ℕ) (entry : Option Shared)
    → StandsFor store (served s)
    → Contains (chain_of store.kept.chains id) (record { version = version; value = entry })
    → HasPrint want entry → IsAnswer (IsScreened want) s.history version id
answer one store s want id version None h c print = absurd print
answer one store s want id version (Some r) h c print =
    let k : Kept = record { version = version; value = Some r } in
    let x = arc_value r in
    let own : IsEntryOf id (Some r) = (h.chains id).records k c in record {
      version = version;
      format = x.format;
      text = x.text;
      state = (h.chains id).states k c;
      asked = (screened one x.format x.text x.mol x.print want own.0.structure own.0.print).0 print;
    }

pub one-step : OneStructure → (store : StoreTerm) (s : State) (want : List Bool) (from place id old new next : ℕ)
    (k : Kept)
    → StandsFor store (served s) → from ≤ place → place ≤ id → Contains (chain_of store.kept.chains id) k
    → HasPrint want k.value → next ≡ new + 1 → SoFar s from place want old new → SoFar s from (id + 1) want old next
one-step one store s want from place id old new next k h low up c print is so =
    let x : Entry = record { id = id; version = k.version } in
    let es = so.steps.entries in
    let first : (from ≤ id) × Contains s.kept x × IsAnswer (IsScreened want) s.history k.version id = (
      omega (arith, low, up),
      kept-in store (served s) h id k c,
      answer one store s want id k.version k.value h c print,
    ) in
    record {
      steps = record {
        entries = x ∷ es;
        count = omega (arith, is, so.steps.count);
        apart = AllPairs-cons (λ (a b : Entry). a.id ≢ b.id) x es
            (All-weaker (λ (e : Entry). e.id < place) (λ (e : Entry). x.id ≢ e.id)
            (λ e below same. omega (arith, below, up, same)) es so.below) so.steps.apart;
        each = All-cons (λ e. (from ≤ e.id) × Contains s.kept e
            × IsAnswer (IsScreened want) s.history e.version e.id) x es
            first so.steps.each;
      };
      below = All-cons (λ (e : Entry). e.id < id + 1) x es (omega arith)
          (All-weaker (λ (e : Entry). e.id < place) (λ (e : Entry). e.id < id + 1)
          (λ e below. omega (arith, below, up)) es so.below);
    }
