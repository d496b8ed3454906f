-- The state of an empty store is sound.
use Rattle.std.proofs.Common.{◌≡◌, ◌-◌, ◌∙◌, ap, arith, Contains, length, List, [], ◌∷◌, nat_cmp, None, refl, Some, suc, sym, take, zero, ℕ}
use Rattle.std.specs.FinMap.{empty as none, entries, get, get-empty, len-empty, len-entries}
use Rattle.store_machine.specs.History.{after_changes, begun, snapshot}
use Rattle.store_machine.specs.Laws.{IsSound}
use Rattle.store_machine.specs.declared.machine.Change.{Change}
use Rattle.store_machine.specs.declared.machine.Status.{Status}
use Rattle.store_core.specs.Stored.{empty}

no-state : (v id : ℕ) (status : Status) → get (snapshot begun v) id ≡ Some status → ⊥
no-state v id status e = never status (sym (ap (λ m. get m id) none-taken ∙ get-empty nat_cmp id) ∙ e)
  where
    nothing : (v : ℕ) → take {A = Change} v [] ≡ []
    nothing zero = refl
    nothing (suc n) = refl

    none-taken : snapshot begun v ≡ none
    none-taken = ap (λ cs. after_changes 0 cs none) (nothing (v - 0))

    never : (status : Status) → None ≡ Some status → ⊥
    never status q = cc

none-in : {X : Type 0} (x : X) → Contains [] x → ⊥
none-in x c = omega (arith, c.1)

no-entries : (es : List (ℕ × Status)) → length es ≡ 0 → es ≡ []
no-entries [] e = refl
no-entries (x ∷ xs) e = absurd (omega (arith, e))

pub empty-sound : (commits : ℕ) → IsSound (empty commits)
empty-sound commits = record {
  history = record {
    base = no-entries (entries none) (sym (len-entries none) ∙ len-empty nat_cmp Status);
    states = λ id status e. absurd (no-state 0 id status e);
    allowed = tt;
  };
  doubt = tt;
  slots = tt;
  pins = λ v c. absurd (none-in v c);
  bases = record { base = (omega arith, omega arith); copy = tt; finish = tt };
  kept = λ _ entry n. absurd (no-state n.at entry.id n.status n.state);
  made = λ _ entry k. absurd (none-in entry k);
}
