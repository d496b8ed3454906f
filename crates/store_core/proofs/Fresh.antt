-- A store without commits.
use Rattle.std.proofs.Common.{◌≡◌, ◌-◌, ◌≤◌, ◌∙◌, ap, arith, Bool, Contains, count_by, length, List, [], ◌∷◌, nat_cmp, None, Option, refl, Some, subst, suc, sym, take, zero, ℕ}
use Rattle.std.specs.FinMap.{empty as none, entries, get, get-empty, len-empty, len-entries}
use Rattle.snap_registry.specs.declared.Pin.{Pin}
use Rattle.store_machine.specs.History.{Snapshot, after_changes, begun, snapshot}
use Rattle.store_machine.specs.Laws.{IsSound}
use Rattle.store_machine.specs.declared.machine.Change.{Change}
use Rattle.store_machine.specs.declared.machine.Status.{Status}
use Rattle.store_core.specs.Stored.{IsAt, IsChain, alone, empty, served}
use Rattle.store_core.specs.Kept.{KeptTerm, Lists}
use Rattle.store_core.specs.Records.{RecordTerm}
use Rattle.store_core.proofs.OneCall.{at-alone}

none-taken : (v : ℕ) → snapshot begun v ≡ none
none-taken v = ap (λ cs. after_changes 0 cs none) (nothing (v - 0))
  where
    nothing : (v : ℕ) → take {A = Change} v [] ≡ []
    nothing zero = refl
    nothing (suc n) = refl

no-state : (v id : ℕ) (status : Status) → get (snapshot begun v) id ≡ Some status → ⊥
no-state v id status e = never status (sym (ap (λ m. get m id) (none-taken v) ∙ get-empty nat_cmp id) ∙ e)
  where
    never : (status : Status) → None ≡ Some status → ⊥
    never status q = cc

pub none-in : {X : Type 0} (x : X) → Contains [] x → ⊥
none-in x c = omega (arith, c.1)

pub no-entries : (es : List (ℕ × Status)) → length es ≡ 0 → es ≡ []
no-entries [] e = refl
no-entries (x ∷ xs) e = absurd (omega (arith, e))

empty-sound : (commits : ℕ) → IsSound (alone (served (empty commits)))
empty-sound commits = record {
  history = record {
    base = no-entries (entries none) (sym (len-entries none) ∙ len-empty nat_cmp Status);
    states = λ id status e. absurd (no-state 0 id status e);
    allowed = tt;
  };
  doubt = tt;
  slots = tt;
  pins = λ v c. absurd (none-in v c);
  bases = record { base = (omega arith, omega arith); copy = tt; finish = tt };
  kept = λ _ entry n. absurd (no-state n.at entry.id n.status n.state);
  made = λ _ entry k. absurd (none-in entry k);
}

pub none-counted : (p : Status → Bool) (es : List (ℕ × Status)) → length es ≡ 0 → 0 ≡ count_by (λ e. p e.1) es
none-counted p [] e = refl
none-counted p (x ∷ xs) e = absurd (omega (arith, e))

empty-chain : (commits id : ℕ) → IsChain (served (empty commits)) id []
empty-chain commits id =
    record {
      late = λ k c. absurd (none-in k c);
      states = λ k c. absurd (none-in k c);
      records = λ k c. absurd (none-in k c);
    }

pub empty-lists : Lists [] []
empty-lists = record {
  distinct = λ i j d less within. absurd (omega (arith, within));
  exactly = λ e. ((λ c. absurd (none-in e c)), (λ h. absurd (none-in h.0 h.1)));
  count = refl;
}

stands : (commits : ℕ) (reserved : Option RecordTerm) → commits ≤ 16777215
    → IsAt (record {
      kept = record { chains = []; reserved = reserved };
      pins = [];
      version = 0;
      limit = commits;
      live = 0;
      withdrawn = 0;
    }) (alone (served (empty commits)))
stands commits reserved few =
    let start : Snapshot = none in
    let size : length (entries start) ≡ 0 = sym (len-entries start) ∙ len-empty nat_cmp Status in
    at-alone _ (served (empty commits)) (record {
      sound = empty-sound commits;
      version = refl;
      limit = refl;
      most = few;
      within = omega arith;
      pins = refl;
      kept = empty-lists;
      few = omega arith;
      live = none-counted _ _ size;
      withdrawn = none-counted _ _ size;
      ids = omega arith;
      chains = λ id. empty-chain commits id;
    })

pub fresh-stands : (commits : ℕ) (kept : KeptTerm) (pins : List Pin) → commits ≤ 16777215 → kept.chains ≡ [] → pins ≡ []
    → IsAt (record { kept = kept; pins = pins; version = 0; limit = commits; live = 0; withdrawn = 0 })
    (alone (served (empty commits)))
fresh-stands commits kept pins few e f =
    subst (λ l. IsAt (record {
      kept = record { chains = l; reserved = kept.reserved };
      pins = pins;
      version = 0;
      limit = commits;
      live = 0;
      withdrawn = 0;
    }) (alone (served (empty commits)))) (sym e)
    (subst (λ l. IsAt (record {
      kept = record { chains = []; reserved = kept.reserved };
      pins = l;
      version = 0;
      limit = commits;
      live = 0;
      withdrawn = 0;
    }) (alone (served (empty commits)))) (sym f) (stands commits kept.reserved few))
