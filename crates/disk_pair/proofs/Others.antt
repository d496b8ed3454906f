-- What the other disk has, as a call is made on it.
use Rattle.std.proofs.Common.{◌≡◌, ◌⊎◌, inl, inr, ◌∷◌, ◌++◌, ◌+◌, [], Bool, ℕ, List, Option, Some, None, refl, sym, ◌∙◌, subst, arith, length-append}
use Rattle.disk_edge.specs.Disk.{DiskModel, IfTold}
use Rattle.journal_core.proofs.FrontLaws.{begins_open}
use Rattle.journal_core.specs.Fronts.{IsOpen, IsShut}
use Rattle.journal_core.proofs.RecordLaws.{all_short}
use Rattle.journal_core.specs.Records.{IsShort}
use Rattle.compact_core.specs.Carrying.{Carrying}
use Rattle.compact_core.specs.Copies.{Copies}
use Rattle.disk_pair.specs.Pairs.{History, with_base, with_commit}
use Rattle.disk_pair.specs.Puts.{IsOther}
use Rattle.disk_pair.specs.Stands.{Beside, Carries}
use Rattle.disk_pair.specs.Term.{disk_of}
use Rattle.disk_pair.specs.declared.other.Other.{Other}
use Rattle.disk_pair.specs.declared.other.Other.TheVariants.{Idle, Copy}
use Rattle.disk_pair.proofs.Puts.{told_before}
use Rattle.disk_pair.proofs.Readings.{other_is, other_stays, shut_loses, was_other}

same_byte : (a b : ℕ) → a ∷ [] ≡ b ∷ [] → a ≡ b
same_byte a b is = cc is

module _ {D : Type 0} (model : DiskModel D) where
  -- the disk of a running copy is not open
  pub copies_shut : (carry : Carrying D) (base commits : List (List ℕ)) → Copies model carry base commits
      → (y : List ℕ) → model.images carry.disk y → IsOpen y → ⊥
  copies_shut carry base commits r y i is_open =
      r.shut (same_byte r.gate _ (sym (r.gathered.stands.each y i) ∙ begins_open y is_open))

  -- what an image of the other disk is
  pub other_shows : (second : Bool) (g : ℕ) (finish copy : Option History) (other : Other D)
      → Beside model second g finish copy other → (l : List ℕ) → model.content (disk_of other) ≡ Some l
      → (y : List ℕ) → model.images (disk_of other) y → IsOther second g finish y
  other_shows second g finish copy (Idle disk doubtful) h l told y i =
      other_is second g finish (model.images disk) (h.2 l told) y i
  other_shows second g finish copy (Copy carry) h l told y i =
      inr (shut_loses second g y (copies_shut carry h.1.0.base h.1.0.commits (h.1.2.copies l told) y i))

  -- an idle disk that was changed
  module _ (second : Bool) (g : ℕ) (finish : Option History) (old new : D) (doubtful : Bool)
      (h : Beside model second g finish None (Idle old doubtful))
      (untold : model.content old ≡ None → model.content new ≡ None) where
    before : (l : List ℕ) → model.content new ≡ Some l → (k : List ℕ) × (model.content old ≡ Some k)
    before = told_before (model.content old) (model.content new) untold

    pub was_idle : (l : List ℕ) → model.content new ≡ Some l → (y : List ℕ)
        → ((k : List ℕ) → model.content old ≡ Some k → IsOpen y → model.images old y) → IsOther second g finish y
    was_idle l told y was =
        let k = before l told in was_other second g finish (model.images old) (h.2 k.0 k.1) y (was k.0 k.1)

    pub idle_shut : IfTold (model.content old) (λ _. IsShut (model.images new)) → (flag : Bool)
        → Beside model second g None None (Idle new flag)
    idle_shut shut flag = (
      refl,
      λ _. refl,
      λ l told y i. let k = before l told in shut_loses second g y (shut k.0 k.1 y i),
    )

    pub idle_stays : ((c : List ℕ) → model.images old c → model.images new c)
        → IfTold (model.content old) (λ _. (c : List ℕ) → model.images new c → IsOpen c → model.images old c)
        → Beside model second g finish None (Idle new doubtful)
    idle_stays stays no_new = (
      refl,
      h.1,
      λ l told. let k = before l told in
          other_stays second g finish (model.images old) (model.images new) stays (no_new k.0 k.1) (h.2 k.0 k.1),
    )

    refused_by : (o : Option (List ℕ)) → model.content old ≡ o
        → IfTold (model.content old)
        (λ _. IsShut (model.images new) ⊎ ((c : List ℕ) → model.images old c → model.images new c))
        → IfTold (model.content old) (λ _. (c : List ℕ) → model.images new c → IsOpen c → model.images old c)
        → Beside model second g finish None (Idle new doubtful) ⊎ Beside model second g None None (Idle new doubtful)
    refused_by None is refused no_new = inl (
      refl,
      h.1,
      λ l told. let none = untold is in cc (none, told),
    )
    refused_by (Some k) is refused no_new = elim (refused k is) [
      | inl shut ↦ inr (idle_shut (λ _ _. shut) doubtful)
      | inr stays ↦ inl (idle_stays stays no_new)
    ]

    -- what a refused start leaves
    pub refused_start : IfTold (model.content old)
        (λ _. IsShut (model.images new) ⊎ ((c : List ℕ) → model.images old c → model.images new c))
        → IfTold (model.content old) (λ _. (c : List ℕ) → model.images new c → IsOpen c → model.images old c)
        → Beside model second g finish None (Idle new doubtful) ⊎ Beside model second g None None (Idle new doubtful)
    refused_start = refused_by (model.content old) refl

  -- a running copy that was changed
  module _ (g : ℕ) (old new : Carrying D) (h : History) (r : Carries model g old h)
      (untold : model.content old.disk ≡ None → model.content new.disk ≡ None)
      (header : new.header ≡ old.header) where
    carry_before : (l : List ℕ) → model.content new.disk ≡ Some l → (k : List ℕ) × (model.content old.disk ≡ Some k)
    carry_before = told_before (model.content old.disk) (model.content new.disk) untold

    pub carries_stood : new.bases ≡ old.bases
        → (Copies model old h.base h.commits → Copies model new h.base h.commits) → Carries model g new h
    carries_stood bases stays = record {
      header = header ∙ r.header;
      next = r.next;
      range = r.range;
      bases = bases ∙ r.bases;
      fit = r.fit;
      copies = λ l told. let k = carry_before l told in stays (r.copies k.0 k.1);
    }

    pub carries_commit : (payload : List ℕ) → new.bases ≡ old.bases
        → (Copies model old h.base h.commits → Copies model new h.base (h.commits ++ payload ∷ []))
        → Carries model g new (with_commit h payload)
    carries_commit payload bases goes = record {
      header = header ∙ r.header;
      next = r.next;
      range = r.range;
      bases = bases ∙ r.bases;
      fit = r.fit;
      copies = λ l told. let k = carry_before l told in goes (r.copies k.0 k.1);
    }

    pub carries_base : (payload : List ℕ) → h.commits ≡ [] → IsShort payload → new.bases ≡ old.bases + 1
        → (Copies model old h.base [] → Copies model new (h.base ++ payload ∷ []) [])
        → Carries model g new (with_base h payload)
    carries_base payload none few bases goes = record {
      header = header ∙ r.header;
      next = r.next;
      range = r.range;
      bases = omega (arith, bases, r.bases, length-append h.base (payload ∷ []));
      fit = all_short h.base payload r.fit few;
      copies = λ l told. let k = carry_before l told in
          subst (Copies model new (h.base ++ payload ∷ [])) (sym none)
          (goes (subst (Copies model old h.base) none (r.copies k.0 k.1)));
    }
