-- A finish of a running copy, by its answer.
use Rattle.std.proofs.Common.{◌≡◌, inl, inr, ◌<◌, Bool, true, ℕ, List, Some, None, refl, sym, ◌∙◌, ap, subst, arith}
use Rattle.disk_edge.specs.Disk.{DiskModel}
use Rattle.journal_core.specs.Fronts.{IsFront, front_of}
use Rattle.journal_core.specs.Records.{Opens}
use Rattle.journal_core.specs.declared.header.Header.{Header}
use Rattle.compact_core.specs.Carrying.{Carrying}
use Rattle.compact_core.specs.Copies.{Copies, InDoubt, IsCopyOrShut}
use Rattle.disk_pair.specs.Pairs.{History, OpensAs}
use Rattle.disk_pair.specs.Puts.{IsOther}
use Rattle.disk_pair.specs.Stands.{Beside, Carries}
use Rattle.disk_pair.specs.declared.other.Other.TheVariants.{Idle}
use Rattle.disk_pair.proofs.Puts.{told_before}
use Rattle.disk_pair.proofs.Readings.{shut_loses}

module _ {D : Type 0} (model : DiskModel D) (g : ℕ) (carry : Carrying D) (h : History)
    (r : Carries model g carry h) (whole : carry.bases ≡ carry.header.base_count) where
  pub copy_front : IsFront h.header h.base (front_of h.header h.base)
  copy_front = record {
    is = inr refl;
    count = ap (λ (k : Header). k.base_count) (sym r.header) ∙ sym whole ∙ r.bases;
    fit = r.fit;
    range = r.range;
  }

  newer : g < h.header.generation
  newer = omega (arith, r.next)

  opens_copy : (y : List ℕ) → Opens (front_of carry.header h.base) h.commits y → OpensAs h y
  opens_copy y opens = record {
    front = front_of h.header h.base;
    is = copy_front;
    opens = subst (λ (k : Header). Opens (front_of k h.base) h.commits y) r.header opens;
  }

  -- at a moment of the finish
  pub ending_shows : (second : Bool) (y : List ℕ) → IsCopyOrShut carry.header h.base h.commits y
      → IsOther second g (Some h) y
  ending_shows second y (inl opens) = inl (h, refl, newer, opens_copy y opens)
  ending_shows second y (inr closed) = inr (shut_loses second g y closed)

  module _ (after : D) (untold : model.content carry.disk ≡ None → model.content after ≡ None) where
    before : (l : List ℕ) → model.content after ≡ Some l → Copies model carry h.base h.commits
    before l told =
        let k = told_before (model.content carry.disk) (model.content after) untold l told in r.copies k.0 k.1

    pub ending_at : (second : Bool) (l : List ℕ) → model.content after ≡ Some l → (y : List ℕ)
        → (Copies model carry h.base h.commits → IsCopyOrShut carry.header h.base h.commits y)
        → IsOther second g (Some h) y
    ending_at second l told y is = ending_shows second y (is (before l told))

    pub doubt_has : (second : Bool)
        → (Copies model carry h.base h.commits → InDoubt (model.images after) carry.header h.base h.commits)
        → Beside model second g (Some h) None (Idle after true)
    doubt_has second in_doubt = (
      refl,
      λ e. cc e,
      λ l told. let doubt = in_doubt (before l told) in (
        newer,
        λ y i. elim (doubt.each y i) [
          | inl opens ↦ inl (opens_copy y opens)
          | inr closed ↦ inr (shut_loses second g y closed)
        ],
        (doubt.some.0, doubt.some.1, opens_copy doubt.some.0 doubt.some.2),
      ),
    )
