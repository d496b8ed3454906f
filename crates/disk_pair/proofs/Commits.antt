-- A commit on two disks, by its answer.
use Rattle.std.proofs.Common.{◌≡◌, ◌⊎◌, inl, inr, Bool, ℕ, List, Option, Some, None, refl, sym, subst, ◌<◌}
use Rattle.disk_edge.specs.Disk.{DiskModel}
use Rattle.journal_core.specs.Fronts.{IsFront}
use Rattle.journal_core.specs.Records.{Opens}
use Rattle.journal_core.specs.Standing.{Standing}
use Rattle.disk_pair.specs.Pairs.{History, Loses, MayShow, OpensAs, State, with_commit}
use Rattle.disk_pair.specs.Puts.{IsOther, ShowsDoubt, ShowsOne}
use Rattle.disk_pair.specs.Stands.{Has}
use Rattle.disk_pair.proofs.Readings.{Shows, reads_copy, reads_current}

pub opens_as : (h : History) (front : List ℕ) → IsFront h.header h.base front → (x : List ℕ) → Opens front h.commits x
    → OpensAs h x
opens_as h front is x opens = record { front = front; is = is; opens = opens }

-- one of the current disk's histories beside any image of the other
beside : (second : Bool) (s : State) (h : History) (x y : List ℕ) (Also : History → Type 0)
    → h.header.generation ≡ s.now.header.generation → OpensAs h x → MayShow s h ⊎ Also h
    → IsOther second s.now.header.generation s.finish y
    → (k : History) × (MayShow s k ⊎ Also k) × Shows second k x y
beside second s h x y Also same opens may (inl copy) = (
  copy.0,
  inl (inr (inr copy.1)),
  reads_copy second h copy.0 x y opens copy.3 (subst (λ (g : ℕ). g < copy.0.header.generation) (sym same) copy.2),
)
beside second s h x y Also same opens may (inr loses) = (
  h,
  may,
  reads_current second h x y opens (subst (λ (g : ℕ). Loses second g y) (sym same) loses),
)

pub shows_doubt : (second : Bool) (s : State) (front : List ℕ) → IsFront s.now.header s.now.base front
    → (x y : List ℕ) (Also : History → Type 0) → ShowsDoubt front s.now.commits s.commit x
    → IsOther second s.now.header.generation s.finish y
    → (k : History) × (MayShow s k ⊎ Also k) × Shows second k x y
shows_doubt second s front is x y Also (inl now) other =
    beside second s s.now x y Also refl (opens_as s.now front is x now) (inl (inl refl)) other
shows_doubt second s front is x y Also (inr doubt) other =
    beside second s (with_commit s.now doubt.0) x y Also refl
    (opens_as (with_commit s.now doubt.0) front is x doubt.2) (inl (inr (inl (doubt.0, doubt.1, refl)))) other

pub shows_one : (second : Bool) (s : State) (front : List ℕ) → IsFront s.now.header s.now.base front
    → (payload x y : List ℕ) → ShowsOne front s.now.commits s.commit payload x
    → IsOther second s.now.header.generation s.finish y
    → (k : History) × (MayShow s k ⊎ (k ≡ with_commit s.now payload)) × Shows second k x y
shows_one second s front is payload x y (inl older) other =
    shows_doubt second s front is x y (λ (k : History). k ≡ with_commit s.now payload) older other
shows_one second s front is payload x y (inr newer) other =
    beside second s (with_commit s.now payload) x y (λ (k : History). k ≡ with_commit s.now payload) refl
    (opens_as (with_commit s.now payload) front is x newer) (inr refl) other

-- what an image of the journal's disk shows
pub has_shows : {D : Type 0} (model : DiskModel D) (journal : Standing D) (front : List ℕ) (ps : List (List ℕ))
    (doubt : Option (List ℕ)) → Has model journal front ps doubt → (l : List ℕ) → model.content journal.disk ≡ Some l
    → (x : List ℕ) → model.images journal.disk x → ShowsDoubt front ps doubt x
has_shows model journal front ps None h l told x i = inl ((h.1 l told).each x i)
has_shows model journal front ps (Some p) h l told x i = elim ((h.1 l told).each x i) [
  | inl before ↦ inl before
  | inr after ↦ inr (p, refl, after)
]
