-- What is in doubt is known, also over disks that tell no content.
use Rattle.std.proofs.Common.{◌≡◌, Bool, false, is_some, List, None, Option, option_map, refl, Some, sym, ◌∙◌, true, ℕ}
use Rattle.std.proofs.lemmas.Bool.{true≢false}
use Rattle.disk_edge.specs.Disk.{DiskModel}
use Rattle.disk_pair.specs.Pairs.{History as Written}
use Rattle.disk_pair.specs.Stands.{Beside, Has, StandsFor as StandsOnDisks}
use Rattle.disk_pair.specs.Term.{Paired, is_doubtful, progress_of}
use Rattle.disk_pair.specs.declared.other.Other.{Other}
use Rattle.disk_pair.specs.declared.other.Other.TheVariants.{Copy, Idle}
use Rattle.journal_core.specs.Standing.{Standing}
use Rattle.store_machine.specs.declared.machine.Change.{Change}
use Rattle.store_machine.specs.declared.machine.History.{History}
use Rattle.store_machine.specs.declared.machine.State.{State}
use Rattle.store_disk.specs.OnDisk.{AreKnown, CopyTerm, HasHeader, on_pair, whole_copy}
use Rattle.store_disk.specs.Payloads.{payload}

not-true : {X : Type 0} → false ≡ true → X
not-true e = absurd (true≢false (sym e))

-- no finish is in doubt
pub no-finish : {D : Type 0} (pair : Paired D) (doubt : Option Change) → pair.journal.doubt ≡ is_some doubt
    → AreKnown pair doubt None
no-finish pair doubt is = record { commit = is; other = λ e. not-true e }

mapped-none : {A B : Type 0} {X : Type 0} (f : A → B) (o : Option A) → option_map f o ≡ None → is_some o ≡ true → X
mapped-none f None e some = not-true some
mapped-none f (Some x) e some = absurd (cc e)

commit-known : {D : Type 0} (model : DiskModel D) (journal : Standing D) (front : List ℕ) (ps : List (List ℕ))
    (f : Change → List ℕ) (doubt : Option Change) → Has model journal front ps (option_map f doubt)
    → journal.doubt ≡ is_some doubt
commit-known model journal front ps f None has = has.0
commit-known model journal front ps f (Some c) has = has.0

finish-known : {D : Type 0} (model : DiskModel D) (second : Bool) (g : ℕ) (f : ℕ → Written) (finish : Option ℕ)
    (copy : Option Written) (other : Other D) → Beside model second g (option_map f finish) copy other
    → is_some finish ≡ true → is_doubtful other ≡ true
finish-known model second g f finish copy (Idle disk true) beside some = refl
finish-known model second g f finish copy (Idle disk false) beside some = mapped-none f finish (beside.1 refl) some
finish-known model second g f finish copy (Copy carry) beside some = mapped-none f finish beside.0 some

-- two disks that tell their contents
pub told-known : {D : Type 0} (model : DiskModel D) (pair : Paired D) (t : State) → StandsOnDisks model pair (on_pair t)
    → AreKnown pair t.doubt t.finish
told-known model pair t it = record {
  commit = commit-known model pair.journal it.front (on_pair t).now.commits payload t.doubt it.journal;
  other = finish-known model pair.second (on_pair t).now.header.generation (whole_copy t) t.finish (on_pair t).copy
      pair.other it.other;
}

-- beside a running copy no finish is in doubt
pub running-known : {D : Type 0} (old new : Paired D) (g : ℕ) (h : History) (c : CopyTerm) (doubt : Option Change)
    (finish : Option ℕ) → HasHeader g h (Some c) (progress_of old.other) → new.journal.doubt ≡ old.journal.doubt
    → AreKnown old doubt finish → AreKnown new doubt finish
running-known {D = D} old new g h c doubt finish header same known = record {
  commit = same ∙ known.commit;
  other = λ some. not-true (go old.other header (known.other some));
}
  where
    go : (other : Other D) → HasHeader g h (Some c) (progress_of other) → is_doubtful other ≡ true → false ≡ true
    go (Idle disk doubtful) none is = absurd none
    go (Copy carry) header is = is
