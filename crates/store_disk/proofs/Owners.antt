-- Whose the pins are makes no difference to what a store stands for.
use Rattle.std.proofs.Common.{◌≡◌, ◌∙◌, ap, subst, sym}
use Rattle.disk_edge.specs.Disk.{DiskModel}
use Rattle.disk_pair.specs.Stands.{StandsFor as StandsOnDisks}
use Rattle.disk_pair.specs.Term.{progress_of}
use Rattle.store_core.specs.Stored.{AsksNoOwner}
use Rattle.store_machine.specs.Owners.{SameButOwners, SoundnessAsksNoOwner}
use Rattle.store_machine.specs.declared.machine.State.{State}
use Rattle.store_disk.specs.OnDisk.{AreKnown, HasCopy, HasHeader, IfBothTold, StandsFor, StoreTerm, on_pair}

pub asks-no-owner : {D : Type 0} (model : DiskModel D) → AsksNoOwner → SoundnessAsksNoOwner
    → (store : StoreTerm D) (s t : State) → SameButOwners s t → StandsFor model store s → StandsFor model store t
asks-no-owner model memory sound store s t same h = record {
  memory = record {
    sound = sound s t same h.memory.sound;
    serves = ap (λ (x : State). x.serves) same.rest ∙ h.memory.serves;
    stands = (memory store.memory s t same).0 h.memory.stands;
  };
  header = subst (λ (x : State). store.pair.journal.header ≡ (on_pair x).now.header) (sym same.rest) h.header;
  pair = subst (λ (x : State). IfBothTold model store.pair (StandsOnDisks model store.pair (on_pair x)))
      (sym same.rest) h.pair;
  copy = subst (λ (x : State). HasCopy x.history x.copy store.copy) (sym same.rest) h.copy;
  copied = subst (λ (x : State). HasHeader x.generation x.history store.copy (progress_of store.pair.other))
      (sym same.rest) h.copied;
  doubts = subst (λ (x : State). AreKnown store.pair x.doubt x.finish) (sym same.rest) h.doubts;
  counts = ap (λ (x : State). x.faults) same.rest ∙ h.counts;
}
