-- A copy takes its next item.
use Rattle.std.proofs.Common.{◌≡◌, ◌⊎◌, ◌-◌, ◌∙◌, ap, arith, false, inl, None, Option, option_map, refl, Some, subst, sym}
use Rattle.disk_edge.specs.Disk as disk
use Rattle.disk_edge.specs.Disk.{DiskModel}
use Rattle.disk_pair.specs.Pairs.{History as Written}
use Rattle.disk_pair.specs.Stands.{StandsFor as StandsOnDisks}
use Rattle.disk_pair.specs.Term.{Goes, Paired, disk_a, disk_b, progress_of}
use Rattle.store_machine.specs.Laws.{RunsStaySound}
use Rattle.store_machine.specs.Machine.{CompactGives, TakesSome}
use Rattle.store_machine.specs.Rebases.{RebasesKeepHeads}
use Rattle.store_machine.specs.declared.machine.Copying.{Copying}
use Rattle.store_machine.specs.declared.machine.Event.TheVariants.{Compact}
use Rattle.store_machine.specs.declared.machine.Reply.{Reply}
use Rattle.store_machine.specs.declared.machine.Reply.TheVariants.{DiskFault, NoMemory}
use Rattle.store_machine.specs.declared.machine.State.{State}
use Rattle.store_disk.specs.Items.{counted, one_less, with_next}
use Rattle.store_disk.specs.OnDisk.{CopyTerm, HasCopy, HasHeader, IfBothTold, Lacks, StandsFor, StoreTerm, copy_so_far, on_pair}
use Rattle.store_disk.proofs.Compacts.{gives-of, some-rose, stood}
use Rattle.store_disk.proofs.Doubts.{running-known}
use Rattle.store_disk.proofs.Items.{less}
use Rattle.store_disk.proofs.Lifts.{sound-after}
use Rattle.store_disk.proofs.Finishes.{takes-none}

-- one item less is left
pub takes-one : (copy : Option Copying) → TakesSome copy (less copy)
takes-one None = refl
takes-one (Some copy) = (copy.left - 1, refl, omega arith, omega arith)

module _ {D : Type 0} (model : DiskModel D) (law : RunsStaySound) (heads : RebasesKeepHeads) (store : StoreTerm D)
    (s : State) (h : StandsFor model store s) (pair : Paired D)
    (goes_a : Goes model (disk_a store.pair) (disk_a pair)) (goes_b : Goes model (disk_b store.pair) (disk_b pair))
    (same : pair.journal ≡ store.pair.journal) (c : CopyTerm) (l : Lacks s.history s.copy c)
    (runs : HasHeader s.generation s.history (Some c) (progress_of store.pair.other)) where
  abbrev new : Option CopyTerm → StoreTerm D
  new copy = record { memory = store.memory; pair = pair; copy = copy }

  -- a state that differs in the copy alone
  abbrev with : Option Copying → State
  with copy = counted model pair (record s { copy = copy })

  stands : (after : Option Copying) (copy : Option CopyTerm) (r : Reply) → CompactGives s r (with after)
      → HasCopy s.history after copy → HasHeader s.generation s.history copy (progress_of pair.other)
      → IfBothTold model pair (StandsOnDisks model pair
      (record (on_pair s) { copy = option_map (copy_so_far s) after }))
      → StandsFor model (new copy) (with after)
  stands after copy r row has header disks = record {
    memory = record {
      sound = sound-after law s (with after) 0 Compact r
          (gives-of model law heads store s h (new copy) goes_a goes_b (with after) r refl row) h.memory.sound;
      serves = h.memory.serves;
      stands = h.memory.stands;
    };
    header = ap (λ j. j.header) same ∙ h.header;
    pair = disks;
    copy = has;
    copied = header;
    doubts = running-known store.pair pair s.generation s.history c s.doubt s.finish runs (ap (λ j. j.doubt) same)
        h.doubts;
    counts = refl;
  }

  pub taken : (next : CopyTerm) → Lacks s.history (one_less s).copy next
      → HasHeader s.generation s.history (Some next) (progress_of pair.other)
      → (StandsOnDisks model store.pair (on_pair s)
      → StandsOnDisks model pair (record (on_pair s) { copy = Some (with_next s c) }))
      → StandsFor model (new (Some next)) (counted model pair (one_less s))
  taken next has header disks =
      stands (less s.copy) (Some next) NoMemory (takes-one s.copy, inl refl, refl) has header
      (stood model law heads store s h (new (Some next)) goes_a goes_b (λ it. subst (λ (o : Option Written).
      StandsOnDisks model pair (record (on_pair s) { copy = o }))
      (sym (ap (λ (o : Option Copying). option_map (copy_so_far s) (less o)) l.is)) (disks it)))

  pub given-up : disk.Faulted model (disk_a store.pair) (disk_a pair)
      ⊎ disk.Faulted model (disk_b store.pair) (disk_b pair)
      → (StandsOnDisks model store.pair (on_pair s) → StandsOnDisks model pair (record (on_pair s) { copy = None }))
      → StandsFor model (new None) (counted model pair (record s { copy = None }))
  given-up failed disks =
      stands None None (DiskFault false)
      (some-rose model law heads store s h (new None) goes_a goes_b failed, (λ none. cc (none, l.is), inl refl, refl))
      refl tt
      (stood model law heads store s h (new None) goes_a goes_b disks)

  pub untaken : (copy : Option CopyTerm) → HasCopy s.history s.copy copy
      → HasHeader s.generation s.history copy (progress_of pair.other)
      → (StandsOnDisks model store.pair (on_pair s) → StandsOnDisks model pair (on_pair s))
      → StandsFor model (new copy) (counted model pair s)
  untaken copy has header disks =
      stands s.copy copy NoMemory (takes-none s.copy, inl refl, refl) has header
      (stood model law heads store s h (new copy) goes_a goes_b disks)
