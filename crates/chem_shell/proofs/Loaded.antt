-- A session over a store that was loaded: what the disks then have.
use Rattle.std.proofs.Common.{◌≡◌, ◌∙◌, ℕ, [], refl, subst, sym, ap, append-nil, arith, true}
use Rattle.disk_edge.specs.Disk.{DiskModel}
use Rattle.disk_pair.specs.Term.{OfEachPair, Paired, disk_a, disk_b}
use Rattle.journal_core.specs.Looks.{Narrows}
use Rattle.session_acts.specs.Cursors.{Calls}
use Rattle.session_acts.specs.Truths.{IsInRun}
use Rattle.store_core.specs.Calls as core
use Rattle.store_disk.specs.Loads.{OpensAfter, OpensTo}
use Rattle.store_disk.specs.OnDisk.{StandsFor, StoreTerm}
use Rattle.store_disk.specs.Stored.{Stretches, times}
use Rattle.store_disk.specs.declared.disks.Disks.{Disks}
use Rattle.store_machine.specs.Laws.{RunsStaySound}
use Rattle.store_machine.specs.Openings.{IsOpened}
use Rattle.store_machine.specs.Rebases.{RebasesGrow}
use Rattle.store_machine.specs.Told.{RunsAdd}
use Rattle.store_machine.specs.declared.machine.Faults.{Faults}
use Rattle.store_machine.specs.declared.machine.State.{State}
use Rattle.chem_shell.specs.Contents.{IfBothTell}
use Rattle.chem_shell.specs.OnDisks.{AreOnDisks}
use Rattle.chem_shell.proofs.Crashes.{shows}

pub in_run : {D : Type 0} (model : DiskModel D) (s : State) (old new : StoreTerm D) (calls : Calls)
    → (made : core.Calls (Stretches model) (λ _. true) old new s calls) → IsInRun calls made.after.history
in_run model s old new calls made = record {
  before = s;
  after = made.after;
  steps = made.steps;
  own = λ _. true;
  more = [];
  sound = made.stands.begins.memory.sound;
  run = made.stands.run;
  calm = made.stands.calm;
  made = made.own ∙ sym (append-nil calls);
  is = refl;
}

-- the two disks of a pair
abbrev pub disks_in : {D : Type 0} → Paired D → Disks D
disks_in pair = record { a = disk_a pair; b = disk_b pair }

pub same_disks : {D : Type 0} (disks : Disks D) (pair : Paired D) → disks.a ≡ disk_a pair → disks.b ≡ disk_b pair
    → disks ≡ disks_in pair
same_disks disks pair a b = λ i. record { a = a i; b = b i }

module _ (adds : RunsAdd) (stay : RunsStaySound) (grow : RebasesGrow) {D : Type 0} (model : DiskModel D)
    (commits : ℕ) (disks : Disks D) (s : State) (old new : StoreTerm D)
    (standing : (t : State) → StandsFor model new t → OfEachPair model new.pair (OpensAfter t))
    (stands : StandsFor model old s) (opened : IsOpened commits s)
    (opens : IfBothTell model disks (OpensTo s.history s.generation)) (read_a : Narrows model disks.a (disk_a old.pair))
    (read_b : Narrows model disks.b (disk_b old.pair)) where
  -- what calls leave of the disks
  on_disks : (calls : Calls) → (made : core.Calls (Stretches model) (λ _. true) old new s calls)
      → (on : AreOnDisks model commits disks (disks_in new.pair) calls) × (on.last ≡ made.after)
      × (on.steps ≡ made.steps)
  on_disks calls made = (
    record {
      first = s;
      steps = made.steps;
      last = made.after;
      opened = opened;
      sound = stands.memory.sound;
      opens = opens;
      run = made.stands.run;
      calm = made.stands.calm;
      all = made.own;
      loaded = times model old;
      ended = times model new;
      later = (read_a.past.later, read_b.past.later);
      clocked = made.stands.clocked;
      now = refl;
      loading_a = λ image i. read_a.moments image (made.stands.past_a.no_more (model.clock disks.a)
          (model.clock (disk_a old.pair)) image (omega arith) i);
      loading_b = λ image i. read_b.moments image (made.stands.past_b.no_more (model.clock disks.b)
          (model.clock (disk_b old.pair)) image (omega arith) i);
      moments = λ l is m it before after x p q at i j. shows adds stay grow model new.pair s made.after made.steps
          before after x p q stands.memory.sound made.stands.run made.stands.calm (made.stands.moments l is m it) at i
          j;
      left = standing made.after made.stands.ends;
      causes = made.stands.causes;
      begins = (
        omega (arith, read_a.count.count, ap (λ (f : Faults). f.a) stands.counts),
        omega (arith, read_b.count.count, ap (λ (f : Faults). f.b) stands.counts),
      );
      ends = made.stands.ends.counts;
    },
    refl,
    refl,
  )

  -- of disks that are the store's
  pub on_these_disks : (calls : Calls) (now : Disks D) → now.a ≡ disk_a new.pair → now.b ≡ disk_b new.pair
      → (made : core.Calls (Stretches model) (λ _. true) old new s calls)
      → (on : AreOnDisks model commits disks now calls) × (on.last ≡ made.after) × (on.steps ≡ made.steps)
  on_these_disks calls now a b made =
      subst (λ x. (on : AreOnDisks model commits disks x calls) × (on.last ≡ made.after) × (on.steps ≡ made.steps))
      (sym (same_disks now new.pair a b)) (on_disks calls made)
