-- A store that was loaded, whichever of its disks is read.
use Rattle.std.proofs.Common.{◌≡◌, ◌⊎◌, ◌≤◌, ◌∙◌, ap, arith, Bool, false, inl, inr, List, None, refl, Some, subst, sym, true, ℕ}
use Rattle.disk_edge.specs.Disk.{DiskModel, IfTold}
use Rattle.disk_pair.specs.Choices.{IsRead}
use Rattle.disk_pair.specs.Pairs.{Picks}
use Rattle.disk_pair.specs.Stands.{OtherHas, StandsFor as StandsOnDisks}
use Rattle.disk_pair.specs.Term.{Paired, disk_a, disk_b, first_of}
use Rattle.disk_pair.specs.declared.other.Other.TheVariants.{Idle}
use Rattle.journal_core.proofs.LookLaws.{narrows_twice}
use Rattle.journal_core.specs.Looks.{Looks, Narrows}
use Rattle.journal_core.specs.Standing.{Standing}
use Rattle.store_core.specs.Stored.{StoreTerm as Memory}
use Rattle.store_machine.specs.Machine.{on_disk}
use Rattle.store_machine.specs.Openings.{IsOpened}
use Rattle.store_machine.specs.Rebases.{RebasesStay}
use Rattle.store_machine.specs.declared.machine.History.{History}
use Rattle.store_machine.specs.declared.machine.State.{State}
use Rattle.store_disk.specs.Loads.{Damages, DamagesDisk, OpensTo}
use Rattle.store_disk.specs.OnDisk.{IfBothTold, StandsFor, on_pair}
use Rattle.store_disk.specs.Payloads.{history_of}
use Rattle.store_disk.specs.Replays.{IsLoaded}
use Rattle.store_disk.proofs.Doubts.{no-finish}
use Rattle.store_disk.proofs.Opened.{at-rest, needed-rested, rested}

-- what is read of two, and what is not
pub picks-by : (second : Bool) (x y : List ℕ) → IsRead second x y → Picks x y (first_of second x y)
picks-by false x y read = inl (read, refl)
picks-by true x y read = inr (read, refl)

module _ {D : Type 0} (model : DiskModel D) (a b : D) (second : Bool) (current other : D)
    (narrows_a : Narrows model a (first_of second current other))
    (narrows_b : Narrows model b (first_of second other current)) where
  -- of the first and the second disk as they were, by which of them is read
  told-both : (P : List ℕ → List ℕ → Type 0)
      → ((x y : List ℕ) → model.content current ≡ Some (first_of second x y)
      → model.content other ≡ Some (first_of second y x) → P x y)
      → IfTold (model.content a) (λ x. IfTold (model.content b) (λ y. P x y))
  told-both P holds x is y it = go second narrows_a narrows_b holds
    where
      go : (s : Bool) → Narrows model a (first_of s current other) → Narrows model b (first_of s other current)
          → ((x y : List ℕ) → model.content current ≡ Some (first_of s x y)
          → model.content other ≡ Some (first_of s y x) → P x y) → P x y
      go false n m each = each x y (n.same ∙ is) (m.same ∙ it)
      go true n m each = each x y (m.same ∙ it) (n.same ∙ is)

  module _ (read : IfTold (model.content a) (λ x. IfTold (model.content b) (λ y. IsRead second x y))) where
    pub damages : (at : ℕ) → IfTold (model.content current) (DamagesDisk at)
        → IfTold (model.content a) (λ x. IfTold (model.content b) (Damages at x))
    damages at damaged x is y it = told-both (λ x y. IsRead second x y → Damages at x y)
        (λ x y one two read. record {
          read = first_of second x y;
          picks = picks-by second x y read;
          damages = damaged (first_of second x y) one;
        }) x is y it (read x is y it)

  module _ (parts : (d : D) (t v u : ℕ) (c : List ℕ) → t ≤ v → v ≤ u → model.images_between d t u c
      → model.images_between d t v c ⊎ model.images_between d v u c) (new : D) (looks : Looks model current new) where
    pub narrows-first : Narrows model a (first_of second new other)
    narrows-first = go second narrows_a
      where
        go : (s : Bool) → Narrows model a (first_of s current other) → Narrows model a (first_of s new other)
        go false n = narrows_twice model parts a current new n looks.narrows
        go true n = n

    pub narrows-second : Narrows model b (first_of second other new)
    narrows-second = go second narrows_b
      where
        go : (s : Bool) → Narrows model b (first_of s other current) → Narrows model b (first_of s other new)
        go false n = n
        go true n = narrows_twice model parts b current new n looks.narrows

-- the state of a store that was loaded
abbrev opened-at : {D : Type 0} (model : DiskModel D) → Paired D → ℕ → State → State
opened-at model pair generation t =
    rested t t.limit generation (record { a = model.faults (disk_a pair); b = model.faults (disk_b pair) })

module _ {D : Type 0} (model : DiskModel D) (stays : RebasesStay) (a b : D) (second : Bool) (old new : Standing D)
    (other : D) (narrows_a : Narrows model a (first_of second old.disk other))
    (narrows_b : Narrows model b (first_of second other old.disk)) (memory : Memory) (limit : ℕ)
    (x : IsLoaded model memory limit old new) (looks : Looks model old.disk new.disk)
    (kept : new.header ≡ old.header) (settled : new.doubt ≡ false)
    (beside : IfTold (model.content old.disk) (λ _. IfTold (model.content other)
    (λ _. OtherHas second old.header.generation None (model.images other))))
    (read : IfTold (model.content a) (λ x. IfTold (model.content b) (λ y. IsRead second x y))) where
  abbrev pair : Paired D
  pair = record { journal = new; other = Idle other false; second = second }

  abbrev state : State
  state = opened-at model pair old.header.generation x.state

  -- the disk's history is all of it
  whole : on_disk state ≡ x.state.history
  whole = stays x.state.history x.serving.sound.history

  on-disks : IfTold (model.content old.disk) (λ _. IfTold (model.content other)
      (λ _. StandsOnDisks model pair (on_pair state)))
  on-disks l is m it =
      let r = x.rests l is in
      subst (λ (h : History). StandsOnDisks model pair (record {
        now = history_of old.header.generation h;
        commit = None;
        finish = None;
        copy = None;
      })) (sym whole)
      (record {
        front = r.front;
        is_front = r.is;
        header = kept ∙ x.header;
        journal = (settled, λ k told. r.rests);
        other = (refl, λ _. refl, λ k told. beside l is m it);
      })

  told-current : IfBothTold model pair (StandsOnDisks model pair (on_pair state))
  told-current = go second on-disks
    where
      go : {P : Type 0} (s : Bool) → IfTold (model.content old.disk) (λ _. IfTold (model.content other) (λ _. P))
          → IfTold (model.content (first_of s new.disk other))
          (λ _. IfTold (model.content (first_of s other new.disk)) (λ _. P))
      go false holds l is m it = holds l (sym looks.narrows.same ∙ is) m it
      go true holds l is m it = holds m (sym looks.narrows.same ∙ it) l is

  pub opened-store : (s : State) × StandsFor model (record { memory = memory; pair = pair; copy = None }) s
      × IsOpened limit s × IfTold (model.content a)
      (λ x. IfTold (model.content b) (λ y. OpensTo s.history s.generation x y))
  opened-store =
      let t : State = x.state in
      let at = at-rest memory t t.limit old.header.generation state.faults x.serving.stands in (
        state,
        record {
          memory = at;
          header = kept ∙ (x.header ∙ ap (λ (h : History). (history_of old.header.generation h).header) (sym whole));
          pair = told-current;
          copy = refl;
          copied = tt;
          doubts = no-finish pair None settled;
          counts = refl;
        },
        record {
          serves = refl;
          limit = x.opened.limit;
          pins = x.opened.pins;
          base = refl;
          copy = refl;
          doubt = refl;
          finish = refl;
          kept = needed-rested t t.limit old.header.generation state.faults x.opened.copy x.opened.kept;
        },
        λ l is m it. told-both model a b second old.disk other narrows_a narrows_b
            (λ l m. IsRead second l m → OpensTo t.history old.header.generation l m)
            (λ l m one two read. record {
              history = x.serving.sound.history;
              few = omega (arith, x.serving.stands.version, x.serving.stands.within);
              opens = record {
                read = first_of second l m;
                picks = picks-by second l m read;
                opens = x.opens (first_of second l m) one;
              };
            }) l is m it (read l is m it),
      )
