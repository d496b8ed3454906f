-- A crash and an opening after it.
use Rattle.std.proofs.Common.{◌≡◌, ◌↔◌, ap₂, arith, Contains, List, Option, refl, subst, true, ℕ}
use Rattle.store_machine.specs.Kept.{IsNeeded, in_use}
use Rattle.store_machine.specs.Machine.{AreNeeded, Becomes, NoneFell, crashed}
use Rattle.store_machine.specs.Openings.{CrashOpens, IsOpened}
use Rattle.store_machine.specs.declared.machine.Copying.{Copying}
use Rattle.store_machine.specs.declared.machine.Entry.{Entry}
use Rattle.store_machine.specs.declared.machine.Held.{Held}
use Rattle.store_machine.specs.declared.machine.State.{State}

-- nothing is pinned or copied after a crash, as in an opened state
needed-after : (s t : State) → IsOpened s.limit t → AreNeeded (crashed s t.history t.generation) t.kept
needed-after s t o =
    let needed = o.kept in
    let same : in_use t ≡ in_use (crashed s t.history t.generation) =
    ap₂ (λ (ps : List Held) (copy : Option Copying). in_use (record t { pins = ps; copy = copy })) o.pins o.copy in
    record {
      exactly = λ (entry : Entry). subst
          (λ (versions : List ℕ). (Contains t.kept entry ↔ IsNeeded t.history versions entry)) same
          (needed.exactly entry);
      distinct = needed.distinct;
    }

opened-becomes : (s t : State) → IsOpened s.limit t
    → Becomes (record (crashed s t.history t.generation) { kept = t.kept; serves = true }) t
opened-becomes s t o = λ i. record {
  history = t.history;
  limit = o.limit i;
  pins = o.pins i;
  kept = t.kept;
  base = o.base i;
  generation = t.generation;
  copy = o.copy i;
  doubt = o.doubt i;
  finish = o.finish i;
  faults = t.faults;
  serves = o.serves i;
}

none-fell : (s t : State) → NoneFell (crashed s t.history t.generation).faults t.faults
none-fell s t = (omega arith, omega arith)

pub crash-opens : CrashOpens
crash-opens s t at begin end recovers o = (
  refl,
  (recovers, refl),
  (
    refl,
    (refl, refl, refl, refl, refl, needed-after s t o, refl, none-fell s t, opened-becomes s t o),
    refl,
  ),
)
