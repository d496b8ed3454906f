-- A state as an opening leaves it.
use Rattle.std.proofs.Common.{◌≡◌, ◌↔◌, ◌++◌, ap, arith, Contains, IfSome, [], ◌∷◌, map, None, Option, option_map, refl, subst, sym, true, ℕ}
use Rattle.store_core.specs.Copied.{KeepsCopy, KeepsVersion, Prunes}
use Rattle.store_core.specs.Stored as memory
use Rattle.store_core.specs.Stored.{StoreTerm as Memory, served}
use Rattle.store_machine.specs.History.{head}
use Rattle.store_machine.specs.Kept.{IsNeeded, copied}
use Rattle.store_machine.specs.Machine.{AreNeeded}
use Rattle.store_machine.specs.Openings.{IsOpened}
use Rattle.store_machine.specs.declared.machine.Copying.{Copying}
use Rattle.store_machine.specs.declared.machine.Faults.{Faults}
use Rattle.store_machine.specs.declared.machine.State.{State}

-- a state as an opening leaves it, of what another has in memory
abbrev pub rested : State → ℕ → ℕ → Faults → State
rested s commits generation faults = record {
  history = s.history;
  limit = commits;
  pins = s.pins;
  kept = s.kept;
  base = s.history.version;
  generation = generation;
  copy = None;
  doubt = None;
  finish = None;
  faults = faults;
  serves = true;
}

-- it needs the same, where no copy ran
pub needed-rested : (s : State) (commits generation : ℕ) (faults : Faults) → s.copy ≡ None → AreNeeded s s.kept
    → AreNeeded (rested s commits generation faults) s.kept
needed-rested s commits generation faults none n = record {
  exactly = λ entry. subst
      (λ (o : Option Copying). (Contains s.kept entry ↔ IsNeeded s.history
      (map (λ p. p.version) s.pins ++ (copied o ++ head s.history ∷ [])) entry)) none (n.exactly entry);
  distinct = n.distinct;
}

-- what a prune leaves of a store that has no pins, with its limit
pub opened-after : (new : Memory) (s : State) (commits n : ℕ) → s.copy ≡ None → s.pins ≡ [] → (p : Prunes new s n)
    → IsOpened commits (rested (record s { kept = p.left }) commits 0 s.faults)
opened-after new s commits n none pins p = record {
  serves = refl;
  limit = refl;
  pins = pins;
  base = refl;
  copy = refl;
  doubt = refl;
  finish = refl;
  kept = needed-rested (record s { kept = p.left }) commits 0 s.faults none
      (record { exactly = p.gives.0.exactly; distinct = p.gives.0.distinct });
}

-- no copy keeps a version
pub keeps-none : (s : State) → s.copy ≡ None → KeepsCopy None s
keeps-none s none = (
  sym (ap (λ (o : Option Copying). option_map (λ copy. copy.version) o) none),
  subst (λ (o : Option Copying). IfSome o (λ copy. KeepsVersion s copy.version)) (sym none) tt,
)

-- what is in memory serves that state
pub at-rest : (m : Memory) (s : State) (commits generation : ℕ) (faults : Faults)
    → memory.StandsFor m (served (rested s commits generation faults))
    → memory.IsServing m (rested s commits generation faults)
at-rest m s commits generation faults h = record {
  sound = record {
    history = h.sound.history;
    doubt = tt;
    slots = h.sound.slots;
    pins = h.sound.pins;
    bases = record { base = (omega arith, omega arith); copy = tt; finish = tt };
    kept = λ _. h.sound.kept refl;
    made = λ _. h.sound.made refl;
  };
  serves = refl;
  stands = h;
}
