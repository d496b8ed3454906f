-- One call of a store is one step of its run; and the part of a state that is in memory.
use Rattle.std.proofs.Common.{◌≡◌, ◌&&◌, ◌++◌, ap, arith, cond, List, [], ◌∷◌, map, MatchOption, None, Option, refl, subst, sym, true, ℕ}
use Rattle.store_machine.specs.History.{head}
use Rattle.store_machine.specs.Kept.{IsNeeded, IsPast, copied}
use Rattle.store_machine.specs.Laws.{IsSound}
use Rattle.store_machine.specs.Machine.{Gives, MayAdd, Serves}
use Rattle.store_machine.specs.Runs.{is_call}
use Rattle.store_machine.specs.declared.machine.Copying.{Copying}
use Rattle.store_machine.specs.declared.machine.Event.{Event}
use Rattle.store_machine.specs.declared.machine.Reply.{Reply}
use Rattle.store_machine.specs.declared.machine.State.{State}
use Rattle.store_machine.specs.declared.machine.Step.{Step}
use Rattle.store_core.specs.Calls.{Calls}
use Rattle.store_core.specs.Stored.{IsAt, Served, StandsFor, StoreTerm, Stretches, alone, served}

-- of whichever owner
abbrev pub step_of : ℕ → Event → Reply → State → State → Step
step_of owner e r s t = record {
  owner = owner;
  event = e;
  reply = r;
  before = s;
  after = t;
  begin = record
      { a = 0; b = 0 };
  end = record { a = 0; b = 0 };
}

pub one-call : (old new : StoreTerm) (s t : State) (owner : ℕ) (e : Event) (r : Reply) → is_call e ≡ true
    → IsAt old s → Gives s owner e r t → IsAt new t
    → Calls Stretches (λ _. true) old new s ((e, r) ∷ [])
one-call old new s t owner e r call stands gives after = record {
  steps = step_of owner e r s t ∷ [];
  after = t;
  stands = record { begins = stands; ends = after; run = (refl, gives, refl); calm = (call, tt) };
  own = ap (λ b. cond (b && true) ((e, r) ∷ []) []) call;
}

-- no count of faults fell
pub serves : (s : State) → s.serves ≡ true → Serves s s
serves s e = (e, (omega arith, omega arith))

-- the versions in use where a copy runs or none
abbrev pub used_with : State → Option Copying → List ℕ
used_with s copy = map (λ p. p.version) s.pins ++ (copied copy ++ head s.history ∷ [])

-- a sound state without a copy is so alone, and with a doubt that may be added
pub alone-sound : (s : State) → IsSound s → s.serves ≡ true → s.copy ≡ None → IsSound (alone (served s))
alone-sound s h serves none = record {
  history = h.history;
  doubt = tt;
  slots = h.slots;
  pins = h.pins;
  bases = record { base = (omega arith, omega arith); copy = tt; finish = tt };
  kept = λ _ entry n. h.kept serves entry
      (subst (λ (o : Option Copying). IsNeeded s.history (used_with s o) entry) (sym none) n);
  made = λ _. h.made serves;
}

pub whole-sound : (s : State) → MatchOption s.doubt (Unit {0}) (MayAdd s) → IsPast s s.base → s.copy ≡ None
    → s.finish ≡ None → IsSound (alone (served s)) → IsSound s
whole-sound s doubt base none finish h = record {
  history = h.history;
  doubt = doubt;
  slots = h.slots;
  pins = h.pins;
  bases = record {
    base = base;
    copy = subst (λ (o : Option Copying). MatchOption o (Unit {0}) (λ c. IsPast s c.version)) (sym none) tt;
    finish = subst (λ (o : Option ℕ). MatchOption o (Unit {0}) (IsPast s)) (sym finish) tt;
  };
  kept = λ _ entry n. h.kept refl entry
      (subst (λ (o : Option Copying). IsNeeded s.history (used_with s o) entry) none n);
  made = λ _. h.made refl;
}

pub at-alone : (store : StoreTerm) (s : Served) → StandsFor store s → IsAt store (alone s)
at-alone store s h = record { sound = h.sound; serves = refl; copy = refl; finish = refl; generation = refl; stands = h }
