-- A call of a store alone, at a state that has disks too.
use Rattle.std.proofs.Common.{◌≡◌, ap, Bool, List, refl, subst, sym, true, ℕ}
use Rattle.store_machine.specs.Laws.{RunsStaySound}
use Rattle.store_machine.specs.Machine.{Gives}
use Rattle.store_machine.specs.declared.machine.Event.{Event}
use Rattle.store_machine.specs.declared.machine.Event.TheVariants as event
use Rattle.store_machine.specs.declared.machine.Reply.{Reply}
use Rattle.store_machine.specs.declared.machine.Reply.TheVariants as reply
use Rattle.store_machine.specs.declared.machine.State.{State}
use Rattle.store_core.specs.Beside.{CallsServe, IsOfMemory, repinned}
use Rattle.store_core.specs.Stored.{StandsFor, alone, served}
use Rattle.store_core.proofs.OneCall.{at-alone, serves}
use Rattle.store_core.proofs.OneStep.{step-of}
use Rattle.store_core.proofs.Rows.{sound-after}

-- a step from the part alone becomes one from the state, by which its pins alone change
abbrev Becomes : State → ℕ → Event → Reply → State → Type 0
Becomes s owner e r t = Gives s owner e r (repinned s t.pins) × (served t ≡ served (repinned s t.pins))

-- all but the pins stays
part : (s t u : State) → t ≡ u → served (repinned u t.pins) ≡ served (repinned s t.pins)
    → served t ≡ served (repinned s t.pins)
part s t u e same = subst (λ (x : State). served (repinned x t.pins) ≡ served (repinned s t.pins)) (sym e) same

module _ (s : State) (serving : s.serves ≡ true) (owner : ℕ) (t : State) where
  same : {u : State} → t ≡ u → repinned s t.pins ≡ repinned s u.pins
  same e = ap (λ (x : State). repinned s x.pins) e

  of-pin : (r : Reply) → Gives (alone (served s)) owner event.Pin r t → Becomes s owner event.Pin r t
  of-pin reply.NoPin g = ((serves s serving, (g.1.0, same g.1.1)), part s t _ g.1.1 refl)
  of-pin (reply.Pinned slot version) g = (
    (serves s serving, (g.1.0, g.1.1, g.1.2, g.1.3, same g.1.4)),
    part s t _ g.1.4 refl,
  )
  of-pin r g = absurd g.1

  of-fetch : (slot : ℕ) (want : List Bool) (from limit : ℕ) (r : Reply)
      → Gives (alone (served s)) owner (event.Fetch slot want from limit) r t
      → Becomes s owner (event.Fetch slot want from limit) r t
  of-fetch slot want from limit (reply.Page records last) g = (
    (serves s serving, (g.1.0, g.1.1, g.1.2, same g.1.3)),
    part s t _ g.1.3 refl,
  )
  of-fetch slot want from limit reply.NoMemory g = (
    (serves s serving, (g.1.0, g.1.1, same g.1.2)),
    part s t _ g.1.2 refl,
  )
  of-fetch slot want from limit r g = absurd g.1

  of-unpin : (slot : ℕ) (r : Reply) → Gives (alone (served s)) owner (event.Unpin slot) r t
      → Becomes s owner (event.Unpin slot) r t
  of-unpin slot reply.Unpinned g = (
    (serves s serving, (g.1.0, g.1.1, same g.1.2)),
    part s t _ g.1.2 refl,
  )
  of-unpin slot r g = absurd g.1

  of-look : (id : ℕ) (r : Reply) → Gives (alone (served s)) owner (event.Look id) r t
      → Becomes s owner (event.Look id) r t
  of-look id (reply.Looked status) g = ((serves s serving, (g.1.0, same g.1.1)), part s t _ g.1.1 refl)
  of-look id reply.NoMemory g = ((serves s serving, same g.1), part s t _ g.1 refl)
  of-look id r g = absurd g.1

  of-stats : (r : Reply) → Gives (alone (served s)) owner event.Stats r t → Becomes s owner event.Stats r t
  of-stats (reply.Counted version live withdrawn kept pins) g = (
    (serves s serving, (g.1.0, g.1.1, g.1.2, g.1.3, g.1.4, same g.1.5)),
    part s t _ g.1.5 refl,
  )
  of-stats r g = absurd g.1

  lifted : (e : Event) (r : Reply) → IsOfMemory e → Gives (alone (served s)) owner e r t → Becomes s owner e r t
  lifted event.Pin r local g = of-pin r g
  lifted (event.Fetch slot want from limit) r local g = of-fetch slot want from limit r g
  lifted (event.Unpin slot) r local g = of-unpin slot r g
  lifted (event.Look id) r local g = of-look id r g
  lifted event.Stats r local g = of-stats r g
  lifted e r local g = absurd local

pub calls-serve : RunsStaySound → CallsServe
calls-serve law old new e r local calls s h =
    let c = calls (alone (served s)) (at-alone old (served s) h.stands) in
    let x = step-of old new (alone (served s)) e r c in
    let t : State = repinned s c.after.pins in
    let l = lifted s h.serves x.owner c.after e r local x.gives in
    record {
      owner = x.owner;
      pins = c.after.pins;
      gives = l.0;
      serving = record {
        sound = sound-after law s t x.owner e r l.0 h.sound;
        serves = h.serves;
        stands = subst (StandsFor new) l.1 c.stands.ends.stands;
      };
    }
