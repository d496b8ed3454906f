-- A step of the store's machine from a state whose pins are others' leads to the same but for the owners of pins, where
-- the pin that it names is its own.
use Rattle.std.proofs.Common.{◌≡◌, ◌==◌, ◌↔◌, ◌++◌, ◌∙◌, ap, arith, Bool, cond, Contains, false, filter, inl, inr, length, List, [], ◌∷◌, map, None, not, Option, refl, Some, subst, suc, sym, true, ℕ}
use Rattle.std.proofs.lemmas.List.{map-append}
use Rattle.store_machine.specs.History.{head}
use Rattle.store_machine.specs.Kept.{IsNeeded, copied}
use Rattle.store_machine.specs.Machine.{AreNeeded, Becomes, CommitGives, CompactGives, DoubtAfter, EndsDoubts, FetchGives, Gives, GivesUp, LookGives, PruneGives, StatsGives, copying, pin_in, replaced}
use Rattle.store_machine.specs.Owners.{unowned}
use Rattle.store_machine.specs.declared.machine.Change.{Change}
use Rattle.store_machine.specs.declared.machine.Event.{Event}
use Rattle.store_machine.specs.declared.machine.Event.TheVariants.{Commit, Compact, Crash, Fetch, Look, Open, Pin, Prune, Stats, Unpin}
use Rattle.store_machine.specs.declared.machine.Held.{Held}
use Rattle.store_machine.specs.declared.machine.Reply.{Reply}
use Rattle.store_machine.specs.declared.machine.Reply.TheVariants as reply
use Rattle.store_machine.specs.declared.machine.State.{State}
use Rattle.drill_run.proofs.OwnPins.{NamesPin}

-- the same pins but for their owners
abbrev pub Alike : List Held → List Held → Type 0
Alike ps qs = map unowned qs ≡ map unowned ps

abbrev pub with_pins : State → List Held → State
with_pins s ps = record s { pins = ps }

abbrev pub IsHeld : List Held → ℕ → ℕ → ℕ → Type 0
IsHeld ps owner slot version = pin_in slot ps ≡ Some (record { slot = slot; owner = owner; version = version })

-- pins that are alike
first-alike : (p q : Held) (ps qs : List Held) → Alike (p ∷ ps) (q ∷ qs) → unowned q ≡ unowned p
first-alike p q ps qs e = cc e

rest-alike : (p q : Held) (ps qs : List Held) → Alike (p ∷ ps) (q ∷ qs) → Alike ps qs
rest-alike p q ps qs e = cc e

slot-alike : (p q : Held) → unowned q ≡ unowned p → q.slot ≡ p.slot
slot-alike p q e = ap (λ (x : ℕ × ℕ). x.0) e

version-alike : (p q : Held) → unowned q ≡ unowned p → q.version ≡ p.version
version-alike p q e = ap (λ (x : ℕ × ℕ). x.1) e

length-alike : (ps qs : List Held) → Alike ps qs → length qs ≡ length ps
length-alike [] [] e = refl
length-alike [] (q ∷ qs) e = absurd (cc e)
length-alike (p ∷ ps) [] e = absurd (cc e)
length-alike (p ∷ ps) (q ∷ qs) e = ap suc (length-alike ps qs (rest-alike p q ps qs e))

versions-alike : (ps qs : List Held) → Alike ps qs
    → map (λ (p : Held). p.version) qs ≡ map (λ (p : Held). p.version) ps
versions-alike [] [] e = refl
versions-alike [] (q ∷ qs) e = absurd (cc e)
versions-alike (p ∷ ps) [] e = absurd (cc e)
versions-alike (p ∷ ps) (q ∷ qs) e =
    ap (λ n. n ∷ map (λ (x : Held). x.version) qs) (version-alike p q (first-alike p q ps qs e))
    ∙ ap (λ l. p.version ∷ l) (versions-alike ps qs (rest-alike p q ps qs e))

pushed-alike : (ps qs : List Held) (p q : Held) → Alike ps qs → unowned q ≡ unowned p
    → Alike (ps ++ p ∷ []) (qs ++ q ∷ [])
pushed-alike ps qs p q e f =
    map-append unowned qs (q ∷ [])
    ∙ (ap (λ (l : List (ℕ × ℕ)). l ++ unowned q ∷ []) e
    ∙ (ap (λ (x : ℕ × ℕ). map unowned ps ++ x ∷ []) f ∙ sym (map-append unowned ps (p ∷ []))))

-- by whether the slot of the first is the one that is left out
kept-alike : (a b : Bool) (p q : Held) (ps qs : List Held) → b ≡ a → unowned q ≡ unowned p → Alike ps qs
    → Alike (cond (not a) (p ∷ ps) ps) (cond (not b) (q ∷ qs) qs)
kept-alike true b p q ps qs e f g = rw e g
kept-alike false b p q ps qs e f g =
    rw e (ap (λ (x : ℕ × ℕ). x ∷ map unowned qs) f ∙ ap (λ (l : List (ℕ × ℕ)). unowned p ∷ l) g)

left-alike : (slot : ℕ) (ps qs : List Held) → Alike ps qs
    → Alike (filter (λ p. not (p.slot == slot)) ps) (filter (λ p. not (p.slot == slot)) qs)
left-alike slot [] [] e = refl
left-alike slot [] (q ∷ qs) e = absurd (cc e)
left-alike slot (p ∷ ps) [] e = absurd (cc e)
left-alike slot (p ∷ ps) (q ∷ qs) e =
    let first = first-alike p q ps qs e in
    kept-alike (p.slot == slot) (q.slot == slot) p q (filter (λ p. not (p.slot == slot)) ps)
    (filter (λ p. not (p.slot == slot)) qs) (ap (λ n. n == slot) (slot-alike p q first)) first
    (left-alike slot ps qs (rest-alike p q ps qs e))

-- a slot that is free in one is free in the other
free-by : (a b : Bool) (p q : Held) (x y : Option Held) → b ≡ a → (x ≡ None → y ≡ None) → cond a (Some p) x ≡ None
    → cond b (Some q) y ≡ None
free-by true b p q x y e f none = absurd (cc none)
free-by false b p q x y e f none = rw e (f none)

free-alike : (slot : ℕ) (ps qs : List Held) → Alike ps qs → pin_in slot ps ≡ None → pin_in slot qs ≡ None
free-alike slot [] [] e none = refl
free-alike slot [] (q ∷ qs) e none = absurd (cc e)
free-alike slot (p ∷ ps) [] e none = absurd (cc e)
free-alike slot (p ∷ ps) (q ∷ qs) e none =
    free-by (p.slot == slot) (q.slot == slot) p q (pin_in slot ps) (pin_in slot qs)
    (ap (λ n. n == slot) (slot-alike p q (first-alike p q ps qs e)))
    (λ h. free-alike slot ps qs (rest-alike p q ps qs e) h) none

-- one slot has one version
version_in : Option Held → ℕ
version_in None = 0
version_in (Some p) = p.version

version-by : (a b : Bool) (p q : Held) (x y : Option Held) → b ≡ a → q.version ≡ p.version
    → version_in y ≡ version_in x → version_in (cond b (Some q) y) ≡ version_in (cond a (Some p) x)
unfolding version_in
version-by true b p q x y e f g = rw e f
version-by false b p q x y e f g = rw e g

one-version : (slot : ℕ) (ps qs : List Held) → Alike ps qs → version_in (pin_in slot qs) ≡ version_in (pin_in slot ps)
one-version slot [] [] e = refl
one-version slot [] (q ∷ qs) e = absurd (cc e)
one-version slot (p ∷ ps) [] e = absurd (cc e)
one-version slot (p ∷ ps) (q ∷ qs) e =
    let first = first-alike p q ps qs e in
    version-by (p.slot == slot) (q.slot == slot) p q (pin_in slot ps) (pin_in slot qs)
    (ap (λ n. n == slot) (slot-alike p q first)) (version-alike p q first)
    (one-version slot ps qs (rest-alike p q ps qs e))

same-version : (ps qs : List Held) (slot o n v w : ℕ) → Alike ps qs → IsHeld ps o slot v → IsHeld qs n slot w → w ≡ v
unfolding version_in
same-version ps qs slot o n v w e h k = sym (ap version_in k) ∙ (one-version slot ps qs e ∙ ap version_in h)

-- the row of an event, with other pins
module _ (s t : State) (ps : List Held) (n : ℕ) where
  becomes : (m : State) → Becomes m t → Becomes (with_pins m ps) (with_pins t ps)
  becomes m b = ap (λ (x : State). with_pins x ps) b

  ends : (m : State) → EndsDoubts m t → EndsDoubts (with_pins m ps) (with_pins t ps)
  ends m g = (g.0, g.1, becomes (record m { doubt = t.doubt; finish = t.finish }) g.2)

  doubts : (c : Change) (doubt : Bool) → DoubtAfter s c doubt t → DoubtAfter (with_pins s ps) c doubt (with_pins t ps)
  doubts c true b = becomes (record s { doubt = Some c; finish = None }) b
  doubts c false b = ends s b

  commits : (c : Change) (r : Reply) → CommitGives s c r t → CommitGives (with_pins s ps) c r (with_pins t ps)
  commits c reply.Known g = (g.0, becomes s g.1)
  commits c reply.Absent g = (g.0, becomes s g.1)
  commits c reply.Withdrawn g = (g.0, becomes s g.1)
  commits c reply.Full g = (g.0, g.1, becomes s g.2)
  commits c (reply.DiskFault doubt) g = (g.0, g.1, doubts c doubt g.2)
  commits c reply.NoMemory g = ends s g
  commits c (reply.Committed version) g = (g.0, g.1, ap (λ (x : State). with_pins x ps) g.2)
  commits c _ g = absurd g

  needed : Alike s.pins ps → AreNeeded s t.kept → AreNeeded (with_pins s ps) t.kept
  needed e g = record {
    exactly = λ entry.
        subst
        (λ (l : List ℕ). Contains t.kept entry ↔ IsNeeded s.history (l ++ (copied s.copy ++ head s.history ∷ [])) entry)
        (sym (versions-alike s.pins ps e)) (g.exactly entry);
    distinct = g.distinct;
  }

  prunes : (r : Reply) → Alike s.pins ps → PruneGives s r t → PruneGives (with_pins s ps) r (with_pins t ps)
  prunes (reply.Pruned dropped) e g = (needed e g.0, g.1, becomes (record s { kept = t.kept }) g.2)
  prunes _ e g = absurd g

  looks : (id : ℕ) (r : Reply) → LookGives s id r t → LookGives (with_pins s ps) id r (with_pins t ps)
  looks id (reply.Looked status) g = (g.0, becomes s g.1)
  looks id reply.NoMemory g = becomes s g
  looks id _ g = absurd g

  stats : (r : Reply) → Alike s.pins ps → StatsGives s r t → StatsGives (with_pins s ps) r (with_pins t ps)
  stats (reply.Counted version live withdrawn kept pins) e g =
      (g.0, g.1, g.2, g.3, g.4 ∙ sym (length-alike s.pins ps e), becomes s g.5)
  stats _ e g = absurd g

  gives-up : (doubt : Bool) → GivesUp s doubt t → GivesUp (with_pins s ps) doubt (with_pins t ps)
  gives-up true g = (g.0, g.1, becomes (record s { copy = None; finish = Some g.0 }) g.2)
  gives-up false g = (g.0, g.1, becomes (record s { copy = None; finish = t.finish }) g.2)

  compacts : (r : Reply) → CompactGives s r t → CompactGives (with_pins s ps) r (with_pins t ps)
  compacts reply.Last g = (g.0, g.1, becomes s g.2)
  compacts (reply.More left) (inl g) =
      inl (g.0, g.1, g.2, becomes (record (copying s (head s.history) left) { finish = None }) g.3)
  compacts (reply.More left) (inr g) = inr (g.0, g.1, g.2, g.3, g.4, becomes (copying s g.0 left) g.5)
  compacts (reply.Done generation) g = (g.0, g.1, g.2, becomes (replaced s g.1) g.3)
  compacts (reply.DiskFault doubt) g = (g.0, gives-up doubt g.1)
  compacts reply.NoMemory g = (g.0, g.1, becomes (record s { copy = t.copy; finish = t.finish }) g.2)
  compacts _ g = absurd g

  fetches : (o slot : ℕ) (want : List Bool) (from limit : ℕ) (r : Reply) (v : ℕ) → Alike s.pins ps
      → IsHeld ps n slot v → FetchGives s o slot want from limit r t
      → FetchGives (with_pins s ps) n slot want from limit r (with_pins t ps)
  fetches o slot want from limit (reply.Page records last) v e h g =
      let same : v ≡ g.0 = same-version s.pins ps slot o n g.0 v e g.1 h in
      (g.0, subst (λ (w : ℕ). IsHeld ps n slot w) same h, g.2, becomes s g.3)
  fetches o slot want from limit reply.NoMemory v e h g = (v, h, becomes s g.2)
  fetches o slot want from limit _ v e h g = absurd g

-- rows that leave the pins
doubt-pins : (s t : State) → EndsDoubts s t → t.pins ≡ s.pins
doubt-pins s t g = ap (λ (x : State). x.pins) g.2

after-pins : (s : State) (c : Change) (doubt : Bool) (t : State) → DoubtAfter s c doubt t → t.pins ≡ s.pins
after-pins s c true t b = ap (λ (x : State). x.pins) b
after-pins s c false t b = doubt-pins s t b

commit-pins : (s : State) (c : Change) (r : Reply) (t : State) → CommitGives s c r t → t.pins ≡ s.pins
commit-pins s c reply.Known t g = ap (λ (x : State). x.pins) g.1
commit-pins s c reply.Absent t g = ap (λ (x : State). x.pins) g.1
commit-pins s c reply.Withdrawn t g = ap (λ (x : State). x.pins) g.1
commit-pins s c reply.Full t g = ap (λ (x : State). x.pins) g.2
commit-pins s c (reply.DiskFault doubt) t g = after-pins s c doubt t g.2
commit-pins s c reply.NoMemory t g = doubt-pins s t g
commit-pins s c (reply.Committed version) t g = ap (λ (x : State). x.pins) g.2
commit-pins s c _ t g = absurd g

prune-pins : (s : State) (r : Reply) (t : State) → PruneGives s r t → t.pins ≡ s.pins
prune-pins s (reply.Pruned dropped) t g = ap (λ (x : State). x.pins) g.2
prune-pins s _ t g = absurd g

fetch-pins : (s : State) (o slot : ℕ) (want : List Bool) (from limit : ℕ) (r : Reply) (t : State)
    → FetchGives s o slot want from limit r t → t.pins ≡ s.pins
fetch-pins s o slot want from limit (reply.Page records last) t g = ap (λ (x : State). x.pins) g.3
fetch-pins s o slot want from limit reply.NoMemory t g = ap (λ (x : State). x.pins) g.2
fetch-pins s o slot want from limit _ t g = absurd g

look-pins : (s : State) (id : ℕ) (r : Reply) (t : State) → LookGives s id r t → t.pins ≡ s.pins
look-pins s id (reply.Looked status) t g = ap (λ (x : State). x.pins) g.1
look-pins s id reply.NoMemory t g = ap (λ (x : State). x.pins) g
look-pins s id _ t g = absurd g

given-up-pins : (s : State) (doubt : Bool) (t : State) → GivesUp s doubt t → t.pins ≡ s.pins
given-up-pins s true t g = ap (λ (x : State). x.pins) g.2
given-up-pins s false t g = ap (λ (x : State). x.pins) g.2

compact-pins : (s : State) (r : Reply) (t : State) → CompactGives s r t → t.pins ≡ s.pins
compact-pins s reply.Last t g = ap (λ (x : State). x.pins) g.2
compact-pins s (reply.More left) t (inl g) = ap (λ (x : State). x.pins) g.3
compact-pins s (reply.More left) t (inr g) = ap (λ (x : State). x.pins) g.5
compact-pins s (reply.Done generation) t g = ap (λ (x : State). x.pins) g.3
compact-pins s (reply.DiskFault doubt) t g = given-up-pins s doubt t g.1
compact-pins s reply.NoMemory t g = ap (λ (x : State). x.pins) g.2
compact-pins s _ t g = absurd g

stats-pins : (s : State) (r : Reply) (t : State) → StatsGives s r t → t.pins ≡ s.pins
stats-pins s (reply.Counted version live withdrawn kept pins) t g = ap (λ (x : State). x.pins) g.5
stats-pins s _ t g = absurd g

-- what the step leads to
pub record Reowned (s t : State) (ps : List Held) (n : ℕ) (e : Event) (r : Reply) : Type 0 where
  pub pins : List Held
  pub gives : Gives (with_pins s ps) n e r (with_pins t pins)
  pub alike : Alike t.pins pins

same-pins : (s t : State) (ps : List Held) → Alike s.pins ps → t.pins ≡ s.pins → Alike t.pins ps
same-pins s t ps e same = e ∙ ap (λ (l : List Held). map unowned l) (sym same)

pin-reowned : (s t : State) (ps : List Held) (o n : ℕ) (r : Reply) → Alike s.pins ps → Gives s o Pin r t
    → Reowned s t ps n Pin r
pin-reowned s t ps o n reply.NoPin e g = record {
  pins = ps;
  gives = (g.0, (length-alike s.pins ps e ∙ g.1.0, ap (λ (x : State). with_pins x ps) g.1.1));
  alike = same-pins s t ps e (ap (λ (x : State). x.pins) g.1.1);
}
pin-reowned s t ps o n (reply.Pinned slot version) e g =
    let old : Held = record { slot = slot; owner = o; version = head s.history } in
    let new : Held = record { slot = slot; owner = n; version = head s.history } in
    let number = length-alike s.pins ps e in
    let less = g.1.0 in
    record {
      pins = ps ++ new ∷ [];
      gives = (
        g.0,
        (
          omega (arith, number, less),
          g.1.1,
          free-alike slot s.pins ps e g.1.2,
          g.1.3,
          ap (λ (x : State). with_pins x (ps ++ new ∷ [])) g.1.4,
        ),
      );
      alike = pushed-alike s.pins ps old new e refl
          ∙ ap (λ (x : State). map unowned x.pins) (sym g.1.4);
    }
pin-reowned s t ps o n _ e g = absurd g.1

unpin-reowned : (s t : State) (ps : List Held) (o n slot v : ℕ) (r : Reply) → Alike s.pins ps → IsHeld ps n slot v
    → Gives s o (Unpin slot) r t → Reowned s t ps n (Unpin slot) r
unpin-reowned s t ps o n slot v reply.Unpinned e h g =
    let left : List Held = filter (λ p. not (p.slot == slot)) ps in
    record {
      pins = left;
      gives = (g.0, (v, h, ap (λ (x : State). with_pins x left) g.1.2));
      alike = left-alike slot s.pins ps e ∙ ap (λ (x : State). map unowned x.pins) (sym g.1.2);
    }
unpin-reowned s t ps o n slot v _ e h g = absurd g.1

-- a step of any event of a session
pub step-reowned : (s t : State) (ps : List Held) (o n : ℕ) (e : Event) (r : Reply) → Alike s.pins ps
    → NamesPin (IsHeld ps n) e → Gives s o e r t → Reowned s t ps n e r
step-reowned s t ps o n (Commit c) r e names g = record {
  pins = ps;
  gives = (g.0, commits s t ps n c r g.1);
  alike = same-pins s t ps e (commit-pins s c r t g.1);
}
step-reowned s t ps o n Pin r e names g = pin-reowned s t ps o n r e g
step-reowned s t ps o n (Fetch slot want from limit) r e names g = record {
  pins = ps;
  gives = (g.0, fetches s t ps n o slot want from limit r names.0 e names.1 g.1);
  alike = same-pins s t ps e (fetch-pins s o slot want from limit r t g.1);
}
step-reowned s t ps o n (Unpin slot) r e names g = unpin-reowned s t ps o n slot names.0 r e names.1 g
step-reowned s t ps o n Prune r e names g = record {
  pins = ps;
  gives = (g.0, prunes s t ps n r e g.1);
  alike = same-pins s t ps e (prune-pins s r t g.1);
}
step-reowned s t ps o n (Look id) r e names g = record {
  pins = ps;
  gives = (g.0, looks s t ps n id r g.1);
  alike = same-pins s t ps e (look-pins s id r t g.1);
}
step-reowned s t ps o n Stats r e names g = record {
  pins = ps;
  gives = (g.0, stats s t ps n r e g.1);
  alike = same-pins s t ps e (stats-pins s r t g.1);
}
step-reowned s t ps o n Compact r e names g = record {
  pins = ps;
  gives = (g.0, compacts s t ps n r g.1);
  alike = same-pins s t ps e (compact-pins s r t g.1);
}
step-reowned s t ps o n Crash r e names g = absurd names
step-reowned s t ps o n Open r e names g = absurd names
