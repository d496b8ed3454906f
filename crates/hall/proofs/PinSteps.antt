-- The pins before a step, by those after it.
use Rattle.std.proofs.Common.{◌≡◌, ◌⊎◌, ◌++◌, ◌==◌, ◌∙◌, ap, Bool, cond, eqb-true, false, filter, inl, inr, List, [], ◌∷◌, None, not, refl, Some, sym, true, ℕ}
use Rattle.std.proofs.lemmas.Bool.{cond-false, cond-true, true≢false}
use Rattle.store_machine.specs.History.{head}
use Rattle.store_machine.specs.Machine.{CommitGives, CompactGives, DoubtAfter, EndsDoubts, FetchGives, Gives, GivesUp, Holds, LookGives, PinGives, PruneGives, StatsGives, UnpinGives, pin_in}
use Rattle.store_machine.specs.Runs.{is_call}
use Rattle.store_machine.specs.Searches.{unpins}
use Rattle.store_machine.specs.declared.machine.Change.{Change}
use Rattle.store_machine.specs.declared.machine.Event.{Event}
use Rattle.store_machine.specs.declared.machine.Event.TheVariants.{Commit, Compact, Crash, Fetch, Look, Open, Pin, Prune, Stats, Unpin}
use Rattle.store_machine.specs.declared.machine.Held.{Held}
use Rattle.store_machine.specs.declared.machine.Reply.{Reply}
use Rattle.store_machine.specs.declared.machine.Reply.TheVariants.{Absent, Committed, Counted, DiskFault, Done, Full, Known, Last, Looked, More, NoMemory, NoPin, Page, Pinned, Pruned, Unpinned, Withdrawn}
use Rattle.store_machine.specs.declared.machine.State.{State}

-- Commits, pages, records, counts, prunings and copies leave the pins.
doubt-pins : (s t : State) → EndsDoubts s t → t.pins ≡ s.pins
doubt-pins s t g = ap (λ (x : State). x.pins) g.2

after-pins : (s : State) (c : Change) (doubt : Bool) (t : State) → DoubtAfter s c doubt t → t.pins ≡ s.pins
after-pins s c true t b = ap (λ (x : State). x.pins) b
after-pins s c false t b = doubt-pins s t b

commit-pins : (s : State) (c : Change) (r : Reply) (t : State) → CommitGives s c r t → t.pins ≡ s.pins
commit-pins s c Known t g = ap (λ (x : State). x.pins) g.1
commit-pins s c Absent t g = ap (λ (x : State). x.pins) g.1
commit-pins s c Withdrawn t g = ap (λ (x : State). x.pins) g.1
commit-pins s c Full t g = ap (λ (x : State). x.pins) g.2
commit-pins s c (DiskFault doubt) t g = after-pins s c doubt t g.2
commit-pins s c NoMemory t g = doubt-pins s t g
commit-pins s c (Committed version) t g = ap (λ (x : State). x.pins) g.2
commit-pins s c _ t g = absurd g

fetch-pins : (s : State) (by slot : ℕ) (want : List Bool) (from limit : ℕ) (r : Reply) (t : State)
    → FetchGives s by slot want from limit r t → t.pins ≡ s.pins
fetch-pins s by slot want from limit (Page records last) t g = ap (λ (x : State). x.pins) g.3
fetch-pins s by slot want from limit NoMemory t g = ap (λ (x : State). x.pins) g.2
fetch-pins s by slot want from limit _ t g = absurd g

look-pins : (s : State) (id : ℕ) (r : Reply) (t : State) → LookGives s id r t → t.pins ≡ s.pins
look-pins s id (Looked status) t g = ap (λ (x : State). x.pins) g.1
look-pins s id NoMemory t g = ap (λ (x : State). x.pins) g
look-pins s id _ t g = absurd g

stats-pins : (s : State) (r : Reply) (t : State) → StatsGives s r t → t.pins ≡ s.pins
stats-pins s (Counted version live withdrawn kept pins) t g = ap (λ (x : State). x.pins) g.5
stats-pins s _ t g = absurd g

prune-pins : (s : State) (r : Reply) (t : State) → PruneGives s r t → t.pins ≡ s.pins
prune-pins s (Pruned dropped) t g = ap (λ (x : State). x.pins) g.2
prune-pins s _ t g = absurd g

given-up-pins : (s : State) (doubt : Bool) (t : State) → GivesUp s doubt t → t.pins ≡ s.pins
given-up-pins s true t g = ap (λ (x : State). x.pins) g.2
given-up-pins s false t g = ap (λ (x : State). x.pins) g.2

compact-pins : (s : State) (r : Reply) (t : State) → CompactGives s r t → t.pins ≡ s.pins
compact-pins s Last t g = ap (λ (x : State). x.pins) g.2
compact-pins s (More left) t (inl g) = ap (λ (x : State). x.pins) g.3
compact-pins s (More left) t (inr g) = ap (λ (x : State). x.pins) g.5
compact-pins s (Done generation) t g = ap (λ (x : State). x.pins) g.3
compact-pins s (DiskFault doubt) t g = given-up-pins s doubt t g.1
compact-pins s NoMemory t g = ap (λ (x : State). x.pins) g.2
compact-pins s _ t g = absurd g

-- one pin more, in a list
pub pin_in-last : (slot : ℕ) (p q : Held) (ps : List Held) → pin_in slot (ps ++ q ∷ []) ≡ Some p
    → (pin_in slot ps ≡ Some p) ⊎ ((q.slot ≡ slot) × (q ≡ p))
pin_in-last slot p q [] h =
    elim (q.slot == slot) as (λ b. (q.slot == slot) ≡ b → cond b (Some q) None ≡ Some p
    → (None ≡ Some p) ⊎ ((q.slot ≡ slot) × (q ≡ p))) [
      | true ↦ λ e f. inr (eqb-true q.slot slot e, cc f)
      | false ↦ λ e f. inl f
    ] refl h
pin_in-last slot p q (x ∷ xs) h =
    elim (x.slot == slot) as (λ b. cond b (Some x) (pin_in slot (xs ++ q ∷ [])) ≡ Some p
    → (cond b (Some x) (pin_in slot xs) ≡ Some p) ⊎ ((q.slot ≡ slot) × (q ≡ p))) [
      | true ↦ λ e. inl e
      | false ↦ λ e. pin_in-last slot p q xs e
    ] h

-- a pin that was pushed into a free slot is there
pub pin_in-pushed : (q : Held) (ps : List Held) → pin_in q.slot ps ≡ None → (q.slot == q.slot) ≡ true
    → pin_in q.slot (ps ++ q ∷ []) ≡ Some q
pin_in-pushed q [] none same = cond-true (q.slot == q.slot) (Some q) None same
pin_in-pushed q (x ∷ xs) none same =
    elim (x.slot == q.slot) as (λ b. cond b (Some x) (pin_in q.slot xs) ≡ None
    → cond b (Some x) (pin_in q.slot (xs ++ q ∷ [])) ≡ Some q) [
      | true ↦ λ e. absurd (cc e)
      | false ↦ λ e. pin_in-pushed q xs e same
    ] none

-- those in one slot are taken out
pin_in-removed : (slot : ℕ) (ps : List Held) → pin_in slot (filter (λ p. not (p.slot == slot)) ps) ≡ None
pin_in-removed slot [] = refl
pin_in-removed slot (x ∷ xs) =
    let rest = filter (λ p. not (p.slot == slot)) xs in
    elim (x.slot == slot) as (λ b. (x.slot == slot) ≡ b → pin_in slot (cond (not b) (x ∷ rest) rest) ≡ None) [
      | true ↦ λ e. pin_in-removed slot xs
      | false ↦ λ e. cond-false (x.slot == slot) (Some x) (pin_in slot rest) e ∙ pin_in-removed slot xs
    ] refl

apart-from : (a b c : ℕ) → (a == b) ≡ true → (b == c) ≡ false → (a == c) ≡ false
apart-from a b c e f = ap (λ x. x == c) (eqb-true a b e) ∙ f

pin_in-others : (slot other : ℕ) (ps : List Held) → (other == slot) ≡ false
    → pin_in slot (filter (λ p. not (p.slot == other)) ps) ≡ pin_in slot ps
pin_in-others slot other [] apart = refl
pin_in-others slot other (x ∷ xs) apart =
    let rest = filter (λ p. not (p.slot == other)) xs in
    let same : pin_in slot rest ≡ pin_in slot xs = pin_in-others slot other xs apart in
    elim (x.slot == other) as (λ b. (x.slot == other) ≡ b
    → pin_in slot (cond (not b) (x ∷ rest) rest) ≡ pin_in slot (x ∷ xs)) [
      | true ↦ λ e. same ∙ sym (cond-false (x.slot == slot) (Some x) (pin_in slot xs)
          (apart-from x.slot other slot e apart))
      | false ↦ λ e. ap (λ l. cond (x.slot == slot) (Some x) l) same
    ] refl

-- A pin that is there after a step was there before it, and is not the one that the step gave back; or it is the one
-- that the step took.
abbrev pub Before : State → ℕ → Event → Reply → ℕ → ℕ → ℕ → Type 0
Before s by e r slot owner version =
    (Holds s slot owner version × (unpins slot e ≡ false))
    ⊎ ((e ≡ Pin) × (r ≡ Pinned slot version) × (by ≡ owner))

kept-pins : (s t : State) (slot owner version : ℕ) → t.pins ≡ s.pins → Holds t slot owner version
    → Holds s slot owner version
kept-pins s t slot owner version e h = ap (pin_in slot) (sym e) ∙ h

pin-before : (s : State) (by : ℕ) (r : Reply) (t : State) (slot owner version : ℕ) → PinGives s by r t
    → Holds t slot owner version → Before s by Pin r slot owner version
pin-before s by NoPin t slot owner version g h =
    inl (kept-pins s t slot owner version (ap (λ (x : State). x.pins) g.1) h, refl)
pin-before s by (Pinned other v) t slot owner version g h =
    let p : Held = record { slot = slot; owner = owner; version = version } in
    let q : Held = record { slot = other; owner = by; version = head s.history } in
    elim (pin_in-last slot p q s.pins (ap (λ (x : State). pin_in slot x.pins) (sym g.4) ∙ h)) [
      | inl e ↦ inl (e, refl)
      | inr e ↦ inr (
        refl,
        ap (λ (x : ℕ). Pinned x v) e.0 ∙ ap (λ (x : ℕ). Pinned slot x) (g.3 ∙ ap (λ (x : Held). x.version) e.1),
        ap (λ (x : Held). x.owner) e.1,
      )
    ]
pin-before s by _ t slot owner version g h = absurd g

unpin-before : (s : State) (by other : ℕ) (r : Reply) (t : State) (slot owner version : ℕ) → UnpinGives s by other r t
    → Holds t slot owner version → Before s by (Unpin other) r slot owner version
unpin-before s by other Unpinned t slot owner version g h =
    let filtered : pin_in slot (filter (λ p. not (p.slot == other)) s.pins)
    ≡ Some (record { slot = slot; owner = owner; version = version })
    = ap (λ (x : State). pin_in slot x.pins) (sym g.2) ∙ h in
    elim (other == slot) as (λ b. (other == slot) ≡ b → Before s by (Unpin other) Unpinned slot owner version) [
      | true ↦ λ e.
          let same : other ≡ slot = eqb-true other slot e in
          let gone = ap (λ (k : ℕ). pin_in slot (filter (λ (p : Held). not (p.slot == k)) s.pins)) same
          ∙ pin_in-removed slot s.pins in
          absurd (cc (gone, filtered))
      | false ↦ λ e. inl (sym (pin_in-others slot other s.pins e) ∙ filtered, e)
    ] refl
unpin-before s by other _ t slot owner version g h = absurd g

pub step-before : (s : State) (by : ℕ) (e : Event) (r : Reply) (t : State) (slot owner version : ℕ)
    → Gives s by e r t → is_call e ≡ true → Holds t slot owner version → Before s by e r slot owner version
step-before s by (Commit c) r t slot owner version g calm h =
    inl (kept-pins s t slot owner version (commit-pins s c r t g.1) h, refl)
step-before s by Pin r t slot owner version g calm h = pin-before s by r t slot owner version g.1 h
step-before s by (Fetch other want from limit) r t slot owner version g calm h =
    inl (kept-pins s t slot owner version (fetch-pins s by other want from limit r t g.1) h, refl)
step-before s by (Unpin other) r t slot owner version g calm h = unpin-before s by other r t slot owner version g.1 h
step-before s by Prune r t slot owner version g calm h =
    inl (kept-pins s t slot owner version (prune-pins s r t g.1) h, refl)
step-before s by (Look id) r t slot owner version g calm h =
    inl (kept-pins s t slot owner version (look-pins s id r t g.1) h, refl)
step-before s by Stats r t slot owner version g calm h =
    inl (kept-pins s t slot owner version (stats-pins s r t g.1) h, refl)
step-before s by Compact r t slot owner version g calm h =
    inl (kept-pins s t slot owner version (compact-pins s r t g.1) h, refl)
step-before s by Crash r t slot owner version g calm h = absurd (true≢false (sym calm))
step-before s by Open r t slot owner version g calm h = absurd (true≢false (sym calm))

-- the slot that a Pin takes was free, and is its owner's
pub pin-takes : (s : State) (by slot version : ℕ) (t : State) → PinGives s by (Pinned slot version) t
    → (slot == slot) ≡ true
    → (pin_in slot s.pins ≡ None) × Holds t slot by version
pin-takes s by slot version t g same =
    let q : Held = record { slot = slot; owner = by; version = head s.history } in (
      g.2,
      ap (λ (x : State). pin_in slot x.pins) g.4
          ∙ (pin_in-pushed q s.pins g.2 same
          ∙ ap (λ (v : ℕ). Some (record { slot = slot; owner = by; version = v })) (sym g.3)),
    )
