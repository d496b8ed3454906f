-- What each step keeps: a pin that its owner does not give back is held.
use Rattle.std.proofs.Common.{◌≡◌, ◌++◌, ◌==◌, ◌∙◌, ap, Bool, cond, eqb-true, false, filter, inl, inr, List, [], ◌∷◌, None, not, Option, refl, Some, sym, true, ℕ, subst}
use Rattle.std.proofs.lemmas.Bool.{cond-false, true≢false}
use Rattle.store_machine.specs.History.{head}
use Rattle.store_machine.specs.Machine.{Becomes, CommitGives, CompactGives, DoubtAfter, EndsDoubts, FetchGives, Gives, GivesUp, Holds, LookGives, PinGives, PruneGives, StatsGives, UnpinGives, copying, pin_in, replaced}
use Rattle.store_machine.specs.Runs.{is_call}
use Rattle.store_machine.specs.Searches.{unpins}
use Rattle.store_machine.specs.declared.machine.Change.{Change}
use Rattle.store_machine.specs.declared.machine.Event.{Event}
use Rattle.store_machine.specs.declared.machine.Event.TheVariants.{Commit, Compact, Crash, Fetch, Look, Open, Pin, Prune, Stats, Unpin}
use Rattle.store_machine.specs.declared.machine.Held.{Held}
use Rattle.store_machine.specs.declared.machine.Reply.{Reply}
use Rattle.store_machine.specs.declared.machine.Reply.TheVariants.{Absent, Committed, Counted, DiskFault, Done, Full, Known, Last, Looked, More, NoMemory, NoPin, Page, Pinned, Pruned, Unpinned, Withdrawn}
use Rattle.store_machine.specs.declared.machine.State.{State}

-- a page, a record and the counts change nothing
pub fetch-same : (s : State) (owner slot : ℕ) (want : List Bool) (from limit : ℕ) (r : Reply) (s' : State)
    → FetchGives s owner slot want from limit r s' → Becomes s s'
fetch-same s owner slot want from limit (Page records last) s' g = g.3
fetch-same s owner slot want from limit NoMemory s' g = g.2
fetch-same s owner slot want from limit _ s' g = absurd g

pub look-same : (s : State) (id : ℕ) (r : Reply) (s' : State) → LookGives s id r s' → Becomes s s'
look-same s id (Looked status) s' g = g.1
look-same s id NoMemory s' g = g
look-same s id _ s' g = absurd g

pub stats-same : (s : State) (r : Reply) (s' : State) → StatsGives s r s' → Becomes s s'
stats-same s (Counted version live withdrawn kept pins) s' g = g.5
stats-same s _ s' g = absurd g

-- what a copy does changes neither pins nor the history
abbrev pub IsAside : State → State → Type 0
IsAside s s' = (s'.pins ≡ s.pins) × (s'.history ≡ s.history)

aside : (s t s' : State) → t.pins ≡ s.pins → t.history ≡ s.history → Becomes t s' → IsAside s s'
aside s t s' pins history b = (ap (λ (x : State). x.pins) b ∙ pins, ap (λ (x : State). x.history) b ∙ history)

given-up : (s : State) (doubt : Bool) (s' : State) → GivesUp s doubt s' → IsAside s s'
given-up s true s' g = aside s (record s { copy = None; finish = Some g.0 }) s' refl refl g.2
given-up s false s' g = aside s (record s { copy = None; finish = s'.finish }) s' refl refl g.2

pub compact-aside : (s : State) (r : Reply) (s' : State) → CompactGives s r s' → IsAside s s'
compact-aside s Last s' g = aside s s s' refl refl g.2
compact-aside s (More left) s' (inl g) = aside s (record (copying s (head s.history) left) { finish = None }) s' refl refl
    g.3
compact-aside s (More left) s' (inr g) = aside s (copying s g.0 left) s' refl refl g.5
compact-aside s (Done generation) s' g = aside s (replaced s g.1) s' refl refl g.3
compact-aside s (DiskFault doubt) s' g = given-up s doubt s' g.1
compact-aside s NoMemory s' g = aside s (record s { copy = s'.copy; finish = s'.finish }) s' refl refl g.2
compact-aside s _ s' g = absurd g

-- one slot has one owner and one version
owner_in : Option Held → ℕ
owner_in None = 0
owner_in (Some p) = p.owner

version_in : Option Held → ℕ
version_in None = 0
version_in (Some p) = p.version

pub one-owner : (s : State) (slot owner version owner' version' : ℕ) → Holds s slot owner version
    → Holds s slot owner' version' → owner' ≡ owner
unfolding owner_in
one-owner s slot owner version owner' version' h g = ap owner_in (sym g ∙ h)

pub one-version : (s : State) (slot owner version owner' version' : ℕ) → Holds s slot owner version
    → Holds s slot owner' version' → version' ≡ version
unfolding version_in
one-version s slot owner version owner' version' h g = ap version_in (sym g ∙ h)

pin_in-pushed : (slot : ℕ) (p q : Held) (ps : List Held) → pin_in slot ps ≡ Some p → pin_in slot (ps ++ q ∷ []) ≡ Some p
pin_in-pushed slot p q [] h = cc
pin_in-pushed slot p q (x ∷ xs) h =
    elim (x.slot == slot) as (λ b. cond b (Some x) (pin_in slot xs) ≡ Some p
    → cond b (Some x) (pin_in slot (xs ++ q ∷ [])) ≡ Some p) [
      | true ↦ λ e. e
      | false ↦ λ e. pin_in-pushed slot p q xs e
    ] h

apart-from : (a b c : ℕ) → (a == b) ≡ true → (b == c) ≡ false → (a == c) ≡ false
apart-from a b c e f = ap (λ x. x == c) (eqb-true a b e) ∙ f

pin_in-others : (slot other : ℕ) (ps : List Held) → (other == slot) ≡ false
    → pin_in slot (filter (λ p. not (p.slot == other)) ps) ≡ pin_in slot ps
pin_in-others slot other [] apart = refl
pin_in-others slot other (x ∷ xs) apart =
    let rest = filter (λ p. not (p.slot == other)) xs in
    let same : pin_in slot rest ≡ pin_in slot xs = pin_in-others slot other xs apart in
    elim (x.slot == other) as (λ b. (x.slot == other) ≡ b
    → pin_in slot (cond (not b) (x ∷ rest) rest) ≡ pin_in slot (x ∷ xs)) [
      | true ↦ λ e. same ∙ sym (cond-false (x.slot == slot) (Some x) (pin_in slot xs)
          (apart-from x.slot other slot e apart))
      | false ↦ λ e. ap (λ l. cond (x.slot == slot) (Some x) l) same
    ] refl

doubt-pins : (s s' : State) → EndsDoubts s s' → s'.pins ≡ s.pins
doubt-pins s s' g = ap (λ x. x.pins) g.2

after-pins : (s : State) (c : Change) (doubt : Bool) (s' : State) → DoubtAfter s c doubt s' → s'.pins ≡ s.pins
after-pins s c true s' b = ap (λ x. x.pins) b
after-pins s c false s' b = doubt-pins s s' b

commit-pins : (s : State) (c : Change) (r : Reply) (s' : State) → CommitGives s c r s' → s'.pins ≡ s.pins
commit-pins s c Known s' g = ap (λ x. x.pins) g.1
commit-pins s c Absent s' g = ap (λ x. x.pins) g.1
commit-pins s c Withdrawn s' g = ap (λ x. x.pins) g.1
commit-pins s c Full s' g = ap (λ x. x.pins) g.2
commit-pins s c (DiskFault doubt) s' g = after-pins s c doubt s' g.2
commit-pins s c NoMemory s' g = doubt-pins s s' g
commit-pins s c (Committed version) s' g = ap (λ x. x.pins) g.2
commit-pins s c _ s' g = absurd g

pin-holds : (s : State) (owner : ℕ) (r : Reply) (s' : State) (slot : ℕ) (p : Held) → PinGives s owner r s'
    → pin_in slot s.pins ≡ Some p → pin_in slot s'.pins ≡ Some p
pin-holds s owner NoPin s' slot p g h = ap (λ x. pin_in slot x.pins) g.1 ∙ h
pin-holds s owner (Pinned other version) s' slot p g h = ap (λ x. pin_in slot x.pins) g.4
    ∙ pin_in-pushed slot p _ s.pins h
pin-holds s owner _ s' slot p g h = absurd g

-- the slot of another pin, or an Unpin of the owner's own
unpin-holds : (s : State) (by other : ℕ) (r : Reply) (s' : State) (slot owner version : ℕ) → UnpinGives s by other r s'
    → (by ≡ owner → (other == slot) ≡ false) → Holds s slot owner version → Holds s' slot owner version
unpin-holds s by other Unpinned s' slot owner version g keeps h =
    elim (other == slot) as (λ b. (other == slot) ≡ b → Holds s' slot owner version) [
      | true ↦ λ e. absurd (true≢false (sym e
          ∙ keeps (one-owner s slot owner version by g.0 h
          (subst (λ k. Holds s k by g.0) (eqb-true other slot e) g.1))))
      | false ↦ λ e. ap (λ x. pin_in slot x.pins) g.2 ∙ (pin_in-others slot other s.pins e ∙ h)
    ] refl
unpin-holds s by other _ s' slot owner version g keeps h = absurd g

prune-pins : (s : State) (r : Reply) (s' : State) → PruneGives s r s' → s'.pins ≡ s.pins
prune-pins s (Pruned dropped) s' g = ap (λ x. x.pins) g.2
prune-pins s _ s' g = absurd g

same-pins : (slot : ℕ) (s s' : State) → Becomes s s' → pin_in slot s'.pins ≡ pin_in slot s.pins
same-pins slot s s' b = ap (λ x. pin_in slot x.pins) b

pub holds-step : (s : State) (by : ℕ) (e : Event) (r : Reply) (s' : State) (slot owner version : ℕ)
    → Gives s by e r s' → is_call e ≡ true → (by ≡ owner → unpins slot e ≡ false) → Holds s slot owner version
    → Holds s' slot owner version
holds-step s by (Commit c) r s' slot owner version g calm keeps h = ap (pin_in slot) (commit-pins s c r s' g.1) ∙ h
holds-step s by Pin r s' slot owner version g calm keeps h = pin-holds s by r s' slot _ g.1 h
holds-step s by (Fetch other want from limit) r s' slot owner version g calm keeps h = same-pins slot s s'
    (fetch-same s by other want from limit r s' g.1) ∙ h
holds-step s by (Unpin other) r s' slot owner version g calm keeps h = unpin-holds s by other r s' slot owner version
    g.1 keeps h
holds-step s by Prune r s' slot owner version g calm keeps h = ap (pin_in slot) (prune-pins s r s' g.1) ∙ h
holds-step s by (Look id) r s' slot owner version g calm keeps h = same-pins slot s s' (look-same s id r s' g.1) ∙ h
holds-step s by Stats r s' slot owner version g calm keeps h = same-pins slot s s' (stats-same s r s' g.1) ∙ h
holds-step s by Compact r s' slot owner version g calm keeps h = ap (pin_in slot) (compact-aside s r s' g.1).0 ∙ h
holds-step s by Crash r s' slot owner version g calm keeps h = absurd (true≢false (sym calm))
holds-step s by Open r s' slot owner version g calm keeps h = absurd (true≢false (sym calm))
