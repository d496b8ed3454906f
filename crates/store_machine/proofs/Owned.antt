-- Owners of events and of pins.
use Rattle.std.proofs.Common.{◌≡◌, ◌∙◌, ◌++◌, ◌==◌, ◌<◌, ap, Bool, Contains, false, if◌then◌else◌, List, [], ◌∷◌, map, None, Option, refl, Some, subst, sym, true, ℕ}
use Rattle.std.proofs.lemmas.List.{map-append}
use Rattle.store_machine.specs.History.{head}
use Rattle.store_machine.specs.Kept.{IsNeeded, copied}
use Rattle.store_machine.specs.Laws.{IsSound}
use Rattle.store_machine.specs.Machine.{Gives, SlotsApart, pin_in, pinned}
use Rattle.store_machine.specs.declared.machine.Event.{Event}
use Rattle.store_machine.specs.declared.machine.Event.TheVariants.{Commit, Compact, Crash, Fetch, Look, Open, Pin, Prune, Stats, Unpin}
use Rattle.store_machine.specs.declared.machine.Held.{Held}
use Rattle.store_machine.specs.declared.machine.Reply.{Reply}
use Rattle.store_machine.specs.declared.machine.Reply.TheVariants as reply
use Rattle.store_machine.specs.declared.machine.State.{State}
use Rattle.store_machine.specs.Owners.{SameButOwners, is_anyones, unowned}

itself : (s : State) → SameButOwners s s
itself s = record { rest = refl; pins = refl }

not_true : {A : Type 0} → false ≡ true → A
not_true e = absurd (apart e)
  where
    apart : false ≡ true → ⊥
    apart e = cc e

pins-same : (ps : List Held) (p q : Held) → unowned p ≡ unowned q → map unowned (ps ++ p ∷ []) ≡ map unowned (ps ++ q ∷ [])
pins-same ps p q e = map-append unowned ps (p ∷ []) ∙ (ap (λ (x : ℕ × ℕ). map unowned ps ++ x ∷ []) e ∙ sym (map-append unowned ps (q ∷ [])))

pin-reown : (s t : State) (o o' : ℕ) (r : Reply) → Gives s o Pin r t → (t' : State) × Gives s o' Pin r t' × SameButOwners t t'
pin-reown s t o o' reply.NoPin g = (t, g, itself t)
pin-reown s t o o' (reply.Pinned slot version) g =
    let t' : State = record (pinned s slot o') { faults = t.faults } in
    let was : t ≡ record (pinned s slot o) { faults = t.faults } = g.1.4 in (
      t',
      (g.0, (g.1.0, g.1.1, g.1.2, g.1.3, refl)),
      record {
        rest = ap (λ (x : State). record x { pins = t'.pins }) (sym was);
        pins = pins-same s.pins (record { slot = slot; owner = o'; version = head s.history }) (record { slot = slot; owner = o; version = head s.history }) refl
            ∙ ap (λ (x : State). map unowned x.pins) (sym was);
      },
    )
pin-reown s t o o' r g = absurd g.1

pub reown : (s t : State) (o o' : ℕ) (e : Event) (r : Reply) → is_anyones e ≡ true → Gives s o e r t → (t' : State) × Gives s o' e r t' × SameButOwners t t'
reown s t o o' (Commit c) r any g = (t, g, itself t)
reown s t o o' Pin r any g = pin-reown s t o o' r g
reown s t o o' (Fetch slot want from limit) r any g = not_true any
reown s t o o' (Unpin slot) r any g = not_true any
reown s t o o' Prune r any g = (t, g, itself t)
reown s t o o' (Look id) r any g = (t, g, itself t)
reown s t o o' Stats r any g = (t, g, itself t)
reown s t o o' Compact r any g = (t, g, itself t)
reown s t o o' Crash r any g = (t, g, itself t)
reown s t o o' Open r any g = (t, g, itself t)

slot_by : (b : Bool) (p : Held) (x : Option Held) → (if b then Some p else x) ≡ None → (b ≡ false) × (x ≡ None)
slot_by true p x e = absurd (cc e)
slot_by false p x e = (refl, e)

none-same : (k : ℕ) (ps qs : List Held) → map unowned qs ≡ map unowned ps → pin_in k ps ≡ None → pin_in k qs ≡ None
none-same k [] [] e none = refl
none-same k [] (q ∷ qs) e none = absurd (cc e)
none-same k (p ∷ ps) [] e none = absurd (cc e)
none-same k (p ∷ ps) (q ∷ qs) e none =
    let both = slot_by (p.slot == k) p (pin_in k ps) none in
    let h : unowned q ≡ unowned p = cc e in
    let slot : q.slot ≡ p.slot = ap (λ (x : ℕ × ℕ). x.0) h in
    let not_here : (q.slot == k) ≡ false = ap (λ n. n == k) slot ∙ both.0 in
    ap (λ (b : Bool). if b then Some q else pin_in k qs) not_here ∙ none-same k ps qs (cc e) both.1

apart-same : (ps qs : List Held) → map unowned qs ≡ map unowned ps → SlotsApart ps → SlotsApart qs
apart-same [] [] e apart = tt
apart-same [] (q ∷ qs) e apart = absurd (cc e)
apart-same (p ∷ ps) [] e apart = absurd (cc e)
apart-same (p ∷ ps) (q ∷ qs) e apart =
    let h : unowned q ≡ unowned p = cc e in
    let slot : q.slot ≡ p.slot = ap (λ (x : ℕ × ℕ). x.0) h in (
      subst (λ n. n < 64) (sym slot) apart.0,
      subst (λ n. pin_in n qs ≡ None) (sym slot) (none-same p.slot ps qs (cc e) apart.1),
      apart-same ps qs (cc e) apart.2,
    )

versions-same : (ps qs : List Held) → map unowned qs ≡ map unowned ps → map (λ (p : Held). p.version) qs ≡ map (λ (p : Held). p.version) ps
versions-same [] [] e = refl
versions-same [] (q ∷ qs) e = absurd (cc e)
versions-same (p ∷ ps) [] e = absurd (cc e)
versions-same (p ∷ ps) (q ∷ qs) e =
    let h : unowned q ≡ unowned p = cc e in
    let version : q.version ≡ p.version = ap (λ (x : ℕ × ℕ). x.1) h in
    ap (λ n. n ∷ map (λ (x : Held). x.version) qs) version ∙ ap (λ l. p.version ∷ l) (versions-same ps qs (cc e))

sound-same : (s : State) (ps : List Held) → map unowned ps ≡ map unowned s.pins → IsSound s → IsSound (record s { pins = ps })
sound-same s ps e i = record {
  history = i.history;
  doubt = i.doubt;
  slots = apart-same s.pins ps e i.slots;
  pins = λ v c. i.pins v (subst (λ l. Contains l v) (versions-same s.pins ps e) c);
  bases = record { base = i.bases.base; copy = i.bases.copy; finish = i.bases.finish };
  kept = λ serves entry needed. i.kept serves entry
      (subst (λ l. IsNeeded s.history l entry)
      (ap (λ l. l ++ (copied s.copy ++ head s.history ∷ [])) (versions-same s.pins ps e)) needed);
  made = i.made;
}

pub sound-all : (s t : State) → SameButOwners s t → IsSound s → IsSound t
sound-all s t same i = subst IsSound (sym same.rest) (sound-same s t.pins same.pins i)
