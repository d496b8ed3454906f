-- The rows of Pin, Unpin, Look and Stats, as a store makes them.
use Rattle.std.proofs.Common.{◌≡◌, ◌≢◌, ◌++◌, ◌==◌, ◌<◌, ◌↔◌, ◌∙◌, ap, arith, Bool, cond, Contains, eq-eqb, eqb-true, Err, false, filter, IfErr, IfOk, inl, inr, length, List, [], ◌∷◌, map, MatchOption, None, not, Ok, Option, option_map, refl, Result, Some, subst, suc, sym, true, ℕ}
use Rattle.std.proofs.lemmas.Bool.{cond-false, cond-true, cond_both, false_from_ne_true, true≢false}
use Rattle.std.proofs.lemmas.List.{length-map, map-append}
use Rattle.snap_registry.specs.Pins.{IsFree, is_other}
use Rattle.snap_registry.specs.declared.Pin.{Pin}
use Rattle.store_machine.specs.History.{head}
use Rattle.store_machine.specs.Laws.{IsSound, KeptIsRead, RunsStaySound, StatesStay}
use Rattle.store_machine.specs.Machine.{Gives, SlotsApart, pin_in, pinned, unpinned}
use Rattle.store_machine.specs.declared.machine.Event.{Event}
use Rattle.store_machine.specs.declared.machine.Event.TheVariants as event
use Rattle.store_machine.specs.declared.machine.Held.{Held}
use Rattle.store_machine.specs.declared.machine.Reply.{Reply}
use Rattle.store_machine.specs.declared.machine.Reply.TheVariants as reply
use Rattle.store_machine.specs.declared.machine.State.{State}
use Rattle.store_machine.specs.declared.machine.Status.{Status}
use Rattle.store_core.specs.Calls.{Calls}
use Rattle.record_versions.specs.Entries.{IsLatest, chain_of, entries}
use Rattle.store_core.specs.Kept.{Kept, KeptTerm, status_of}
use Rattle.store_core.specs.Replies.{look_calls, looked, pin_reply}
use Rattle.store_core.specs.Stored.{IsAt, IsChain, Served, StandsFor, StoreTerm, Stretches, alone, pin_of, served}
use Rattle.store_core.specs.declared.words.CallFault.{CallFault}
use Rattle.store_core.specs.declared.words.CallFault.TheVariants as call
use Rattle.store_core.specs.declared.words.Look.{Look}
use Rattle.store_machine.proofs.Members.{contains-here, contains-split, contains-there}
use Rattle.store_core.proofs.Copied.{head-kept}
use Rattle.store_core.proofs.OneCall.{alone-sound, one-call, serves, step_of}
use Rattle.store_core.proofs.Sees.{sees}

-- a step keeps a sound state sound
pub sound-after : RunsStaySound → (s t : State) (owner : ℕ) (e : Event) (r : Reply) → Gives s owner e r t → IsSound s
    → IsSound t
sound-after law s t owner e r gives sound = law s t (step_of owner e r s t ∷ []) (refl, gives, refl) sound

chain-of : (s : Served) (pins : List Held) (id : ℕ) (ks : List Kept) → IsChain s id ks
    → IsChain (record s { pins = pins }) id ks
chain-of s pins id ks h = record { late = h.late; states = h.states; records = h.records }

pub pins-stand : (store : StoreTerm) (s : Served) (pins : List Held) (held : List Pin) → StandsFor store s
    → IsSound (alone (record s { pins = pins })) → map pin_of pins ≡ held
    → StandsFor (record store { pins = held }) (record s { pins = pins })
pins-stand store s pins held h sound e = record {
  sound = sound;
  version = h.version;
  limit = h.limit;
  most = h.most;
  within = h.within;
  pins = e;
  kept = h.kept;
  few = h.few;
  live = h.live;
  withdrawn = h.withdrawn;
  ids = h.ids;
  chains = λ id. chain-of s pins id _ (h.chains id);
}

-- memory was taken
pub reserved-stands : (store : StoreTerm) (kept : KeptTerm) (s : Served)
    → entries kept.chains ≡ entries store.kept.chains
    → ((q : ℕ) → chain_of kept.chains q ≡ chain_of store.kept.chains q) → StandsFor store s
    → StandsFor (record store { kept = kept }) s
reserved-stands store kept s all same h = record {
  sound = h.sound;
  version = h.version;
  limit = h.limit;
  most = h.most;
  within = h.within;
  pins = h.pins;
  kept = record {
    distinct = h.kept.distinct;
    exactly = λ e. (
      (λ c. let r = (h.kept.exactly e).0 c in (r.0, subst (λ ks. Contains ks r.0) (sym (same e.id)) r.1, r.2)),
      (λ r. (h.kept.exactly e).1 (r.0, subst (λ ks. Contains ks r.0) (same e.id) r.1, r.2)),
    );
    count = ap (λ l. length l) all ∙ h.kept.count;
  };
  few = h.few;
  live = h.live;
  withdrawn = h.withdrawn;
  ids = h.ids;
  chains = λ id. subst (IsChain s id) (sym (same id)) (h.chains id);
}

pub other-pins : (store : StoreTerm) (s : State) (pins : List Held) (held : List Pin) → IsAt store s
    → IsSound (record s { pins = pins }) → map pin_of pins ≡ held
    → IsAt (record store { pins = held }) (record s { pins = pins })
other-pins store s pins held h sound e = record {
  sound = sound;
  serves = h.serves;
  copy = h.copy;
  finish = h.finish;
  generation = h.generation;
  stands = pins-stand store (served s) pins held h.stands
      (alone-sound (record s { pins = pins }) sound h.serves h.copy) e;
}

-- a slot that no pin of a registry has
free-slot : (slot : ℕ) (ps : List Held) → IsFree slot (map pin_of ps) → pin_in slot ps ≡ None
free-slot slot [] free = refl
free-slot slot (p ∷ ps) free =
    let other : p.slot ≢ slot = free 0 (pin_of p) (omega arith) in
    cond-false (p.slot == slot) (Some p) (pin_in slot ps)
    (false_from_ne_true (p.slot == slot) (λ t. other (eqb-true p.slot slot t)))
    ∙ free-slot slot ps (λ k d less. free (suc k) d (omega (arith, less)))

-- what a Pin leaves
pub record Outcome (store : StoreTerm) (s : State) (pins : List Pin) (e : Event) (r : Reply) : Type 0 where
  pub after : State
  pub stands : IsAt (record store { pins = pins }) after
  pub gives : Gives s 0 e r after

pin-taken : RunsStaySound → (store : StoreTerm) (s : State) (p : Pin) (pins : List Pin) → IsAt store s
    → p.version ≡ store.version → pins ≡ store.pins ++ p ∷ [] → length store.pins < 64 → p.slot < 64
    → IsFree p.slot store.pins
    → Outcome store s pins event.Pin (reply.Pinned p.slot p.version)
pin-taken law store s p pins h v e few below free =
    let t : State = pinned s p.slot 0 in
    let at : p.version ≡ head s.history = v ∙ h.stands.version in
    let count : length s.pins < 64 = omega (arith, few, ap (λ l. length l) h.stands.pins, length-map s.pins pin_of) in
    let gives : Gives s 0 event.Pin (reply.Pinned p.slot p.version)
    t = (
      serves s h.serves,
      (
        count,
        below,
        free-slot p.slot s.pins
            (subst (IsFree p.slot) (sym h.stands.pins) free),
        at,
        refl,
      ),
    ) in
    let new : map pin_of t.pins ≡ pins =
    map-append pin_of s.pins (record { slot = p.slot; owner = 0; version = head s.history } ∷ [])
    ∙ (ap (λ l. l ++ record { slot = p.slot; version = head s.history } ∷ []) h.stands.pins
    ∙ (ap (λ n. store.pins ++ record { slot = p.slot; version = n } ∷ []) (sym at) ∙ sym e)) in
    record {
      after = t;
      stands = other-pins store s t.pins pins h
          (sound-after law s t 0 event.Pin (reply.Pinned p.slot p.version) gives h.sound) new;
      gives = gives;
    }

pub pin-outcome : RunsStaySound → (store : StoreTerm) (s : State) (r : Option Pin) (pins : List Pin) → IsAt store s
    → MatchOption r (pins ≡ store.pins) (λ p. (p.version ≡ store.version) × (pins ≡ store.pins ++ p ∷ []))
    → MatchOption r (length store.pins ≡ 64) (λ _. length store.pins < 64)
    → MatchOption r (Unit {0}) (λ p. (p.slot < 64) × IsFree p.slot store.pins)
    → Outcome store s pins event.Pin (pin_reply r)
pin-outcome law store s None pins h same full free = record {
  after = s;
  stands = subst (λ l. IsAt (record store { pins = l }) s) (sym same) h;
  gives = (serves s h.serves, (omega (arith, full, ap (λ l. length l) h.stands.pins, length-map s.pins pin_of), refl));
}
pin-outcome law store s (Some p) pins h new few free = pin-taken law store s p pins h new.0 new.1 few free.0 free.1

-- a pin of the registry is held, by some owner
pub held-in : (pin : Pin) (ps : List Held) → SlotsApart ps → Contains (map pin_of ps) pin
    → (owner : ℕ) × (pin_in pin.slot ps ≡ Some (record { slot = pin.slot; owner = owner; version = pin.version }))
held-in pin [] apart c = absurd (omega (arith, c.1))
held-in pin (p ∷ ps) apart c =
    elim (contains-split (pin_of p) pin (map pin_of ps) c) [
      | inl e ↦ (
        p.owner,
        cond-true (p.slot == pin.slot) (Some p) (pin_in pin.slot ps)
            (eq-eqb p.slot pin.slot (ap (λ (q : Pin). q.slot) e))
            ∙ ap (λ (q : Pin). Some (record { slot = q.slot; owner = p.owner; version = q.version })) e,
      )
      | inr d ↦
          let rest = held-in pin ps apart.2 d in (
            rest.0,
            cond-false (p.slot == pin.slot) (Some p) (pin_in pin.slot ps)
                (false_from_ne_true (p.slot == pin.slot)
                (λ t. none-some (sym (subst (λ k. pin_in k ps ≡ None) (eqb-true p.slot pin.slot t) apart.1) ∙ rest.1)))
                ∙ rest.1,
          )
    ]
  where
    none-some : {X : Type 0} {x : X} → None ≡ Some x → ⊥
    none-some e = cc

others-mapped : (slot : ℕ) (ps : List Held) → map pin_of (filter (λ p. not (p.slot == slot)) ps)
    ≡ filter (is_other slot) (map pin_of ps)
others-mapped slot [] = refl
others-mapped slot (p ∷ ps) =
    let rest = filter (λ (q : Held). not (q.slot == slot)) ps in
    elim (not (p.slot == slot)) as (λ b. map pin_of (cond b (p ∷ rest) rest)
    ≡ cond b (pin_of p ∷ filter (is_other slot) (map pin_of ps)) (filter (is_other slot) (map pin_of ps))) [
      | true ↦ ap (λ l. pin_of p ∷ l) (others-mapped slot ps)
      | false ↦ others-mapped slot ps
    ]

-- what an Unpin leaves, of the owner that holds the pin
pub record Given (store : StoreTerm) (s : State) (pin : Pin) (pins : List Pin) : Type 0 where
  pub owner : ℕ
  pub after : State
  pub stands : IsAt (record store { pins = pins }) after
  pub gives : Gives s owner (event.Unpin pin.slot) reply.Unpinned after

pub unpin-given : RunsStaySound → (store : StoreTerm) (s : State) (pin : Pin) (pins : List Pin) → IsAt store s
    → Contains store.pins pin → pins ≡ filter (is_other pin.slot) store.pins → Given store s pin pins
unpin-given law store s pin pins h c e =
    let t : State = unpinned s pin.slot in
    let held = held-in pin s.pins h.sound.slots (subst (λ l. Contains l pin) (sym h.stands.pins) c) in
    let gives : Gives s held.0 (event.Unpin pin.slot) reply.Unpinned
    t = (serves s h.serves, (pin.version, held.1, refl)) in
    let new : map pin_of t.pins ≡ pins = others-mapped pin.slot s.pins
    ∙ (ap (λ l. filter (is_other pin.slot) l) h.stands.pins ∙ sym e) in
    record {
      owner = held.0;
      after = t;
      stands = other-pins store s t.pins pins h
          (sound-after law s t held.0 (event.Unpin pin.slot) reply.Unpinned gives h.sound) new;
      gives = gives;
    }

-- Stats
pub stats-gives : (store : StoreTerm) (s : State) (kept pins : ℕ) → IsAt store s
    → kept ≡ length (entries store.kept.chains) → pins ≡ length store.pins
    → Gives s 0 event.Stats (reply.Counted store.version store.live store.withdrawn kept pins) s
stats-gives store s kept pins h n e = (
  serves s h.serves,
  (
    h.stands.version,
    h.stands.live,
    h.stands.withdrawn,
    n
        ∙ h.stands.kept.count,
    e
        ∙ (ap (λ l. length l) (sym h.stands.pins) ∙ length-map s.pins pin_of),
    refl,
  ),
)

-- of the registry's pins those of other slots stay
pub others-held : (pin : Pin) (slot version : ℕ) (ps : List Pin)
    → Contains (filter (is_other pin.slot) ps) (record { slot = slot; version = version })
    ↔ (Contains ps (record { slot = slot; version = version }) × ¬ (pin.slot ≡ slot))
others-held pin slot version ps = (go ps, λ h. back ps h.0 h.1)
  where
    x : Pin
    x = record { slot = slot; version = version }

    go : (ps : List Pin) → Contains (filter (is_other pin.slot) ps) (record { slot = slot; version = version })
        → Contains ps (record { slot = slot; version = version }) × ¬ (pin.slot ≡ slot)
    go [] c = absurd (omega (arith, c.1))
    go (p ∷ ps) c =
        elim (p.slot == pin.slot) as (λ b. (p.slot == pin.slot) ≡ b
        → Contains (cond (not b) (p ∷ filter (is_other pin.slot) ps) (filter (is_other pin.slot) ps))
        (record { slot = slot; version = version }) → Contains (p ∷ ps) (record { slot = slot; version = version })
        × ¬ (pin.slot ≡ slot)) [
          | true ↦ λ e d. let r = go ps d in (contains-there p _ ps r.0, r.1)
          | false ↦ λ e d. elim (contains-split p (record { slot = slot; version = version })
              (filter (is_other pin.slot) ps) d) [
                | inl f ↦ (
                  contains-here p _ ps f,
                  λ g. true≢false
                      (sym (eq-eqb p.slot pin.slot (ap (λ (q : Pin). q.slot) f ∙ sym g)) ∙ e),
                )
                | inr f ↦ let r = go ps f in (contains-there p _ ps r.0, r.1)
              ]
        ] refl c

    back : (ps : List Pin) → Contains ps (record { slot = slot; version = version }) → ¬ (pin.slot ≡ slot)
        → Contains (filter (is_other pin.slot) ps) (record { slot = slot; version = version })
    back [] c other = absurd (omega (arith, c.1))
    back (p ∷ ps) c other =
        elim (contains-split p (record { slot = slot; version = version }) ps c) [
          | inl f ↦
              subst (λ b. Contains (cond (not b) (p ∷ filter (is_other pin.slot) ps) (filter (is_other pin.slot) ps))
              (record { slot = slot; version = version }))
              (sym (false_from_ne_true (p.slot == pin.slot)
              (λ t. other (sym (eqb-true p.slot pin.slot t) ∙ ap (λ (q : Pin). q.slot) f))))
              (contains-here p _ (filter (is_other pin.slot) ps) f)
          | inr d ↦ cond_both (not (p.slot == pin.slot)) (p ∷ filter (is_other pin.slot) ps)
              (filter (is_other pin.slot) ps) (λ l. Contains l (record { slot = slot; version = version }))
              (λ _. contains-there p _ (filter (is_other pin.slot) ps) (back ps d other)) (λ _. back ps d other)
        ]

-- Look
look-ok : KeptIsRead → StatesStay → (store : StoreTerm) (s : State) (id : ℕ) (o : Option Kept) (status : Option Status)
    → IsAt store s → IsLatest store.version (chain_of store.kept.chains id) o → status ≡ option_map status_of o
    → Calls Stretches (λ _. true) store store s ((event.Look id, reply.Looked status) ∷ [])
look-ok read stay store s id o status h latest e =
    let seen = sees read store s (head s.history) id h.stands (head-kept store s h.stands) stay o
    (subst (λ v. IsLatest v (chain_of store.kept.chains id) o) h.stands.version latest) in
    one-call store store s s 0 (event.Look id) (reply.Looked status) refl h (serves s h.serves, (e ∙ sym seen, refl)) h

pub look-call : KeptIsRead → StatesStay → (store : StoreTerm) (s : State) (id : ℕ) (o : Option Kept)
    (r : Result Look CallFault) → IsAt store s → IsLatest store.version (chain_of store.kept.chains id) o
    → IfOk r (λ l. looked l ≡ option_map status_of o) → IfErr r (λ e. e ≡ call.NoMemory)
    → Calls Stretches (λ _. true) store store s (look_calls id r)
look-call read stay store s id o (Ok l) h latest ok err = look-ok read stay store s id o (looked l) h latest ok
look-call read stay store s id o (Err call.NoMemory) h latest ok err = one-call store store s s 0
    (event.Look id) reply.NoMemory refl h (serves s h.serves, refl) h
look-call read stay store s id o (Err call.Worn) h latest ok err = absurd (other-fault err)
  where
    is-worn : CallFault → Bool
    is-worn call.Worn = true
    is-worn call.NoMemory = false

    other-fault : call.Worn ≡ call.NoMemory → ⊥
    other-fault e = true≢false (ap is-worn e)
