-- The row of Prune, as a store makes it.
use Rattle.std.proofs.Common.{◌≡◌, ◌+◌, ◌++◌, ◌↔◌, ◌∙◌, ap, arith, Contains, IfSome, inl, inr, length, List, [], ◌∷◌, map, None, Option, option_map, refl, Some, subst, sym, true, ℕ}
use Rattle.std.proofs.lemmas.List.Elements.{Contains-append_left, Contains-append_right, Contains-push}
use Rattle.std.specs.FinMap.{get}
use Rattle.std.specs.Option.{option_to_list}
use Rattle.record_versions.specs.Entries.{IsRead, chain_of}
use Rattle.snap_registry.specs.declared.Pin.{Pin}
use Rattle.store_machine.specs.History.{head, snapshot}
use Rattle.store_machine.specs.Kept.{IsNeeded, copied, in_use}
use Rattle.store_machine.specs.Laws.{KeptIsRead, RunsStaySound, StatesStay}
use Rattle.store_machine.specs.Machine.{Gives}
use Rattle.store_machine.specs.declared.machine.Copying.{Copying}
use Rattle.store_machine.specs.declared.machine.Entry.{Entry}
use Rattle.store_machine.specs.declared.machine.Event.TheVariants as event
use Rattle.store_machine.specs.declared.machine.Held.{Held}
use Rattle.store_machine.specs.declared.machine.Reply.TheVariants as reply
use Rattle.store_machine.specs.declared.machine.State.{State}
use Rattle.store_core.specs.Calls.{Calls}
use Rattle.store_core.specs.Copied.{KeepsCopy, KeepsVersion, Prunes}
use Rattle.store_core.specs.Kept.{HasEntry, Kept, KeptTerm, Lists, status_of}
use Rattle.store_core.specs.Stored.{IsAt, StandsFor, StoreTerm, Stretches, alone, pin_of, served}
use Rattle.store_core.proofs.Copied.{at-copy, each-used, head-kept, one-version, pin-kept}
use Rattle.store_core.proofs.OneCall.{one-call, serves}
use Rattle.store_core.proofs.Rows.{sound-after}
use Rattle.store_core.proofs.Sees.{latest-of, made-of, sees}
use Rattle.store_machine.proofs.Members.{contains-split}

abbrev pub versions : List Pin → List ℕ
versions ps = map (λ p. p.version) ps

same-versions : (ps : List Held) → versions (map pin_of ps) ≡ map (λ (p : Held). p.version) ps
same-versions [] = refl
same-versions (p ∷ ps) = ap (λ l. p.version ∷ l) (same-versions ps)

same-copied : (o : Option Copying) → option_to_list (option_map (λ (copy : Copying). copy.version) o) ≡ copied o
same-copied None = refl
same-copied (Some copy) = refl

-- what a prune leaves: what is read at one of these versions
abbrev pub Left : List ℕ → KeptTerm → KeptTerm → Type 0
Left live old new = (id : ℕ) (k : Kept) → Contains (chain_of new.chains id) k
    ↔ (Contains (chain_of old.chains id) k × IsRead live (chain_of old.chains id) k)

module _ (read : KeptIsRead) (stay : StatesStay) (store : StoreTerm) (s : State) (h : StandsFor store (served s))
    (live : List ℕ) (one : Option ℕ)
    (is : live ≡ versions store.pins ++ (option_to_list one ++ store.version ∷ [])) (kept : KeptTerm)
    (left : Left live store.kept kept) (es : List Entry) (l : Lists es kept.chains) (dropped : ℕ)
    (count : dropped + length es ≡ length s.kept) where
  abbrev pub after : State
  after = record s { kept = es }

  -- the same versions in the machine's words
  live-is : live ≡ map (λ p. p.version) s.pins ++ (option_to_list one ++ head s.history ∷ [])
  live-is = is ∙ (ap (λ ps. versions ps ++ (option_to_list one ++ store.version ∷ [])) (sym h.pins)
      ∙ (ap (λ vs. vs ++ (option_to_list one ++ store.version ∷ [])) (same-versions s.pins)
      ∙ ap (λ v. map (λ (p : Held). p.version) s.pins ++ (option_to_list one ++ v ∷ [])) h.version))

  -- what is left was kept, and what is needed at one of the versions is left
  was : (e : Entry) → Contains es e → Contains s.kept e
  was e c = let (k, there, version) = (l.exactly e).0 c in (h.kept.exactly e).1 (k, ((left e.id k).0 there).0, version)

  left-at : (v : ℕ) → Contains live v → KeepsVersion s v → (e : Entry) → IsNeeded s.history (v ∷ []) e → Contains es e
  left-at v used keeps e n =
      let here : get (snapshot s.history v) e.id ≡ Some n.status = elim (contains-split v n.at [] n.used)
      [ inl same ↦ rw same n.state | inr none ↦ absurd (omega (arith, none.1)) ] in
      let r = latest-of read store s v e.id h keeps n.status here in
      (l.exactly e).1 (r.k, (left e.id r.k).1 (r.latest.0, (v, used, r.latest)), r.version ∙ n.made)

  left-alone : (e : Entry) → IsNeeded s.history (in_use (alone (served s))) e → Contains es e
  left-alone e n = each-used (alone (served s)) (λ v. IsNeeded s.history (v ∷ []) e → Contains es e)
      (λ v c. left-at v (subst (λ vs. Contains vs v) (sym live-is)
      (Contains-append_left (map (λ (p : Held). p.version) s.pins) _ v c)) (pin-kept store s h v c) e)
      (λ v c. absurd (omega (arith, c.1)))
      (left-at (head s.history) (subst (λ vs. Contains vs (head s.history)) (sym live-is)
      (Contains-append_right (map (λ (p : Held). p.version) s.pins) _ (head s.history)
      (Contains-push (option_to_list one) (head s.history)))) (head-kept store s h) e) n.at n.used (one-version n)

  pub left-stands : StandsFor (record store { kept = kept }) (served after)
  left-stands = record {
    sound = record {
      history = h.sound.history;
      doubt = tt;
      slots = h.sound.slots;
      pins = h.sound.pins;
      bases = record { base = h.sound.bases.base; copy = tt; finish = tt };
      kept = λ _. left-alone;
      made = λ _ e c. h.sound.made refl e (was e c);
    };
    version = h.version;
    limit = h.limit;
    most = h.most;
    within = h.within;
    pins = h.pins;
    kept = l;
    few = omega (arith, count, h.few);
    live = h.live;
    withdrawn = h.withdrawn;
    ids = h.ids;
    chains = λ id. let k = h.chains id in record {
      late = λ x c. k.late x ((left id x).0 c).0;
      states = λ x c. k.states x ((left id x).0 c).0;
      records = λ x c. k.records x ((left id x).0 c).0;
    };
  }

  -- where the one version is that of a copy
  module _ (keeps : KeepsCopy one s) where
    all-used : live ≡ in_use s
    all-used = live-is ∙ ap (λ vs. map (λ (p : Held). p.version) s.pins ++ (vs ++ head s.history ∷ []))
        (ap option_to_list keeps.0 ∙ same-copied s.copy)

    used-keeps : (v : ℕ) → Contains (in_use s) v → KeepsVersion s v
    used-keeps = each-used s (KeepsVersion s) (pin-kept store s h) (at-copy (KeepsVersion s) s.copy keeps.1)
        (head-kept store s h)

    is-needed : (e : Entry) → HasEntry kept.chains e → IsNeeded s.history (in_use s) e
    is-needed e (k, c, version) =
        let r = ((left e.id k).0 c).1 in
        let used = subst (λ vs. Contains vs r.0) all-used r.1 in record {
          at = r.0;
          used = used;
          status = status_of k;
          state = sees read store s r.0 e.id h (used-keeps r.0 used) stay (Some k) r.2;
          made = made-of k ∙ version;
        }

    needed-is : (e : Entry) → IsNeeded s.history (in_use s) e → Contains es e
    needed-is e n = left-at n.at (subst (λ vs. Contains vs n.at) (sym all-used) n.used) (used-keeps n.at n.used) e
        (one-version n)

    pub prunes : Prunes (record store { kept = kept }) s dropped
    prunes = record {
      left = es;
      gives = (
        record {
          exactly = λ e. ((λ c. is-needed e ((l.exactly e).0 c)), needed-is e);
          distinct = l.distinct;
        },
        count,
        refl,
      );
      stands = left-stands;
    }

-- a prune beside no copy is a step of a run
pub prune-call : RunsStaySound → (store new : StoreTerm) (s : State) (dropped : ℕ) → IsAt store s → Prunes new s dropped
    → Calls Stretches (λ _. true) store new s ((event.Prune, reply.Pruned dropped) ∷ [])
prune-call sound store new s dropped h p =
    let gives : Gives s 0 event.Prune (reply.Pruned dropped) (record s { kept = p.left }) = (serves s h.serves, p.gives) in
    one-call store new s (record s { kept = p.left }) 0 event.Prune (reply.Pruned dropped) refl h gives (record {
      sound = sound-after sound s (record s { kept = p.left }) 0 event.Prune (reply.Pruned dropped) gives h.sound;
      serves = h.serves;
      copy = h.copy;
      finish = h.finish;
      generation = h.generation;
      stands = p.stands;
    })

pub no-copy : (store : StoreTerm) (s : State) → IsAt store s → KeepsCopy None s
no-copy store s h = (
  ap (λ (o : Option Copying). option_map (λ (copy : Copying). copy.version) o) (sym h.copy),
  subst (λ (o : Option Copying). IfSome o (λ copy. KeepsVersion s copy.version)) (sym h.copy) tt,
)
