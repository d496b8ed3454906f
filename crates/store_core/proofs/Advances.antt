-- A change that is committed in memory or refused, by the states for which the store stands.
use Rattle.std.proofs.Common.{◌≡◌, ◌≤◌, ◌<◌, ◌∙◌, ap, arith, Err, IfErr, inl, IsErrAnd, length-append, [], ◌∷◌, None, Ok, Option, option_map, refl, Result, subst, sym, true, ℕ}
use Rattle.store_machine.specs.History.{id_of}
use Rattle.store_machine.specs.Laws.{KeptIsRead, StatesStay}
use Rattle.store_machine.specs.Machine.{MayAdd, committed, one_more}
use Rattle.store_machine.specs.declared.machine.Event.TheVariants as event
use Rattle.store_machine.specs.declared.machine.Reply.TheVariants as reply
use Rattle.store_machine.specs.declared.machine.State.{State}
use Rattle.store_core.specs.Calls.{Calls}
use Rattle.record_versions.specs.Entries.{IsLatest, chain_of}
use Rattle.store_core.specs.Kept.{Kept, status_of}
use Rattle.store_core.specs.Prepared.{IsWhy}
use Rattle.store_core.specs.Replies.{IsRefusal, IsSoundChange, change_of, commit_calls, refusal_by}
use Rattle.store_core.specs.Stored.{IsAt, StandsFor, StoreTerm, Stretches, served}
use Rattle.store_core.specs.declared.words.Change.{Change}
use Rattle.store_core.specs.declared.words.CommitFault.{CommitFault}
use Rattle.store_core.specs.declared.words.CommitFault.TheVariants as fault
use Rattle.store_core.proofs.Commits.{may-add, now-is}
use Rattle.store_core.proofs.OneCall.{one-call, serves, whole-sound}

-- what a `?` returns is why
pub why-result : {X : Type 0} (store : StoreTerm) (c : Change) (f : CommitFault) (r : Result X CommitFault)
    → IsErrAnd r (λ e. e ≡ f)
    → ((s : State) → StandsFor store (served s) → IsWhy s (change_of c) f)
    → IfErr r (λ e. (s : State) → StandsFor store (served s) → IsWhy s (change_of c) e)
why-result store c f (Ok x) is why = tt
why-result store c f (Err e) is why = λ s h. subst (IsWhy s (change_of c)) (sym is) (why s h)

refused-why : KeptIsRead → StatesStay → (store : StoreTerm) (s : State) (c : Change) (f : CommitFault) (o : Option Kept)
    → StandsFor store (served s) → IsLatest store.version (chain_of store.kept.chains (id_of (change_of c))) o
    → IsRefusal f (refusal_by (option_map status_of o) c) → IsWhy s (change_of c) f
refused-why read stay store s c fault.Known o h e r = now-is read stay store s c o h e ∙ r
refused-why read stay store s c fault.Absent o h e r = now-is read stay store s c o h e ∙ r
refused-why read stay store s c fault.Withdrawn o h e r = now-is read stay store s c o h e ∙ r
refused-why read stay store s c fault.Full o h e r = absurd r
refused-why read stay store s c (fault.DiskFault doubt) o h e r = absurd r
refused-why read stay store s c fault.Worn o h e r = absurd r
refused-why read stay store s c fault.NoMemory o h e r = absurd r

pub why-refused : {X : Type 0} → KeptIsRead → StatesStay
    → (store : StoreTerm) (c : Change) (f : CommitFault) (o : Option Kept) (r : Result X CommitFault)
    → IsErrAnd r (λ e. e ≡ f)
    → IsLatest store.version (chain_of store.kept.chains (id_of (change_of c))) o
    → IsRefusal f (refusal_by (option_map status_of o) c)
    → IfErr r (λ e. (s : State) → StandsFor store (served s) → IsWhy s (change_of c) e)
why-refused read stay store c f o r is e refusal = why-result store c f r is
    (λ s h. refused-why read stay store s c f o h e refusal)

pub why-full : KeptIsRead → StatesStay → (store : StoreTerm) (s : State) (c : Change) (o : Option Kept)
    → StandsFor store (served s) → IsLatest store.version (chain_of store.kept.chains (id_of (change_of c))) o
    → refusal_by (option_map status_of o) c ≡ None → store.limit ≤ store.version → IsWhy s (change_of c) fault.Full
why-full read stay store s c o h e allowed full = (
  now-is read stay store s c o h e
      ∙ allowed,
  omega (arith, full, h.version, h.limit),
)

pub why-memory : {X : Type 0} → KeptIsRead → StatesStay
    → (store : StoreTerm) (c : Change) (o : Option Kept) (r : Result X CommitFault)
    → IsErrAnd r (λ e. e ≡ fault.NoMemory)
    → IsLatest store.version (chain_of store.kept.chains (id_of (change_of c))) o → IsSoundChange c
    → refusal_by (option_map status_of o) c ≡ None → store.version < store.limit
    → IfErr r (λ e. (s : State) → StandsFor store (served s) → IsWhy s (change_of c) e)
why-memory read stay store c o r is e sound allowed room = why-result store c fault.NoMemory r is
    (λ s h. may-add stay store s c h sound (now-is read stay store s c o h e ∙ allowed) room)

-- both as answers of a service
refused-row : (store new : StoreTerm) (s : State) (c : Change) (f : CommitFault) → IsAt store s → IsAt new s
    → IsWhy s (change_of c) f → Calls Stretches (λ _. true) store new s (commit_calls c (Err f))
refused-row store new s c fault.Known h n why = one-call store new s s 0
    (event.Commit (change_of c)) reply.Known refl h (serves s h.serves, (why, refl)) n
refused-row store new s c fault.Absent h n why = one-call store new s s 0
    (event.Commit (change_of c)) reply.Absent refl h (serves s h.serves, (why, refl)) n
refused-row store new s c fault.Withdrawn h n why = one-call store new s s 0
    (event.Commit (change_of c)) reply.Withdrawn refl h (serves s h.serves, (why, refl)) n
refused-row store new s c fault.Full h n why = one-call store new s s 0
    (event.Commit (change_of c)) reply.Full refl h (serves s h.serves, (why.0, why.1, refl)) n
refused-row store new s c (fault.DiskFault doubt) h n why = absurd why
refused-row store new s c fault.Worn h n why = absurd why
refused-row store new s c fault.NoMemory h n why = one-call store new s s 0
    (event.Commit (change_of c)) reply.NoMemory refl h (serves s h.serves, (inl refl, inl refl, refl)) n

pub refused-result : (store new : StoreTerm) (s : State) (c : Change) (f : CommitFault) (r : Result ℕ CommitFault)
    → IsErrAnd r (λ e. e ≡ f) → StandsFor new (served s) → IsAt store s → IsWhy s (change_of c) f
    → Calls Stretches (λ _. true) store new s (commit_calls c r)
refused-result store new s c f (Ok x) is stands h why = absurd is
refused-result store new s c f (Err e) is stands h why =
    refused-row store new s c e h (record {
      sound = h.sound;
      serves = h.serves;
      copy = h.copy;
      finish = h.finish;
      generation = h.generation;
      stands = stands;
    })
    (subst (IsWhy s (change_of c)) (sym is) why)

pub committed-row : (store new : StoreTerm) (s : State) (c : Change) → IsAt store s → MayAdd s (change_of c)
    → StandsFor new (served (committed s (change_of c)))
    → Calls Stretches (λ _. true) store new s ((event.Commit (change_of c), reply.Committed new.version) ∷ [])
committed-row store new s c h may stands =
    let past = h.sound.bases.base in
    let none : option_map one_more s.copy ≡ None = ap (option_map one_more) h.copy in
    one-call store new s (committed s (change_of c)) 0 (event.Commit (change_of c)) (reply.Committed new.version) refl h
    (serves s h.serves, (may, omega (arith, stands.version, length-append s.history.commits (change_of c ∷ [])), refl))
    (record {
      sound = whole-sound (committed s (change_of c)) tt
          (past.0, omega (arith, past.1, length-append s.history.commits (change_of c ∷ []))) none refl stands.sound;
      serves = h.serves;
      copy = none;
      finish = refl;
      generation = h.generation;
      stands = stands;
    })
