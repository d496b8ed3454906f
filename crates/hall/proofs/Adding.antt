-- A call on the store is one step more of its history, by each owner who may ask it.
use Rattle.std.proofs.Common.{◌≡◌, ◌++◌, ◌∙◌, ap, Bool, List, [], ◌∷◌, None, Option, refl, Some, subst, sym, true, ℕ}
use Rattle.std.proofs.lemmas.Bool.{false_from_ne_true}
use Rattle.disk_edge.specs.Disk.{DiskModel}
use Rattle.store_machine.specs.Machine.{FetchGives, Gives, Holds, UnpinGives}
use Rattle.store_machine.specs.Owners.{OwnersAreFree, SameButOwners}
use Rattle.store_machine.specs.declared.machine.Event.{Event}
use Rattle.store_machine.specs.declared.machine.Event.TheVariants.{Commit, Compact, Crash, Fetch, Look, Open, Pin, Prune, Stats, Unpin}
use Rattle.store_machine.specs.declared.machine.Held.{Held}
use Rattle.store_machine.specs.declared.machine.Reply.{Reply}
use Rattle.store_machine.specs.declared.machine.Reply.TheVariants as reply
use Rattle.store_machine.specs.declared.machine.State.{State}
use Rattle.store_machine.specs.declared.machine.Step.{Step}
use Rattle.store_core.specs.Calls.{Calls, WornAs}
use Rattle.store_disk.specs.OnDisk.{StandsFor, StoreTerm}
use Rattle.store_disk.specs.Stored.{Stretches, joins}
use Rattle.hall.specs.declared.kept.Kept.{Kept}
use Rattle.hall.specs.Answers.{TheCalls}
use Rattle.hall.specs.Histories.{Adds, AsksNoOwner, MayAsk, after, told_of}
use Rattle.hall.proofs.Calls.{IsCall, one-event}
use Rattle.hall.proofs.Runs.{after-append, call_of, one-more, one-step}

abbrev owner_in : Option Held → ℕ
owner_in None = 0
owner_in (Some p) = p.owner

-- a slot has one owner
pub one-owner : (s : State) (slot o v n w : ℕ) → Holds s slot o v → Holds s slot n w → o ≡ n
one-owner s slot o v n w h g = ap owner_in (sym h ∙ g)

fetch-owner : (s t : State) (o n slot v : ℕ) (want : List Bool) (from limit : ℕ) (r : Reply) → Holds s slot n v
    → FetchGives s o slot want from limit r t → o ≡ n
fetch-owner s t o n slot v want from limit (reply.Page records last) h g = one-owner s slot o g.0 n v g.1 h
fetch-owner s t o n slot v want from limit reply.NoMemory h g = one-owner s slot o g.0 n v g.1 h
fetch-owner s t o n slot v want from limit _ h g = absurd g

unpin-owner : (s t : State) (o n slot v : ℕ) (r : Reply) → Holds s slot n v → UnpinGives s o slot r t → o ≡ n
unpin-owner s t o n slot v reply.Unpinned h g = one-owner s slot o g.0 n v g.1 h
unpin-owner s t o n slot v _ h g = absurd g

itself : (s : State) → SameButOwners s s
itself s = record { rest = refl; pins = refl }

-- a step of another owner who may ask it
reowned : OwnersAreFree → (s t : State) (o n : ℕ) (e : Event) (r : Reply) → MayAsk s n e → Gives s o e r t
    → (t' : State) × Gives s n e r t' × SameButOwners t t'
reowned free s t o n (Fetch slot want from limit) r may g = (
  t,
  subst (λ k. Gives s k (Fetch slot want from limit) r t)
      (fetch-owner s t o n slot may.0 want from limit r may.1 g.1) g,
  itself t,
)
reowned free s t o n (Unpin slot) r may g = (
  t,
  subst (λ k. Gives s k (Unpin slot) r t) (unpin-owner s t o n slot may.0 r may.1 g.1) g,
  itself t,
)
reowned free s t o n (Commit c) r may g = free s t o n (Commit c) r refl g
reowned free s t o n Pin r may g = free s t o n Pin r refl g
reowned free s t o n Prune r may g = free s t o n Prune r refl g
reowned free s t o n (Look id) r may g = free s t o n (Look id) r refl g
reowned free s t o n Stats r may g = free s t o n Stats r refl g
reowned free s t o n Compact r may g = free s t o n Compact r refl g
reowned free s t o n Crash r may g = free s t o n Crash r refl g
reowned free s t o n Open r may g = free s t o n Open r refl g

-- the stretch of one step by another owner
module _ {D : Type 0} (model : DiskModel D) (asks : AsksNoOwner model) (a b : StoreTerm D) where
  stretch-reowned : (s t : State) (x : Step) (n : ℕ) (t' : State) → Stretches model a b s (x ∷ []) t
      → Gives x.before n x.event x.reply t' → SameButOwners x.after t'
      → Stretches model a b s (record x { owner = n; after = t' } ∷ []) t'
  stretch-reowned s t x n t' q gives same =
      let ends : t ≡ x.after = q.run.2 in
      record {
        begins = q.begins;
        ends = asks b x.after t' same (subst (λ u. StandsFor model b u) ends q.ends);
        run = (q.run.0, gives, refl);
        calm = q.calm;
        clocked = q.clocked;
        moments = q.moments;
        causes = q.causes;
        untouched = q.untouched;
        past_a = q.past_a;
        past_b = q.past_b;
        untold_a = q.untold_a;
        untold_b = q.untold_b;
      }

-- such a call adds its step
adds-one : {D : Type 0} (model : DiskModel D) (old new : Kept D) (calls : TheCalls) → OwnersAreFree
    → AsksNoOwner model → (p : Event × Reply) → calls ≡ p ∷ [] → told_of new ≡ calls
    → ((s : State) → StandsFor model old.store.value s
    → Calls (Stretches model) (λ _. true) old.store.value new.store.value s calls)
    → Adds model old new
adds-one model old new calls free asks p one told call o h n kept may =
    let s : State = after o.state h in
    let made = call s kept.stands.ends in
    let only = one-step made.steps p made.stands.calm (made.own ∙ one) in
    let x : Step = only.0 in
    let tells : told_of new ≡ call_of x ∷ [] = told ∙ (one ∙ ap (λ (c : Event × Reply). c ∷ []) (sym only.2)) in
    let made-one : Stretches model old.store.value new.store.value s (x ∷ []) made.after =
    subst (λ (l : List Step). Stretches model old.store.value new.store.value s l made.after) only.1 made.stands in
    let asked : MayAsk x.before n x.event = subst (λ (u : State). MayAsk u n x.event) (sym made-one.run.0)
    (may x.event x.reply tells) in
    let again = reowned free x.before x.after x.owner n x.event x.reply asked made-one.run.1 in
    let y : Step = record x { owner = n; after = again.0 } in
    let made-other =
    stretch-reowned model asks old.store.value new.store.value s made.after x n again.0 made-one again.1 again.2 in
    let whole =
    joins model o.store old.store.value new.store.value o.state s again.0 h (y ∷ []) kept.stands made-other in (
      y,
      refl,
      tells,
      record {
        start = kept.start;
        given = λ e. absurd (one-more h y e);
        stands = subst (λ (t : State). Stretches model o.store new.store.value o.state (h ++ y ∷ []) t)
            (sym (after-append h (y ∷ []) o.state)) whole;
      },
    )

-- and a store is never worn, of which the call was made as it lay in its box
pub adds : {D : Type 0} (model : DiskModel D) (old new : Kept D) (e : Event) (calls : TheCalls) (worn : Bool)
    → OwnersAreFree → AsksNoOwner model → IsCall e calls worn → WornAs ⊥ ⊥ worn → told_of new ≡ calls
    → (before : StoreTerm D) → before ≡ old.store.value
    → ((s : State) → StandsFor model before s
    → Calls (Stretches model) (λ _. true) before new.store.value s calls)
    → Adds model old new
adds {D} model old new e calls worn free asks is never told before same call =
    let one = one-event e calls worn is (false_from_ne_true worn never.1) in
    adds-one model old new calls free asks (e, one.0) one.1 told
    (subst (λ (store : StoreTerm D). (s : State) → StandsFor model store s
    → Calls (Stretches model) (λ _. true) store new.store.value s calls) same call)
