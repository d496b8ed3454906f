-- What the pages of a pin are together, whatever follows.
use Rattle.std.proofs.Common.{◌≡◌, ◌++◌, ◌∙◌, ap, ap₂, append_assoc, arith, Bool, cond, eq-eqb, inl, inr, List, [], ◌∷◌, None, Option, refl, Some, subst, sym, ◌==◌, ℕ}
use Rattle.std.proofs.lemmas.Bool.{cond-true}
use Rattle.std.specs.List.{cons_option}
use Rattle.store_machine.specs.Answers.{AreFound}
use Rattle.store_machine.specs.ByCalls.{CallsGivePages, Pages}
use Rattle.store_machine.specs.History.{Snapshot, snapshot}
use Rattle.store_machine.specs.Laws.{IsSound, RunsGrow, SnapshotsStay}
use Rattle.store_machine.specs.Runs.{IsCalm, IsRun, calls_of}
use Rattle.store_machine.specs.Searches.{At, End, Fetched, IsSearch, KeepsPin, Place, fetched, page_in, past, records_of, unpins}
use Rattle.store_machine.specs.Structures.{IsScreened}
use Rattle.store_machine.specs.declared.machine.Event.{Event}
use Rattle.store_machine.specs.declared.machine.Event.TheVariants.{Pin, Unpin}
use Rattle.store_machine.specs.declared.machine.History.{History}
use Rattle.store_machine.specs.declared.machine.Reply.{Reply}
use Rattle.store_machine.specs.declared.machine.Reply.TheVariants as replies
use Rattle.store_machine.specs.declared.machine.State.{State}
use Rattle.store_machine.specs.declared.machine.Step.{Step}
use Rattle.store_machine.proofs.Cuts.{halves}
use Rattle.lookup.specs.Fetches.{AreFetches, Calls}
use Rattle.lookup.specs.Truths.{InRun}

-- the machine's laws
pub record Laws : Type 0 where
  pub snapshots : SnapshotsStay
  pub grow : RunsGrow
  pub pages : CallsGivePages

-- fetches give no pin back, and their pages are those of a search
pub fetches_keep : (slot size other : ℕ) (want : List Bool) (place place' : Place) (cs : Calls)
    → AreFetches slot size want place cs place' → KeepsPin other cs
fetches_keep slot size other want place place' [] h = tt
fetches_keep slot size other want place place' (c ∷ cs) (from, at, is, inl k) =
    (ap (λ (e : Event). unpins other e) is, subst (KeepsPin other) (sym k.1) tt)
fetches_keep slot size other want place place' (c ∷ cs) (from, at, is, inr k) =
    (ap (λ (e : Event). unpins other e) is, fetches_keep slot size other want (cond k.1 End (At (past from k.0))) place' cs k.3)

pub fetches_search : (slot size : ℕ) (want : List Bool) (place place' : Place) (cs : Calls)
    → AreFetches slot size want place cs place' → IsSearch want place (fetched slot cs) place'
fetches_search slot size want place place' [] h = h
fetches_search slot size want place place' (c ∷ cs) (from, at, is, inl k) =
    let none : fetched slot (c ∷ cs) ≡ [] =
    ap₂ (λ (o : Option Fetched) (l : List Fetched). cons_option o l)
    (ap₂ (λ (e : Event) (r : Reply). page_in slot e r) is k.0) (ap (λ (l : Calls). fetched slot l) k.1) in
    subst (λ (fs : List Fetched). IsSearch want place fs place') (sym none) k.2
fetches_search slot size want place place' (c ∷ cs) (from, at, is, inr k) =
    let f : Fetched = record { want = want; from = from; limit = size; records = k.0; last = k.1 } in
    let page : page_in slot c.0 c.1 ≡ Some f =
    ap₂ (λ (e : Event) (r : Reply). page_in slot e r) is k.2
    ∙ cond-true (slot == slot) (Some f) None (eq-eqb slot slot refl) in
    subst (λ (o : Option Fetched). IsSearch want place (cons_option o (fetched slot cs)) place') (sym page)
    (at, refl, fetches_search slot size want (cond k.1 End (At (past from k.0))) place' cs k.3)

cut_calls : (before pages after : Calls) (pin unpin : Event × Reply)
    → before ++ ((pin ∷ (pages ++ unpin ∷ [])) ++ after) ≡ (before ++ pin ∷ pages) ++ (unpin ∷ after)
cut_calls before pages after pin unpin =
    ap (λ (l : Calls). before ++ pin ∷ l) (append_assoc pages (unpin ∷ []) after)
    ∙ sym (append_assoc before (pin ∷ pages) (unpin ∷ after))

-- the pages of a pin so far are those of a moment at which its version was as it is at the end
pub so_far : Laws → (own : ℕ → Bool) (s t : State) (steps : List Step) (before pages later : Calls)
    (slot version : ℕ) (want : List Bool) (place : Place) → IsSound s → IsRun s steps t → IsCalm steps
    → calls_of own steps ≡ (before ++ (Pin, replies.Pinned slot version) ∷ pages) ++ later → KeepsPin slot pages
    → IsSearch want (At 0) (fetched slot pages) place
    → (m : State) × Pages s m slot version want place pages
    × (snapshot m.history version ≡ snapshot t.history version)
so_far laws own s t steps before pages later slot version want place sound run calm made keeps search =
    let a = halves own s t steps (before ++ (Pin, replies.Pinned slot version) ∷ pages) later run calm made in
    let p : Pages s a.middle slot version want place pages =
    laws.pages s a.middle a.front own slot version 0 want place pages sound a.to a.calm_to (omega arith)
    (record { before = before; own = a.first_calls; keeps = keeps; search = search }) in
    let more = laws.grow a.middle t a.back a.from a.calm_from in (
      a.middle,
      p,
      sym (ap (λ (h : History). snapshot h version) more.1
          ∙ laws.snapshots a.middle.history more.0 version p.not_after),
    )

-- the pages of a lookup that came to its end are what is wanted at its version, by the history at the run's end
pub all_found : Laws → (s t : State) (size : ℕ) (want : List Bool) (slot version : ℕ) (pages : Calls)
    → InRun s t size want slot version pages
    → AreFound (IsScreened want) (snapshot t.history version) (records_of (fetched slot pages))
all_found laws s t size want slot version pages r =
    let pin : Event × Reply = (Pin, replies.Pinned slot version) in
    let unpin : Event × Reply = (Unpin slot, replies.Unpinned) in
    let p =
    so_far laws r.own s t r.steps r.before pages (unpin ∷ r.after) slot version want End r.sound r.run r.calm
    (r.made ∙ cut_calls r.before pages r.after pin unpin) (fetches_keep slot size slot want (At 0) End pages r.fetches)
    (fetches_search slot size want (At 0) End pages r.fetches) in
    subst (λ (n : Snapshot). AreFound (IsScreened want) n (records_of (fetched slot pages))) p.2 (p.1.found refl)
