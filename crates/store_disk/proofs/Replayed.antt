-- The commits of a journal behind a base, made again one after the other.
use Rattle.std.proofs.Common.{◌≡◌, ◌++◌, ◌∙◌, ap, append_assoc, arith, inl, inr, List, [], ◌∷◌, map, None, Option, refl, Some, subst, sym, ℕ}
use Rattle.std.proofs.lemmas.List.{append-nil, map-append}
use Rattle.commit_log.specs.Change.{Change as Logged, change_of}
use Rattle.commit_log.specs.Entry.{Entry}
use Rattle.commit_log.specs.Base.{entries_of}
use Rattle.commit_log.specs.Log.{changes_of}
use Rattle.commit_log.specs.declared.base.BaseEntry.{BaseEntry}
use Rattle.commit_log.specs.declared.change.Commit.{Commit}
use Rattle.store_core.specs.Based.{based}
use Rattle.store_core.specs.Stored.{IsServing, StandsFor, StoreTerm as Memory, alone, served}
use Rattle.store_machine.specs.History.{IsHistory, grown, head}
use Rattle.store_machine.specs.Machine.{MayAdd, committed}
use Rattle.store_machine.specs.Openings.{IsOpened}
use Rattle.store_machine.specs.declared.machine.Change.{Change}
use Rattle.store_machine.specs.declared.machine.Entry.{Entry as Kept}
use Rattle.store_machine.specs.declared.machine.History.{History}
use Rattle.store_machine.specs.declared.machine.State.{State}
use Rattle.store_disk.specs.Loads.{MayFollow}
use Rattle.store_disk.specs.Payloads.{told, told_entry, told_history}
use Rattle.store_disk.specs.Replays.{HasBased, HasCome, HasTaken, IsReplayed, Made, Stops}
use Rattle.store_disk.proofs.Lifts.{serving-alone}

pub made-none : (memory : Memory) (version : ℕ) (entries : List Entry) → HasBased memory version entries
    → Made memory version entries []
made-none memory version entries h = record {
  part = based version (map told_entry entries);
  stands = h;
  history = refl;
  limit = refl;
  pins = refl;
}

module _ (version : ℕ) (entries : List Entry) where
  abbrev Makes : Memory → List Logged → Type 0
  Makes memory changes = Made memory version entries changes

  pub made-more : (memory new : Memory) (changes : List Logged) (c : Logged) → (m : Makes memory changes)
      → MayAdd (alone m.part) (told c) × StandsFor new (served (committed (alone m.part) (told c)))
      → Makes new (changes ++ c ∷ [])
  made-more memory new changes c m next = record {
    part = served (committed (alone m.part) (told c));
    stands = next.1;
    history = ap (λ (h : History). grown h (told c ∷ [])) m.history
        ∙ ap (λ (cs : List Change). record (told_history version entries changes) { commits = cs })
        (sym (map-append told changes (c ∷ [])));
    limit = m.limit;
    pins = m.pins;
  }

  -- with fewer entries kept it is so too
  pub made-thinned : (memory new : Memory) (changes : List Logged) → (m : Makes memory changes)
      → ((s : State) → StandsFor memory (served s) → s.copy ≡ None → (kept : List Kept)
      × StandsFor new (served (record s { kept = kept })))
      → Makes new changes
  made-thinned memory new changes m thins =
      let t = thins (alone m.part) m.stands refl in
      record { part = record m.part { kept = t.0 }; stands = t.1; history = m.history; limit = m.limit; pins = m.pins }

  -- where it stops
  may-add : (memory : Memory) (changes : List Logged) (m : Makes memory changes) (c : Logged)
      → MayFollow (told_history version entries changes) (told c) → MayAdd (alone m.part) (told c)
  may-add memory changes m c may =
      let f = subst (λ (h : History). MayFollow h (told c)) (sym m.history) may in
      (f.0, f.1, omega (arith, f.2, m.limit))

  stops : (log before : List Commit) (c : Commit) (more : List Commit) (memory : Memory) (at : ℕ)
      → log ≡ before ++ c ∷ more → at ≡ c.at → (m : Makes memory (changes_of before))
      → ((s : State) → StandsFor memory (served s) → ¬ MayAdd s (told (change_of c.wire)))
      → Stops version entries log at
  stops log before c more memory at is place m never = record {
    before = before;
    commit = c;
    more = more;
    is = is;
    place = place;
    history = subst IsHistory m.history m.stands.sound.history;
    few = omega (arith, m.stands.version, m.stands.within, ap head m.history);
    refused = λ may. never (alone m.part) m.stands (may-add memory (changes_of before) m (change_of c.wire) may);
  }

  -- all of it, opened
  pub replayed : (memory result : Memory) (commits : ℕ) (changes : List Logged) → Makes memory changes
      → ((s : State) → IsServing memory s → s.copy ≡ None → s.pins ≡ []
      → (t : State) × IsServing result t × (t.history ≡ s.history) × IsOpened commits t)
      → IsReplayed result commits version entries changes
  replayed memory result commits changes m opened =
      let o = opened (alone m.part) (serving-alone memory m.part m.stands) refl m.pins in
      record { state = o.0; serving = o.1; history = o.2 ∙ m.history; opened = o.3 }

  -- where it stopped before
  stops-more : (log cs : List Commit) (at : ℕ) → Stops version entries log at → Stops version entries (log ++ cs) at
  stops-more log cs at s = record {
    before = s.before;
    commit = s.commit;
    more = s.more ++ cs;
    is = ap (λ (l : List Commit). l ++ cs) s.is ∙ append_assoc s.before (s.commit ∷ s.more) cs;
    place = s.place;
    history = s.history;
    few = s.few;
    refused = s.refused;
  }

module _ (version : ℕ) (base : List (ℕ × BaseEntry)) (log : List Commit) (c : Commit) where
  -- a commit more is made
  pub come-made : (memory new : Memory) (m : Made memory version (entries_of base) (changes_of log))
      → MayAdd (alone m.part) (told (change_of c.wire))
      × StandsFor new (served (committed (alone m.part) (told (change_of c.wire))))
      → Made new version (entries_of base) (changes_of (log ++ c ∷ []))
  come-made memory new m next =
      subst (Made new version (entries_of base)) (sym (map-append (λ (x : Commit). change_of x.wire) log (c ∷ [])))
      (made-more version (entries_of base) memory new (changes_of log) (change_of c.wire) m next)

  -- it may not follow
  pub come-stops : (memory : Memory) (at : ℕ) → Made memory version (entries_of base) (changes_of log)
      → (at ≡ c.at) × ((s : State) → StandsFor memory (served s) → ¬ MayAdd s (told (change_of c.wire)))
      → Stops version (entries_of base) (log ++ c ∷ []) at
  come-stops memory at m d =
      stops version (entries_of base) (log ++ c ∷ []) log c [] memory at refl d.0 m d.1

module _ (memory : Memory) (stopped : Option ℕ) (version : ℕ) (base : List (ℕ × BaseEntry)) (log : List Commit) where
  -- one before them, or an entry, could not be made
  pub come-stopped : (cs : List Commit) (x : ℕ) → stopped ≡ Some x → HasCome memory stopped version base log
      → HasCome memory stopped version base (log ++ cs)
  come-stopped cs x is come = go stopped is come
    where
      go : (o : Option ℕ) → o ≡ Some x → HasCome memory o version base log → HasCome memory o version base (log ++ cs)
      go None e c = cc e
      go (Some at) e (inl lacks) = inl lacks
      go (Some at) e (inr s) = inr (stops-more version (entries_of base) log cs at s)

  -- one more waits
  pub taken-more : (waiting : List Commit) (c : Commit) → HasTaken memory stopped waiting version base log
      → HasTaken memory stopped (waiting ++ c ∷ []) version base (log ++ c ∷ [])
  taken-more waiting c t =
      (t.0, ap (λ (l : List Commit). l ++ c ∷ []) t.1 ∙ append_assoc t.0 waiting (c ∷ []), t.2)

  -- none waits
  pub taken-all : (waiting : List Commit) → waiting ≡ [] → HasCome memory stopped version base log
      → HasTaken memory stopped waiting version base log
  taken-all waiting none come =
      (log, sym (ap (λ (l : List Commit). log ++ l) none ∙ append-nil log), come)
