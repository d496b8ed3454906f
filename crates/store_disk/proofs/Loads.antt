-- A journal that was just opened is read to its end, and made again in memory.
use Rattle.std.proofs.Common.{◌≡◌, ◌⊎◌, ◌+◌, ◌*◌, ◌++◌, ◌≤◌, ◌∙◌, ap, arith, inl, inr, length, List, [], ◌∷◌, map, refl, subst, sym, ℕ}
use Rattle.std.proofs.lemmas.List.{length-map}
use Rattle.std.specs.List.{AllByRecursion}
use Rattle.commit_log.specs.Base.{AreEntries, DamagesBase, TakesBase, base_payloads, entries_of}
use Rattle.commit_log.specs.Entry as entry
use Rattle.commit_log.specs.Entry.{Entry}
use Rattle.commit_log.specs.Log.{DamagesLog, IsLog, Takes, changes_of, payloads as log_payloads}
use Rattle.commit_log.specs.declared.base.BaseEntry.{BaseEntry}
use Rattle.commit_log.specs.declared.change.Commit.{Commit}
use Rattle.disk_edge.specs.Disk.{DiskModel, IfTold}
use Rattle.disk_pair.specs.Loads.{IsOpening}
use Rattle.disk_pair.specs.Pairs.{OpensAs}
use Rattle.journal_core.proofs.FrontLaws.{whole_front}
use Rattle.journal_core.specs.Fronts.{IsFront, IsPart, front_of}
use Rattle.journal_core.specs.Journal.{Reads, Rests}
use Rattle.journal_core.specs.Records.{IsShort, Opens}
use Rattle.journal_core.specs.Standing.{Standing}
use Rattle.journal_core.specs.declared.format.TheConstants.{LONGEST_PAYLOAD}
use Rattle.journal_core.specs.declared.header.Header.{Header}
use Rattle.store_core.specs.Stored.{StoreTerm as Memory}
use Rattle.store_machine.specs.History.{head}
use Rattle.store_machine.specs.declared.machine.History.{History}
use Rattle.store_disk.specs.Loads.{DamagesDisk, IsBegun}
use Rattle.store_disk.specs.Payloads.{base_payload, history_of, told, told_entry, told_history}
use Rattle.store_disk.specs.Replays.{IsLoaded, IsReplayed, LacksText, RestsAs, Stops}
use Rattle.store_disk.proofs.Logged.{base-near, end-near, lacks-structure, may-not-follow}
use Rattle.store_disk.proofs.Payloads.{same-bases, same-payloads}

-- by what was passed
pub as-read : (P : ℕ → List (ℕ × BaseEntry) → Type 0) (v w : ℕ) (base found : List (ℕ × BaseEntry)) → v ≡ w
    → base ≡ found → P v base → P w found
as-read P v w base found e f p = subst (λ x. P x found) e (subst (λ b. P v b) f p)

all-short : (version last : ℕ) (es : List Entry) → AreEntries version last es
    → AllByRecursion IsShort (base_payloads es)
all-short version last [] are = tt
all-short version last (e ∷ es) are = (are.1, all-short version e.id es are.2)

no-entries : {A B : Type 0} (f : List A → List B) (xs : List A) → f [] ≡ [] → length xs ≡ 0 → f xs ≡ []
no-entries f [] e none = e
no-entries f (x ∷ xs) e none = absurd (omega (arith, none))

module _ {D : Type 0} (model : DiskModel D) (old : Standing D) (opening : IsOpening model old) where
  module _ (few : old.header.base_version ≤ 16777215) where
    -- its base is damaged
    pub states : 1 ≤ old.left → (at : ℕ) → ((before : List (List ℕ))
        → Reads model old (front_of old.header before) [] → IfTold (model.content old.disk)
        (DamagesBase old.header before old.left at)) → IfTold (model.content old.disk) (DamagesDisk at)
    states some at damaged l is =
        let r = opening.reads l is in
        elim r.1.is [
          | inl one ↦
              let none : old.header.base_count ≡ 0 = ap (λ (h : Header). h.base_count) one.1 in
              absurd (omega (arith, none, some, opening.left))
          | inr two ↦ inr (inl (record {
            header = old.header;
            is = r.3;
            few = few;
            damage = subst (λ n. DamagesBase old.header [] n at l) opening.left
                (damaged [] (subst (λ f. Reads model old f []) two r.2) l is);
          }))
        ]

    module _ (found : List (ℕ × BaseEntry)) (mid : Standing D)
        (takes : TakesBase old.header.base_version old.place found mid.place) (count : length found ≡ old.left)
        (reads : (before : List (List ℕ)) → Reads model old (front_of old.header before) []
        → Reads model mid (front_of old.header (before ++ base_payloads (entries_of found))) [])
        (none : old.left ≡ 0 → mid ≡ old) (same : model.content mid.disk ≡ model.content old.disk) where
      -- what stands in front of the commits is read
      record Begins : Type 0 where
        front : List ℕ
        begun : IsBegun old.header (entries_of found) front
        read : Reads model mid front []

      counted : old.header.base_count ≡ length (base_payloads (entries_of found))
      counted = sym (length-map (entries_of found) entry.written ∙ (length-map found (λ one. entry.entry_of one.1)
          ∙ (count ∙ opening.left)))

      begun-by : (front : List ℕ) → IsPart old.header (base_payloads (entries_of found)) front
          → Reads model mid front [] → Begins
      begun-by front part read = record {
        front = front;
        begun = record {
          is = whole_front old.header (base_payloads (entries_of found)) front part opening.range counted;
          are = takes.entries;
          few = few;
        };
        read = read;
      }

      shorts : AllByRecursion IsShort (base_payloads (entries_of found))
      shorts = all-short old.header.base_version 0 (entries_of found) takes.entries

      begins : IfTold (model.content old.disk) (λ _. Begins)
      begins l is =
          let r = opening.reads l is in
          elim r.1.is [
            | inl one ↦
                let left : old.left ≡ 0 = opening.left ∙ ap (λ (h : Header). h.base_count) one.1 in
                begun-by r.0
                (record {
                  is = inl (
                    one.0,
                    one.1,
                    no-entries (λ fs. base_payloads (entries_of fs)) found refl (count ∙ left),
                  );
                  fit = shorts;
                })
                (subst (λ (j : Standing D). Reads model j r.0 []) (sym (none left)) r.2)
            | inr two ↦
                begun-by (front_of old.header (base_payloads (entries_of found)))
                (record { is = inr refl; fit = shorts })
                (reads [] (subst (λ f. Reads model old f []) two r.2))
          ]

      -- the log behind it is damaged
      pub commits : (at : ℕ) → ((front : List ℕ) (before : List (List ℕ)) → Reads model mid front before
          → IfTold (model.content mid.disk) (DamagesLog front before at))
          → IfTold (model.content old.disk) (DamagesDisk at)
      commits at damaged l is =
          let b = begins l is in
          inr (inr (inl (record {
            header = old.header;
            entries = entries_of found;
            front = b.front;
            begun = b.begun;
            damage = damaged b.front [] b.read l (same ∙ is);
          })))

      module _ (log : List Commit) (new : Standing D) (logged : Takes mid.place log new.place)
          (is-log : (front : List ℕ) (before : List (List ℕ)) → Reads model mid front before
          → IfTold (model.content mid.disk) (IsLog front before (changes_of log))) where
        -- they are no history
        pub disallows : (at : ℕ) → LacksText found at ⊎ Stops old.header.base_version (entries_of found) log at
            → IfTold (model.content old.disk) (DamagesDisk at)
        disallows at refused l is =
            let b = begins l is in
            inr (inr (inr (record {
              header = old.header;
              entries = entries_of found;
              front = b.front;
              changes = changes_of log;
              begun = b.begun;
              log = is-log b.front [] b.read l (same ∙ is);
              refused = elim refused [
                | inl lacks ↦ inl (lacks-structure old.header found old.place mid.place at opening.start
                    (count ∙ opening.left) takes lacks)
                | inr stops ↦ inr (may-not-follow old.header.base_version (entries_of found) b.front log mid.place
                    new.place at b.read.place logged stops)
              ];
            })))

        module _ (memory : Memory) (limit : ℕ)
            (r : IsReplayed memory limit old.header.base_version (entries_of found) (changes_of log)) where
          abbrev made : History
          made = told_history old.header.base_version (entries_of found) (changes_of log)

          abbrev as-written : History → Header
          as-written h = (history_of old.header.generation h).header

          same-header : old.header ≡ as-written made
          same-header =
              let n : old.header.base_count ≡ length (map told_entry (entries_of found)) =
              counted ∙ length-map (entries_of found) entry.written ∙ sym (length-map (entries_of found) told_entry) in
              λ i. record {
                generation = old.header.generation;
                base_version = old.header.base_version;
                base_count = n i;
              }

          same-front : (front : List ℕ) → IsFront old.header (base_payloads (entries_of found)) front
              → IsFront (as-written made) (map base_payload made.base) front
          same-front front is =
              subst (λ (h : Header). IsFront h (map base_payload made.base) front) same-header
              (subst (λ (ps : List (List ℕ)). IsFront old.header ps front) (sym (same-bases (entries_of found))) is)

          pub loaded : ((front : List ℕ) (before : List (List ℕ)) → Reads model mid front before
              → Rests model new front (before ++ log_payloads (changes_of log)))
              → IsLoaded model memory limit old new
          loaded rests = record {
            state = r.state;
            serving = r.serving;
            opened = r.opened;
            header = same-header ∙ ap as-written (sym r.history);
            opens = λ l is. subst (λ (h : History). OpensAs (history_of old.header.generation h) l) (sym r.history)
                (let b = begins l is in
                record {
                  front = b.front;
                  is = same-front b.front b.begun.is;
                  opens = subst (λ (ps : List (List ℕ)). Opens b.front ps l) (sym (same-payloads (changes_of log)))
                      (is-log b.front [] b.read l (same ∙ is)).opens;
                });
            rests = λ l is. subst (RestsAs model new old.header.generation) (sym r.history)
                (let b = begins l is in
                record {
                  front = b.front;
                  is = same-front b.front b.begun.is;
                  rests = subst (λ (ps : List (List ℕ)). Rests model new b.front ps)
                      (sym (same-payloads (changes_of log))) (rests b.front [] b.read);
                });
          }

          -- it ends far below the end of places
          pub near : new.place ≤ 20 + (5 + LONGEST_PAYLOAD) * (old.header.base_count + memory.version)
          near =
              let start : old.place ≤ 20 = elim opening.start [
                | inl one ↦ omega (arith, one.0)
                | inr two ↦ omega (arith, two)
              ] in
              let bases = base-near old.header.base_version 0 old.place (entries_of found) takes.entries in
              let ends = end-near mid.place (changes_of log) logged.logged in
              omega (
                arith,
                start,
                bases,
                takes.ends,
                ends,
                logged.ends,
                length-map found (λ one. entry.entry_of one.1),
                count,
                opening.left,
                r.serving.stands.version,
                ap head r.history,
                length-map (changes_of log) told,
              )
