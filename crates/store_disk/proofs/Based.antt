-- The entries of a base, put into memory one after the other.
use Rattle.std.proofs.Common.{All, ◌≡◌, ◌+◌, ◌++◌, ◌<◌, ◌≤◌, ◌∙◌, ap, append_assoc, arith, drop, get_or, length, List, [], ◌∷◌, map, subst, sym, take, ℕ}
use Rattle.std.proofs.Math.Seq.{take_all}
use Rattle.std.proofs.lemmas.Grind.{take_at_read}
use Rattle.std.proofs.lemmas.List.{map-append, take-append-drop}
use Rattle.std.proofs.lemmas.List.Elements.{All-from_recursion}
use Rattle.std.specs.List.{AllByRecursion}
use Rattle.commit_log.specs.Base.{AreEntries, Follows, entries_of, last_id}
use Rattle.commit_log.specs.Entry.{Entry, entry_of}
use Rattle.commit_log.specs.declared.base.BaseEntry.{BaseEntry}
use Rattle.store_core.specs.Based.{IsBefore, IsGiven, based}
use Rattle.store_core.specs.Stored.{StandsFor as InMemory, StoreTerm as Memory}
use Rattle.store_machine.specs.History.{HasText, IsId}
use Rattle.store_machine.specs.declared.machine.Status.{Status}
use Rattle.store_disk.specs.Payloads.{told_entry}
use Rattle.store_disk.specs.Replays.{HasBased, LacksText}
use Rattle.store_disk.proofs.Sorted.{base-has, of-mapped}

-- the element at an index
pub next-is : {A : Type 0} (xs : List A) (i : ℕ) (x : A) → i < length xs → x ≡ get_or xs i x
    → take (i + 1) xs ≡ take i xs ++ x ∷ []
next-is xs i x less is = (take_at_read xs i x less).1 ∙ ap (λ y. take i xs ++ y ∷ []) (sym is)

pub split-is : {A : Type 0} (xs : List A) (i : ℕ) (x : A) → i < length xs → x ≡ get_or xs i x
    → xs ≡ take i xs ++ x ∷ drop (i + 1) xs
split-is xs i x less is =
    sym (take-append-drop (i + 1) xs) ∙ (ap (λ l. l ++ drop (i + 1) xs) (next-is xs i x less is) ∙ append_assoc
    (take i xs) (x ∷ []) (drop (i + 1) xs))

-- each text of a base that a store in memory stands for has a structure
texts : (memory : Memory) (version : ℕ) (es : List Entry) → HasBased memory version es
    → AllByRecursion (λ e. HasText (told_entry e).1) es
texts memory version es h =
    let history = (based version (map told_entry es)).history in
    of-mapped told_entry (λ e. HasText e.1) es
    (base-has history h.sound.history (λ e. HasText e.1) (λ id status b. b.text))

-- entries that ascend
above-last : (version last : ℕ) (before : List Entry) (e : Entry) (more : List Entry)
    → AreEntries version last (before ++ e ∷ more) → last < e.id
above-last version last [] e more are = are.0.above
above-last version last (b ∷ before) e more are =
    omega (arith, are.0.above, above-last version b.id before e more are.2)

ids-below : (version last : ℕ) (before : List Entry) (e : Entry) (more : List Entry)
    → AreEntries version last (before ++ e ∷ more) → AllByRecursion (λ s. s.0 < e.id) (map told_entry before)
ids-below version last [] e more are = tt
ids-below version last (b ∷ before) e more are =
    (above-last version b.id before e more are.2, ids-below version b.id before e more are.2)

follows-at : (version last : ℕ) (before : List Entry) (e : Entry) (more : List Entry)
    → AreEntries version last (before ++ e ∷ more) → Follows version (last_id last before) e
follows-at version last [] e more are = are.0
follows-at version last (b ∷ before) e more are = follows-at version b.id before e more are.2

pub above-first : (version last : ℕ) (before : List Entry) (e : Entry) (more : List Entry)
    → AreEntries version last (before ++ e ∷ more) → IsId e.id
above-first version last before e more are =
    (omega (arith, above-last version last before e more are), (follows-at version last before e more are).in_range)

ids : (version last : ℕ) (found : List (ℕ × BaseEntry)) → AreEntries version last (entries_of found)
    → AllByRecursion (λ (e : ℕ × BaseEntry). IsId e.1.id) found
ids version last [] are = tt
ids version last (one ∷ found) are =
    ((omega (arith, are.0.above), are.0.in_range), ids version one.1.id found are.2)

-- each identifier is in range
pub all-ids : (version : ℕ) (found : List (ℕ × BaseEntry)) → AreEntries version 0 (entries_of found)
    → All (λ (e : ℕ × BaseEntry). IsId e.1.id) found
all-ids version found are = All-from_recursion (λ (e : ℕ × BaseEntry). IsId e.1.id) found (ids version 0 found are)

abbrev one-entry : ℕ × BaseEntry → Entry
one-entry one = entry_of one.1

module _ (version : ℕ) (found : List (ℕ × BaseEntry)) (i : ℕ) (one : ℕ × BaseEntry) (less : i < length found)
    (is : one ≡ get_or found i one) (are : AreEntries version 0 (entries_of found)) where
  split : AreEntries version 0 (entries_of (take i found) ++ entry_of one.1 ∷ entries_of (drop (i + 1) found))
  split = subst (AreEntries version 0)
      (ap entries_of (split-is found i one less is) ∙ map-append one-entry (take i found) (one ∷ drop (i + 1) found))
      are

  pub follows : Follows version (last_id 0 (entries_of (take i found))) (entry_of one.1)
  follows = follows-at version 0 (entries_of (take i found)) (entry_of one.1) (entries_of (drop (i + 1) found)) split

  pub in-range : IsId one.1.id
  in-range = above-first version 0 (entries_of (take i found)) (entry_of one.1) (entries_of (drop (i + 1) found)) split

  module _ (memory : Memory) (at : memory.version ≡ version) (h : HasBased memory version (entries_of (take i found)))
    where
      pub is-before : IsBefore memory one.1.id
      is-before = (
        map told_entry (entries_of (take i found)),
        subst (λ v. HasBased memory v (entries_of (take i found))) (sym at) h,
        All-from_recursion (λ e. e.0 < one.1.id) (map told_entry (entries_of (take i found)))
            (ids-below version 0 (entries_of (take i found)) (entry_of one.1) (entries_of (drop (i + 1) found)) split),
      )

      pub based-next : (new : Memory) → IsGiven memory new one.1.id (told_entry (entry_of one.1)).1
          → HasBased new version (entries_of (take (i + 1) found))
      unfolding is-before
      based-next new given =
          let done = entries_of (take i found) in
          let next : entries_of (take (i + 1) found) ≡ done ++ entry_of one.1 ∷ [] =
          ap entries_of (next-is found i one less is) ∙ map-append one-entry (take i found) (one ∷ []) in
          let all = given (map told_entry done) is-before.1 is-before.2 in
          subst (λ es. HasBased new version es) (sym next)
          (subst (λ v. HasBased new v (done ++ entry_of one.1 ∷ [])) at
          (subst (λ (b : List (ℕ × Status)). InMemory new (based memory.version b))
          (sym (map-append told_entry done (entry_of one.1 ∷ []))) all))

      -- where the text of the next entry has no structure
      pub lacks-text : (at : ℕ) → (at ≡ one.0) × ¬ HasText (told_entry (entry_of one.1)).1 → LacksText found at
      lacks-text at d = record {
        before = take i found;
        one = one;
        more = drop (i + 1) found;
        is = split-is found i one less is;
        place = d.0;
        sound = texts memory version (entries_of (take i found)) h;
        none = d.1;
      }

-- all of a base
pub all-based : (memory : Memory) (version : ℕ) (found : List (ℕ × BaseEntry)) (i : ℕ) → length found ≤ i
    → HasBased memory version (entries_of (take i found)) → HasBased memory version (entries_of found)
all-based memory version found i all h =
    subst (λ l. HasBased memory version (entries_of l)) (take_all i found all) h
