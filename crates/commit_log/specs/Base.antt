-- The base records of a journal of format 2. For callers.
use Rattle.std.specs.Prelude.{◌≡◌, ◌⊎◌, ◌≤◌, ◌<◌, ℕ, ◌+◌, List, [], ◌∷◌, ◌++◌, length, map}
use Rattle.commit_log.specs.Entry.{Entry, entry_of, written}
use Rattle.commit_log.specs.declared.base.BaseEntry.{BaseEntry}
use Rattle.journal_core.specs.Fronts.{BreaksBase, front_of}
use Rattle.journal_core.specs.Records.{IsShort, body}
use Rattle.journal_core.specs.declared.header.Header.{Header}

-- the payloads of these entries
abbrev pub base_payloads : List Entry → List (List ℕ)
base_payloads entries = map written entries

-- An entry may follow one of this identifier in a base of this version.
pub record Follows (version last : ℕ) (e : Entry) : Type 0 where
  pub above : last < e.id
  pub in_range : e.id ≤ 999999999
  pub made : 1 ≤ e.version
  pub past : e.version ≤ version

-- Entries of a base, after one of this identifier: identifiers ascend, and their payloads are short.
abbrev pub AreEntries : ℕ → ℕ → List Entry → Type 0
AreEntries version last [] = Unit {0}
AreEntries version last (e ∷ entries) = Follows version last e × IsShort (written e) × AreEntries version e.id entries

-- the identifier of the last of them
abbrev pub last_id : ℕ → List Entry → ℕ
last_id last [] = last
last_id last (e ∷ entries) = last_id e.id entries

abbrev pub entries_of : List (ℕ × BaseEntry) → List Entry
entries_of found = map (λ one. entry_of one.1) found

-- each of these entries with the place of its record, the first being at this one
abbrev pub placed : ℕ → List Entry → List (ℕ × Entry)
placed at [] = []
placed at (e ∷ entries) = (at, e) ∷ placed (at + 4 + length (written e)) entries

-- the place after them
abbrev pub end_of : ℕ → List Entry → ℕ
end_of at [] = at
end_of at (e ∷ entries) = end_of (at + 4 + length (written e)) entries

-- Entries of a base of this version that were taken from one place on, up to another.
pub record TakesBase (version start : ℕ) (found : List (ℕ × BaseEntry)) (end : ℕ) : Type 0 where
  pub places : map (λ one. (one.0, entry_of one.1)) found ≡ placed start (entries_of found)
  pub ends : end ≡ end_of start (entries_of found)
  pub entries : AreEntries version 0 (entries_of found)

-- After the front is one base record more, and no entry that may follow is read from its payload.
pub record UnreadBase (version last : ℕ) (front bytes : List ℕ) : Type 0 where
  pub payload : List ℕ
  pub rest : List ℕ
  pub is : bytes ≡ front ++ (body payload ++ rest)
  pub some : 1 ≤ length payload
  pub short : IsShort payload
  pub none : (e : Entry) → Follows version last e → payload ≡ written e → ⊥

-- The base is damaged at a place. After base records that were read before, records of entries lead up to it, fewer
-- than are left. The bytes there are broken or are not read.
pub record DamagesBase (h : Header) (before : List (List ℕ)) (left at : ℕ) (bytes : List ℕ) : Type 0 where
  pub entries : List Entry
  pub are : AreEntries h.base_version 0 entries
  pub few : length entries < left
  pub place : at ≡ length (front_of h (before ++ base_payloads entries))
  pub damage : BreaksBase (front_of h (before ++ base_payloads entries)) bytes
      ⊎ UnreadBase h.base_version (last_id 0 entries) (front_of h (before ++ base_payloads entries)) bytes

-- The bytes begin with a whole base of these entries, in the number that the header says.
pub record HasBase (h : Header) (entries : List Entry) (bytes : List ℕ) : Type 0 where
  pub rest : List ℕ
  pub is : bytes ≡ front_of h (base_payloads entries) ++ rest
  pub are : AreEntries h.base_version 0 entries
  pub count : length entries ≡ h.base_count
