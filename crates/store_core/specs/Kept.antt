-- For callers: the kept entries of a store. Each has an identifier, a version, and the record that its commit left, if
-- it left one.
use Rattle.std.specs.Prelude.{◌≡◌, ◌≢◌, ◌<◌, ◌≤◌, ◌↔◌, AllPairs, Bool, Contains, IfSome, length, List, MatchOption, None, Option, option_map, Some, ℕ}
use Rattle.std.specs.Arc.{arc_value}
use Rattle.std.specs.Borrow.{Bor}
use Rattle.chem_core.specs.Bits.{HasBit}
use Rattle.record_versions.specs.Entries.{IsLatest, IsReserved, chain_of, entries}
use Rattle.record_versions.specs.Rows.{Row}
use Rattle.record_versions.specs.declared.entries.Entry.{Entry as Versioned}
use Rattle.screen_index.specs.declared.entry.Screened.{Screened}
use Rattle.store_machine.specs.declared.machine.Entry.{Entry}
use Rattle.store_machine.specs.declared.machine.Status.{Status}
use Rattle.store_machine.specs.declared.machine.Status.TheVariants.{Live, Withdrawn}
use Rattle.store_core.specs.Records.{IsRecord, RecordTerm, Shared}

-- an entry of an identifier
abbrev pub Kept : Type 0
Kept = Versioned (Option Shared)

abbrev pub Chains : Type 0
Chains = List (ℕ × Row (Option Shared))

-- the status as the machine knows it
abbrev pub status_in : ℕ → Option Shared → Status
status_in version None = Withdrawn version
status_in version (Some r) = Live version (arc_value r).format (arc_value r).text

abbrev pub status_of : Kept → Status
status_of k = status_in k.version k.value

-- its record is one of this identifier
abbrev pub IsEntryOf : ℕ → Option Shared → Type 0
IsEntryOf id None = Unit {0}
IsEntryOf id (Some r) = IsRecord (arc_value r) × ((arc_value r).id ≡ id)

-- the view of the kept entries: the entries by identifiers, and the record that memory was taken for
pub record KeptTerm : Type 0 where
  pub chains : Chains
  pub reserved : Option RecordTerm

-- the entry that was found of an identifier
abbrev pub kept_of : Option (ℕ × Bor (Option Shared)) → Option Kept
kept_of None = None
kept_of (Some r) = Some (record { version = r.0; value = r.1.now })

-- and the first that was found
abbrev pub first_of : Option (ℕ × ℕ × Bor (Option Shared)) → Option (ℕ × Kept)
first_of None = None
first_of (Some r) = Some (r.0, record { version = r.1; value = r.2.now })

-- the record that was found, if there is one
abbrev pub record_of : Option Kept → Option Shared
record_of None = None
record_of (Some k) = k.value

-- it has a record, whose print has each wanted bit
abbrev pub HasPrint : List Bool → Option Shared → Type 0
HasPrint want None = ⊥
HasPrint want (Some r) = (bit : ℕ) → HasBit want bit → HasBit (arc_value r).print bit

-- there is memory for one more entry of an identifier, with this record, if it has one
pub record HasRoom (id : ℕ) (own : Option Shared) (kept : KeptTerm) : Type 0 where
  pub chain : IsReserved id kept.chains
  pub record_is : IfSome own (λ r. kept.reserved ≡ Some (arc_value r))

-- the least identifier from `from` on that has an entry with such a print; `None` if no identifier has one
abbrev pub IsNextId : List Bool → ℕ → Chains → Option ℕ → Type 0
IsNextId want from chains None = (id : ℕ) (k : Kept) → from ≤ id → Contains (chain_of chains id) k
    → ¬ HasPrint want k.value
IsNextId want from chains (Some next) = (from ≤ next)
    × ((k : Kept) × Contains (chain_of chains next) k × HasPrint want k.value)
    × ((id : ℕ) (k : Kept) → from ≤ id → Contains (chain_of chains id) k → HasPrint want k.value → next ≤ id)

-- a pair of an index is of an entry: another reference to its record, and the version before which it is the latest
pub record IsOf (chains : Chains) (x : Screened Shared) : Type 0 where
  pub own : Shared
  pub there : Contains (chain_of chains x.id) (record { version = x.version; value = Some own })
  pub value : arc_value x.value ≡ arc_value own
  pub until : (k : Kept) → Contains (chain_of chains x.id) k → x.version < k.version → x.until ≤ k.version

-- an entry whose print has each wanted bit
pub record IsCandidate (want : List Bool) (chains : Chains) (x : Screened Shared) : Type 0 where
  pub of_entry : IsOf chains x
  pub print : HasPrint want (Some x.value)

-- a record is found of an identifier at a version exactly if the record of the latest entry has such a print, and it is
-- that record
pub record IsFoundAt (version : ℕ) (want : List Bool) (ks : List Kept) (found : Option Shared) : Type 0 where
  pub latest : Option Kept
  pub is_latest : IsLatest version ks latest
  pub is_found : MatchOption found (¬ HasPrint want (record_of latest)) (λ r. HasPrint want (record_of latest)
      × (option_map (λ (q : Shared). arc_value q) (record_of latest) ≡ Some (arc_value r)))

-- an identifier has an entry of a version
abbrev pub HasEntry : Chains → Entry → Type 0
HasEntry chains e = (k : Kept) × Contains (chain_of chains e.id) k × (k.version ≡ e.version)

-- a list of the entries, each once
pub record Lists (es : List Entry) (chains : Chains) : Type 0 where
  pub distinct : AllPairs (λ x y. x ≢ y) es
  pub exactly : (e : Entry) → Contains es e ↔ HasEntry chains e
  pub count : length (entries chains) ≡ length es

-- An index has a pair of each entry that has a record, with its print, and no other. For private clauses alone.
pub record AreIndexed (chains : Chains) (xs : List (Screened Shared)) : Type 0 where
  pub ascending : (id : ℕ) → AllPairs (λ k l. k.version < l.version) (chain_of chains id)
  pub versions : (x : Screened Shared) → Contains xs x → x.version < 4294967296
  pub prints : (x : Screened Shared) → Contains xs x → x.print ≡ (arc_value x.value).print
  pub only : (x : Screened Shared) → Contains xs x → IsOf chains x
  pub all : (id version : ℕ) (r : Shared)
      → Contains (chain_of chains id) (record { version = version; value = Some r })
      → (x : Screened Shared) × Contains xs x × (x.id ≡ id) × (x.version ≡ version)
