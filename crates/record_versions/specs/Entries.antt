-- For callers: the entries of an identifier, the one that is read at a version, and the dead ones.
use Rattle.std.specs.Prelude.{◌≡◌, ◌==◌, ◌≢◌, ◌++◌, ◌<◌, ◌≤◌, All, Bool, Contains, length, List, [], ◌∷◌, map, not, None, Option, Some, true, ℕ}
use Rattle.std.specs.BTreeMap.{is_at}
use Rattle.std.specs.Map.{lookup}
use Rattle.std.specs.Option.{IfSome, IsSomeAnd}
use Rattle.std.specs.Ordering.{nat_cmp}
use Rattle.record_versions.specs.Rows.{Row}
use Rattle.record_versions.specs.declared.entries.Entry.{Entry}

-- one place is not after the other, by identifier and then by version
abbrev pub IsUpTo : ℕ × ℕ → ℕ × ℕ → Type 0
IsUpTo p q = (p.0 ≤ q.0) × (p.0 ≡ q.0 → p.1 ≤ q.1)

module _ {V : Type 0} where
  -- all entries, each with its identifier
  abbrev pub entries : List (ℕ × Row V) → List (ℕ × Entry V)
  entries [] = []
  entries (c ∷ cs) = map (λ k. (c.0, k)) c.1.entries ++ entries cs

  -- the entries of an identifier, in the order of their versions
  abbrev pub entries_in : Option (Row V) → List (Entry V)
  entries_in None = []
  entries_in (Some r) = r.entries

  abbrev pub row_of : List (ℕ × Row V) → ℕ → Option (Row V)
  row_of chains id = lookup (is_at (nat_cmp id)) chains

  abbrev pub chain_of : List (ℕ × Row V) → ℕ → List (Entry V)
  chain_of chains id = entries_in (row_of chains id)

  -- there is memory for one more entry of an identifier
  abbrev pub IsReserved : ℕ → List (ℕ × Row V) → Type 0
  IsReserved id chains = IsSomeAnd (row_of chains id) (λ r. length r.entries < r.room)

  -- the latest entry that is not after a version; `None` if all are after it
  abbrev pub IsLatest : ℕ → List (Entry V) → Option (Entry V) → Type 0
  IsLatest version ks None = All (λ k. version < k.version) ks
  IsLatest version ks (Some k) = Contains ks k × (k.version ≤ version)
      × ((l : Entry V) → Contains ks l → l.version ≤ version → l.version ≤ k.version)

  -- it is the latest at one of these versions
  abbrev pub IsRead : List ℕ → List (Entry V) → Entry V → Type 0
  IsRead live ks k = (version : ℕ) × Contains live version × IsLatest version ks (Some k)

  -- an identifier and the version of an entry that is the latest of its identifier at none of these versions
  abbrev pub IsDead : List ℕ → List (ℕ × Row V) → ℕ × ℕ → Type 0
  IsDead live chains p = (k : Entry V) × Contains (chain_of chains p.0) k × (k.version ≡ p.1)
      × ¬ IsRead live (chain_of chains p.0) k

  -- the least dead entry from a place on
  abbrev pub IsLeastDead : List ℕ → ℕ × ℕ → List (ℕ × Row V) → Option (ℕ × ℕ) → Type 0
  IsLeastDead live from chains None = (p : ℕ × ℕ) → IsUpTo from p → ¬ IsDead live chains p
  IsLeastDead live from chains (Some d) = IsUpTo from d × IsDead live chains d
      × ((p : ℕ × ℕ) → IsUpTo from p → IsDead live chains p → IsUpTo d p)

  -- the least identifier from `from` on that has an entry; `None` if no identifier has one
  abbrev pub IsLeastId : ℕ → List (ℕ × Row V) → Option ℕ → Type 0
  IsLeastId from chains None = (id : ℕ) → from ≤ id → chain_of chains id ≡ []
  IsLeastId from chains (Some least) = (from ≤ least) × (chain_of chains least ≢ [])
      × ((id : ℕ) → from ≤ id → id < least → chain_of chains id ≡ [])

  abbrev pub is_other : ℕ → Entry V → Bool
  is_other version k = not (k.version == version)

  -- in one chain: the least version from one on whose entry is not read
  abbrev pub IsLeastUnread : List ℕ → ℕ → List (Entry V) → Option ℕ → Type 0
  IsLeastUnread live from ks None = (k : Entry V) → Contains ks k → from ≤ k.version → IsRead live ks k
  IsLeastUnread live from ks (Some v) = (from ≤ v)
      × ((k : Entry V) × Contains ks k × (k.version ≡ v) × ¬ IsRead live ks k)
      × ((k : Entry V) → Contains ks k → from ≤ k.version → k.version < v → IsRead live ks k)

-- a version from `from` on and before the next, if there is a next
abbrev pub IsBetween : ℕ → Option ℕ → ℕ → Type 0
IsBetween from next version = (from ≤ version) × IfSome next (λ n. version < n)

-- true if one of these versions is between, false if each is not
abbrev pub IsReadBefore : ℕ → Option ℕ → List ℕ → Bool → Type 0
IsReadBefore from next live true = (version : ℕ) × Contains live version × IsBetween from next version
IsReadBefore from next live _ = All (λ version. ¬ IsBetween from next version) live
