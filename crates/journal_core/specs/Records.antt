-- The bytes of a journal: a header, and then records. A record is a gate byte, the payload's length in four bytes
-- (little-endian) and the payload. It counts if its gate is open, and the next gate follows it. For callers.
use Rattle.std.specs.Prelude.{◌≡◌, ◌≢◌, ◌≤◌, ◌⊎◌, ℕ, List, [], ◌∷◌, ◌++◌, length, codes}
use Rattle.std.specs.List.{AllByRecursion}
use Rattle.std.specs.Int.{to_le_bytes, w32}
use Rattle.journal_core.specs.declared.format.TheConstants.{OPEN, CLOSED, LONGEST_PAYLOAD}

abbrev pub header : List ℕ
header = 0x5a ∷ codes "CHEMDB1"

-- the bytes after the gate of a record
abbrev pub body : List ℕ → List ℕ
body payload = to_le_bytes w32 (length payload) ++ payload

-- open records of these payloads
abbrev pub records : List (List ℕ) → List ℕ
records [] = []
records (payload ∷ payloads) = (OPEN ∷ body payload) ++ records payloads

-- the front, and these records
unfoldable pub prefix : List ℕ → List (List ℕ) → List ℕ
prefix front payloads = front ++ records payloads

-- a whole file: the front, these records and a closed gate
abbrev pub text : List ℕ → List (List ℕ) → List ℕ
text front payloads = prefix front payloads ++ CLOSED ∷ []

abbrev pub IsShort : List ℕ → Type 0
IsShort payload = length payload ≤ LONGEST_PAYLOAD

-- The bytes open to these payloads: their records are open, and a gate that is not open follows.
pub record Opens (front : List ℕ) (payloads : List (List ℕ)) (bytes : List ℕ) : Type 0 where
  pub gate : ℕ
  pub rest : List ℕ
  pub is : bytes ≡ prefix front payloads ++ gate ∷ rest
  pub shut : gate ≢ OPEN
  pub fit : AllByRecursion IsShort payloads

-- No gate is at the front of these bytes, or an open one whose length or payload is missing, or too long.
abbrev pub IsBroken : List ℕ → Type 0
IsBroken [] = Unit {0}
IsBroken (gate ∷ rest) = (gate ≡ OPEN)
    × ((payload behind : List ℕ) → IsShort payload → rest ≡ body payload ++ behind → ⊥)

-- Open records of these payloads, and then broken bytes.
pub record Breaks (front : List ℕ) (payloads : List (List ℕ)) (bytes : List ℕ) : Type 0 where
  pub tail : List ℕ
  pub is : bytes ≡ prefix front payloads ++ tail
  pub broken : IsBroken tail
  pub fit : AllByRecursion IsShort payloads

-- the header is not there
abbrev pub IsNoJournal : List ℕ → Type 0
IsNoJournal bytes = (rest : List ℕ) → bytes ≡ header ++ rest → ⊥

-- Open records of these payloads, any gate, and after it this payload's record and a closed gate.
pub record Staged (front : List ℕ) (payloads : List (List ℕ)) (payload bytes : List ℕ) : Type 0 where
  pub gate : ℕ
  pub rest : List ℕ
  pub is : bytes ≡ prefix front payloads ++ gate ∷ (body payload ++ CLOSED ∷ rest)
  pub fit : AllByRecursion IsShort payloads
  pub few : IsShort payload

-- the payloads from before an append, or these and the new one
abbrev pub BeforeOrAfter : List ℕ → List (List ℕ) → List ℕ → List ℕ → Type 0
BeforeOrAfter front payloads payload bytes = Opens front payloads bytes ⊎ Opens front (payloads ++ payload ∷ []) bytes
