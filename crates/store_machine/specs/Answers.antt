-- The answers of a search in a snapshot: the live records whose texts satisfy a property, ascending, and those from an
-- identifier on.
use Rattle.std.specs.Prelude.{◌≡◌, ◌⊎◌, Bool, Contains, List, [], ◌∷◌, filter, map, nat_le, Some, ℕ}
use Rattle.std.specs.FinMap.{get}
use Rattle.std.specs.List.Sorted.{IsStrictlyIncreasing}
use Rattle.mol_finish.specs.declared.fault.Format.{Format}
use Rattle.smarts_parse.specs.Pattern.{PatternTerm}
use Rattle.store_machine.specs.History.{Snapshot, snapshot}
use Rattle.store_machine.specs.Structures.{IsMatched, IsScreened}
use Rattle.store_machine.specs.declared.machine.Found.{Found}
use Rattle.store_machine.specs.declared.machine.History.{History}
use Rattle.store_machine.specs.declared.machine.Status.TheVariants.{Live}

abbrev pub ids : List Found → List ℕ
ids records = map (λ r. r.id) records

abbrev pub from_on : ℕ → List Found → List Found
from_on from records = filter (λ r. nat_le from r.id) records

-- the record is live in the snapshot
abbrev pub IsLive : Snapshot → Found → Type 0
IsLive states r = (version : ℕ) × (get states r.id ≡ Some (Live version r.format r.text))

-- the live records whose texts are asked for, each once, ascending
pub record AreFound (Asked : Format → List ℕ → Type 0) (states : Snapshot) (records : List Found) : Type 0 where
  pub ascending : IsStrictlyIncreasing (ids records)
  pub only : (r : Found) → Contains records r → IsLive states r × Asked r.format r.text
  pub all : (r : Found) → IsLive states r → Asked r.format r.text → Contains records r

-- the identifier is live at the version, with a text that is asked for
pub record IsAnswer (Asked : Format → List ℕ → Type 0) (h : History) (v id : ℕ) : Type 0 where
  pub version : ℕ
  pub format : Format
  pub text : List ℕ
  pub state : get (snapshot h v) id ≡ Some (Live version format text)
  pub asked : Asked format text

-- the identifiers that are answers at the version, each once, ascending
pub record AreAnswers (Asked : Format → List ℕ → Type 0) (h : History) (v : ℕ) (ids : List ℕ) : Type 0 where
  pub ascending : IsStrictlyIncreasing ids
  pub only : (id : ℕ) → Contains ids id → IsAnswer Asked h v id
  pub all : (id : ℕ) → IsAnswer Asked h v id → Contains ids id

-- the hits of a pattern at a version. They know no print
abbrev pub AreHits : History → ℕ → PatternTerm → List ℕ → Type 0
AreHits h v pattern ids = AreAnswers (IsMatched pattern) h v ids

-- those whose print contains the wanted bits
abbrev pub AreTried : History → ℕ → List Bool → List ℕ → Type 0
AreTried h v want ids = AreAnswers (IsScreened want) h v ids

-- the identifiers of those of these records that the pattern matches, in order
abbrev pub AreMatched : PatternTerm → List Found → List ℕ → Type 0
AreMatched pattern [] hits = hits ≡ []
AreMatched pattern (r ∷ rs) hits =
    (IsMatched pattern r.format r.text × (rest : List ℕ) × (hits ≡ r.id ∷ rest) × AreMatched pattern rs rest)
    ⊎ (¬ IsMatched pattern r.format r.text × AreMatched pattern rs hits)
