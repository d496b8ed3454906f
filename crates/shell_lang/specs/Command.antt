-- For callers: the lines of a script. Parts of a line are separated by exactly one space; a SMILES and a SMARTS are the
-- rest of their line, any bytes.
use Rattle.std.specs.Prelude.{◌≡◌, ◌≢◌, ◌⊎◌, ℕ, ◌≤◌, ◌+◌, Result, Ok, Err, List, [], ◌∷◌, ◌++◌, length, All, Contains, codes}
use Rattle.std.specs.Fmt.{decimal}
use Rattle.store_machine.specs.History.{IsId}
use Rattle.store_machine.specs.declared.machine.TheConstants.{LAST_IDENTIFIER}
use Rattle.shell_lang.specs.declared.command.TheConstants.{LARGEST_DENOMINATOR, LONGEST_NAME, MOST_SD_RECORDS, MOST_SIMILAR}
use Rattle.shell_lang.specs.declared.command.LineRefusal.{LineRefusal}
use Rattle.shell_lang.specs.declared.command.LineRefusal.TheVariants as refusals
use Rattle.shell_lang.specs.declared.command.MolfileChange.{MolfileChange}
use Rattle.shell_lang.specs.declared.command.MolfileChange.TheVariants as changes

pub data Command : Type 0 where
  Empty : Command
  Register : (id : ℕ) (text : List ℕ) → Command
  RegisterNew : (id : ℕ) (text : List ℕ) → Command
  Revise : (id : ℕ) (text : List ℕ) → Command
  RegisterMol : (id : ℕ) → Command
  ReviseMol : (id : ℕ) → Command
  RegisterSd : (id count : ℕ) → Command
  Withdraw : (id : ℕ) → Command
  Show : (id : ℕ) → Command
  Data : (id : ℕ) (name : List ℕ) → Command
  Search : (pattern : List ℕ) → Command
  Same : (text : List ℕ) → Command
  Similar : (p q k : ℕ) (text : List ℕ) → Command
  Start : (name pattern : List ℕ) → Command
  Next : (name : List ℕ) → Command
  Close : (name : List ℕ) → Command
  Watch : (name text : List ℕ) → Command
  Hits : (name : List ℕ) → Command
  Unwatch : (name : List ℕ) → Command
  Prune : Command
  Compact : Command
  Stats : Command

abbrev pub IsNoIdentifier : List ℕ → Type 0
IsNoIdentifier part = (id : ℕ) → IsId id → part ≢ decimal id

-- a letter, a digit or `_`
abbrev pub IsNameByte : ℕ → Type 0
IsNameByte b = ((48 ≤ b) × (b ≤ 57)) ⊎ (((65 ≤ b) × (b ≤ 90)) ⊎ (((97 ≤ b) × (b ≤ 122)) ⊎ (b ≡ 95)))

-- the name of a cursor or of a watch
pub record IsName (name : List ℕ) : Type 0 where
  pub some : 1 ≤ length name
  pub short : length name ≤ LONGEST_NAME
  pub bytes : All IsNameByte name

-- the request of `similar`: a fraction p / q of at most 1, and at most k hits
pub record IsSimilarity (p q k : ℕ) : Type 0 where
  pub whole : (1 ≤ q) × (q ≤ LARGEST_DENOMINATOR)
  pub part : p ≤ q
  pub few : (1 ≤ k) × (k ≤ MOST_SIMILAR)

-- the number of records of an SD file that a line may take
abbrev pub IsCount : ℕ → Type 0
IsCount count = (1 ≤ count) × (count ≤ MOST_SD_RECORDS)

-- `count` identifiers, from the first on
abbrev pub AreIds : ℕ → ℕ → Type 0
AreIds first count = (1 ≤ first) × (first + count ≤ LAST_IDENTIFIER + 1)

-- the line is this command, written out
abbrev pub Spells : List ℕ → Command → Type 0
Spells line Empty = line ≡ []
Spells line (Register id text) = IsId id × (line ≡ codes "register" ++ 32 ∷ (decimal id ++ 32 ∷ text))
Spells line (RegisterNew id text) = IsId id × (line ≡ codes "register-new" ++ 32 ∷ (decimal id ++ 32 ∷ text))
Spells line (Revise id text) = IsId id × (line ≡ codes "revise" ++ 32 ∷ (decimal id ++ 32 ∷ text))
Spells line (RegisterMol id) = IsId id × (line ≡ codes "register-mol" ++ 32 ∷ decimal id)
Spells line (ReviseMol id) = IsId id × (line ≡ codes "revise-mol" ++ 32 ∷ decimal id)
Spells line (RegisterSd id count) =
    IsCount count × AreIds id count × (line ≡ codes "register-sd" ++ 32 ∷ (decimal id ++ 32 ∷ decimal count))
Spells line (Withdraw id) = IsId id × (line ≡ codes "withdraw" ++ 32 ∷ decimal id)
Spells line (Show id) = IsId id × (line ≡ codes "show" ++ 32 ∷ decimal id)
Spells line (Data id name) = IsId id × (line ≡ codes "data" ++ 32 ∷ (decimal id ++ 32 ∷ name))
Spells line (Search pattern) = line ≡ codes "search" ++ 32 ∷ pattern
Spells line (Same text) = line ≡ codes "same" ++ 32 ∷ text
Spells line (Similar p q k text) =
    IsSimilarity p q k ×
    (line ≡ codes "similar" ++ 32 ∷ (decimal p ++ 32 ∷ (decimal q ++ 32 ∷ (decimal k ++ 32 ∷ text))))
Spells line (Start name pattern) = IsName name × (line ≡ codes "open" ++ 32 ∷ (name ++ 32 ∷ pattern))
Spells line (Next name) = IsName name × (line ≡ codes "next" ++ 32 ∷ name)
Spells line (Close name) = IsName name × (line ≡ codes "close" ++ 32 ∷ name)
Spells line (Watch name text) = IsName name × (line ≡ codes "watch" ++ 32 ∷ (name ++ 32 ∷ text))
Spells line (Hits name) = IsName name × (line ≡ codes "hits" ++ 32 ∷ name)
Spells line (Unwatch name) = IsName name × (line ≡ codes "unwatch" ++ 32 ∷ name)
Spells line Prune = line ≡ codes "prune"
Spells line Compact = line ≡ codes "compact"
Spells line Stats = line ≡ codes "stats"

abbrev pub HasNoSpace : List ℕ → Type 0
HasNoSpace bytes = Contains bytes 32 → ⊥

-- the part is in the line's place for an identifier, and the number of parts is right
abbrev pub HasIdentifierPart : List ℕ → List ℕ → Type 0
HasIdentifierPart line part =
    HasNoSpace part ×
    (((text : List ℕ) × (line ≡ codes "register" ++ 32 ∷ (part ++ 32 ∷ text)))
    ⊎ (((text : List ℕ) × (line ≡ codes "register-new" ++ 32 ∷ (part ++ 32 ∷ text)))
    ⊎ (((text : List ℕ) × (line ≡ codes "revise" ++ 32 ∷ (part ++ 32 ∷ text)))
    ⊎ (((name : List ℕ) × (line ≡ codes "data" ++ 32 ∷ (part ++ 32 ∷ name)))
    ⊎ ((line ≡ codes "register-mol" ++ 32 ∷ part) ⊎ ((line ≡ codes "revise-mol" ++ 32 ∷ part)
    ⊎ ((line ≡ codes "withdraw" ++ 32 ∷ part) ⊎ (line ≡ codes "show" ++ 32 ∷ part))))))))

-- the line takes `count` records of the lines after it, and the part is in the place for the first identifier
abbrev pub TakesRecords : List ℕ → List ℕ → ℕ → Type 0
TakesRecords line part count =
    HasNoSpace part × IsCount count × (line ≡ codes "register-sd" ++ 32 ∷ (part ++ 32 ∷ decimal count))

-- the part is not the first of `count` identifiers
abbrev pub IsNoFirst : List ℕ → ℕ → Type 0
IsNoFirst part count = (id : ℕ) → AreIds id count → part ≢ decimal id

-- The reading of a line: a command, or `Id`, or `Syntax`. `Id`: the part for an identifier is invalid or too great for
-- the number of records. `Syntax`: the line is neither a command nor has such a part.
abbrev pub IsLine : List ℕ → Result Command LineRefusal → Type 0
IsLine line (Ok command) = Spells line command
IsLine line (Err refusals.Id) =
    ((part : List ℕ) × HasIdentifierPart line part × IsNoIdentifier part)
    ⊎ ((part : List ℕ) × (count : ℕ) × TakesRecords line part count × IsNoFirst part count)
IsLine line (Err refusals.Syntax) =
    ((command : Command) → ¬ Spells line command) × ((part : List ℕ) → ¬ HasIdentifierPart line part)
    × ((part : List ℕ) (count : ℕ) → ¬ TakesRecords line part count)

-- the line's first part is this word
abbrev pub StartsWith : List ℕ → List ℕ → Type 0
StartsWith line word = (line ≡ word) ⊎ ((rest : List ℕ) × (line ≡ word ++ 32 ∷ rest))

-- the line's first part is `register-mol` or `revise-mol`, so that the lines of a molfile belong to it
abbrev pub StartsMolfile : List ℕ → Type 0
StartsMolfile line = StartsWith line (codes "register-mol") ⊎ StartsWith line (codes "revise-mol")

-- the lines of a number of records belong to the line
abbrev pub StartsRecords : List ℕ → Type 0
StartsRecords line = (part : List ℕ) × (count : ℕ) × TakesRecords line part count

-- lines after it belong to the line
abbrev pub TakesLines : List ℕ → Type 0
TakesLines line = StartsMolfile line ⊎ StartsRecords line

-- the line begins `M  END`, which ends a molfile
abbrev pub EndsMolfile : List ℕ → Type 0
EndsMolfile line = (rest : List ℕ) × (line ≡ codes "M  END" ++ rest)

-- the reading of a line that starts a molfile, by its change
abbrev pub molfile_command : Result MolfileChange LineRefusal → Result Command LineRefusal
molfile_command (Ok (changes.Register id)) = Ok (RegisterMol id)
molfile_command (Ok (changes.Revise id)) = Ok (ReviseMol id)
molfile_command (Err refusal) = Err refusal

-- the reading of a line that starts `count` records, by the first identifier
abbrev pub records_command : ℕ → Result ℕ LineRefusal → Result Command LineRefusal
records_command count (Ok first) = Ok (RegisterSd first count)
records_command count (Err refusal) = Err refusal
