-- For private clauses alone: a line by its first word and its rest.
use Rattle.std.specs.Prelude.{◌≡◌, ◌⊎◌, ℕ, Result, Ok, Err, List, ◌∷◌, ◌++◌}
use Rattle.std.specs.Fmt.{decimal}
use Rattle.shell_lang.specs.declared.word.Word.{Word}
use Rattle.shell_lang.specs.declared.word.Word.TheVariants as words
use Rattle.shell_lang.specs.declared.command.LineRefusal.{LineRefusal}
use Rattle.shell_lang.specs.declared.command.LineRefusal.TheVariants as refusals
use Rattle.store_machine.specs.History.{IsId}
use Rattle.shell_lang.specs.Command.{Command, Register, RegisterNew, Revise, RegisterMol, ReviseMol, RegisterSd, Withdraw, Show, Data, Search, Same, Similar, Start, Next, Close, Watch, Hits, Unwatch, AreIds, IsCount, IsNoFirst, IsNoIdentifier, IsName, IsSimilarity, HasNoSpace}

-- a line with this first word and this rest is the command
abbrev pub Follows : Word → List ℕ → Command → Type 0
Follows words.Register rest (Register id text) = IsId id × (rest ≡ decimal id ++ 32 ∷ text)
Follows words.RegisterNew rest (RegisterNew id text) = IsId id × (rest ≡ decimal id ++ 32 ∷ text)
Follows words.Revise rest (Revise id text) = IsId id × (rest ≡ decimal id ++ 32 ∷ text)
Follows words.RegisterMol rest (RegisterMol id) = IsId id × (rest ≡ decimal id)
Follows words.ReviseMol rest (ReviseMol id) = IsId id × (rest ≡ decimal id)
Follows words.RegisterSd rest (RegisterSd id count) =
    IsCount count × AreIds id count × (rest ≡ decimal id ++ 32 ∷ decimal count)
Follows words.Withdraw rest (Withdraw id) = IsId id × (rest ≡ decimal id)
Follows words.Show rest (Show id) = IsId id × (rest ≡ decimal id)
Follows words.Data rest (Data id name) = IsId id × (rest ≡ decimal id ++ 32 ∷ name)
Follows words.Search rest (Search pattern) = rest ≡ pattern
Follows words.Same rest (Same text) = rest ≡ text
Follows words.Similar rest (Similar p q k text) =
    IsSimilarity p q k × (rest ≡ decimal p ++ 32 ∷ (decimal q ++ 32 ∷ (decimal k ++ 32 ∷ text)))
Follows words.Open rest (Start name pattern) = IsName name × (rest ≡ name ++ 32 ∷ pattern)
Follows words.Next rest (Next name) = IsName name × (rest ≡ name)
Follows words.Close rest (Close name) = IsName name × (rest ≡ name)
Follows words.Watch rest (Watch name text) = IsName name × (rest ≡ name ++ 32 ∷ text)
Follows words.Hits rest (Hits name) = IsName name × (rest ≡ name)
Follows words.Unwatch rest (Unwatch name) = IsName name × (rest ≡ name)
Follows word rest command = ⊥

-- the rest is a part for an identifier, and then a text if the word has one
abbrev pub IdentifierPart : Word → List ℕ → List ℕ → Type 0
IdentifierPart words.Register rest part = HasNoSpace part × (text : List ℕ) × (rest ≡ part ++ 32 ∷ text)
IdentifierPart words.RegisterNew rest part = HasNoSpace part × (text : List ℕ) × (rest ≡ part ++ 32 ∷ text)
IdentifierPart words.Revise rest part = HasNoSpace part × (text : List ℕ) × (rest ≡ part ++ 32 ∷ text)
IdentifierPart words.RegisterMol rest part = HasNoSpace part × (rest ≡ part)
IdentifierPart words.ReviseMol rest part = HasNoSpace part × (rest ≡ part)
IdentifierPart words.Withdraw rest part = HasNoSpace part × (rest ≡ part)
IdentifierPart words.Show rest part = HasNoSpace part × (rest ≡ part)
IdentifierPart words.Data rest part = HasNoSpace part × (name : List ℕ) × (rest ≡ part ++ 32 ∷ name)
IdentifierPart word rest part = ⊥

-- the rest is a part for the first of `count` identifiers, and `count`
abbrev pub FirstPart : Word → List ℕ → List ℕ → ℕ → Type 0
FirstPart words.RegisterSd rest part count = HasNoSpace part × IsCount count × (rest ≡ part ++ 32 ∷ decimal count)
FirstPart word rest part count = ⊥

abbrev pub IsRest : Word → List ℕ → Result Command LineRefusal → Type 0
IsRest word rest (Ok command) = Follows word rest command
IsRest word rest (Err refusals.Id) =
    ((part : List ℕ) × IdentifierPart word rest part × IsNoIdentifier part)
    ⊎ ((part : List ℕ) × (count : ℕ) × FirstPart word rest part count × IsNoFirst part count)
IsRest word rest (Err refusals.Syntax) =
    ((command : Command) → ¬ Follows word rest command) × ((part : List ℕ) → ¬ IdentifierPart word rest part)
    × ((part : List ℕ) (count : ℕ) → ¬ FirstPart word rest part count)
