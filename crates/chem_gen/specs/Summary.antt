-- The summary of a transcript of a generated script, for callers.
use Rattle.std.specs.Prelude.{ℕ, ◌==◌, ◌||◌, Bool, List, [], ◌∷◌, ◌++◌, drop, filter, fold, nat_eq, codes, decimal, if◌then◌else◌}
use Rattle.std.specs.List.{slice_split, starts_with, after_first}
use Rattle.chem_gen.specs.Script.{patterns}

-- the texts between line ends; after the last of them is an empty line
abbrev pub lines_of : List ℕ → List (List ℕ)
lines_of text = slice_split (λ b. b == 10) text

abbrev pub begins : List ℕ → List ℕ → Bool
begins line word = starts_with nat_eq line word

-- the version of the last line `ok V`, and 0 without one
abbrev pub last_version : List (List ℕ) → List ℕ
last_version lines = fold (λ version line. if begins line (codes "ok ") then drop 3 line else version) (codes "0") lines

-- the line ends the reply to a search: `end at V tried T hits N`, or `fault memory`
abbrev pub is_ending : List ℕ → Bool
is_ending line = begins line (codes "end at ") || begins line (codes "fault memory")

-- the outcome in an ending: `tried T hits N`, or `fault memory`
abbrev pub outcome : List ℕ → List ℕ
outcome line = if begins line (codes "end at ") then after_first (λ b. b == 32) (drop 7 line) else line

-- a line for each search that has an ending
unfoldable pub outcomes : List (List ℕ) → List (List ℕ) → List ℕ
outcomes [] endings = []
outcomes (pattern ∷ more) [] = []
outcomes (pattern ∷ more) (ending ∷ endings) = codes "search " ++ pattern ++ codes " " ++ outcome ending ++ 10
    ∷ outcomes more endings

-- the endings in lines
abbrev pub endings_in : List (List ℕ) → List (List ℕ)
endings_in lines = filter is_ending lines

-- The summary of a transcript. Its first `count` lines answer the registrations, one each.
abbrev pub summary_of : ℕ → ℕ → List ℕ → List ℕ
summary_of seed count transcript =
    codes "bulk seed " ++ decimal seed ++ codes " count " ++ decimal count
    ++ codes "\nversion " ++ last_version (lines_of transcript) ++ 10
    ∷ outcomes patterns (endings_in (drop count (lines_of transcript)))
