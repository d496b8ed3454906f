-- The generated script of a seed and a count, for callers. The numbers are those of Park and Miller's generator with
-- the multiplier 48271.
use Rattle.std.specs.Prelude.{ℕ, zero, suc, ◌+◌, ◌*◌, ◌%◌, List, [], ◌∷◌, ◌++◌, slice_index_or, codes, decimal}
use Rattle.std.specs.List.{flat_map}

-- the number after a number
abbrev pub next : ℕ → ℕ
next x = 48271 * x % 2147483647

-- the number that many places after a number
abbrev pub later : ℕ → ℕ → ℕ
later zero x = x
later (suc n) x = later n (next x)

abbrev pub fragments : List (List ℕ)
fragments = codes "C" ∷ codes "N" ∷ codes "O" ∷ codes "C(=O)" ∷ codes "C(C)" ∷ codes "c1ccc(cc1)" ∷ codes "C(F)"
    ∷ codes "S" ∷ []

abbrev pub patterns : List (List ℕ)
patterns = codes "C=O" ∷ codes "c1ccccc1" ∷ codes "[N;H1]" ∷ codes "[$(C(=O)N)]" ∷ codes "F" ∷ []

-- that many fragments, picked by the numbers after x
unfoldable pub picked : ℕ → ℕ → List ℕ
picked zero x = []
picked (suc n) x = slice_index_or fragments (next x % 8) [] ++ picked n (next x)

-- the number of fragments, by the number after x
abbrev pub fragment_count : ℕ → ℕ
fragment_count x = 2 + next x % 6

-- a structure, by the numbers after x: `C`, and 2 to 7 fragments
abbrev pub structure_text : ℕ → List ℕ
structure_text x = codes "C" ++ picked (fragment_count x) (next x)

-- the last number that the structure took
abbrev pub after_structure : ℕ → ℕ
after_structure x = later (fragment_count x) (next x)

-- that many registrations from an identifier on, by the numbers after x
unfoldable pub registrations : ℕ → ℕ → ℕ → List ℕ
registrations zero id x = []
registrations (suc n) id x = codes "register " ++ decimal id ++ codes " " ++ structure_text x ++ 10
    ∷ registrations n (id + 1) (after_structure x)

-- a search for each pattern
abbrev pub searches : List ℕ
searches = flat_map (λ pattern. codes "search " ++ pattern ++ 10 ∷ []) patterns

-- the script of a seed and a count
abbrev pub script_of : ℕ → ℕ → List ℕ
script_of seed count = registrations count 1 seed ++ searches
