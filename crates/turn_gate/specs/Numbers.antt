-- For callers: numbers of passes, and the events that name them.
use Rattle.std.specs.Prelude.{ℕ, ◌+◌, Bool, true, false, List, [], ◌∷◌, ◌==◌, length, if◌then◌else◌, leb}

abbrev pub has : List ℕ → ℕ → Bool
has [] n = false
has (m ∷ ms) n = if m == n then true else has ms n

-- the number of times that a number is in the list
abbrev pub times : ℕ → List ℕ → ℕ
times n [] = 0
times n (m ∷ ms) = if m == n then 1 + times n ms else times n ms

-- the events that name one of these numbers, in their order
abbrev pub own : {E : Type 0} → (E → ℕ) → List ℕ → List E → List E
own number ns [] = []
own number ns (e ∷ es) = if has ns (number e) then e ∷ own number ns es else own number ns es

abbrev pub longer : {E : Type 0} → List E → List E → List E
longer xs ys = if leb (length xs) (length ys) then ys else xs
