-- For callers: replies with the number of their session.
use Rattle.std.specs.Prelude.{ℕ, Bool, true, List, [], ◌∷◌, ◌++◌, ◌==◌, if◌then◌else◌}
use Rattle.std.specs.Fmt.{decimal}

-- a text with a number and a space before each of its lines. A line begins after each LF that is not the last byte, and
-- at the start if `begins` is true
abbrev pub numbered_from : ℕ → Bool → List ℕ → List ℕ
numbered_from number begins [] = []
numbered_from number begins (b ∷ bs) =
    (if begins then decimal number ++ 32 ∷ [] else []) ++ b ∷ numbered_from number (b == 10) bs

abbrev pub numbered : ℕ → List ℕ → List ℕ
numbered number text = numbered_from number true text
