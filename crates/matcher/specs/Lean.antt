-- For private clauses alone: a word with the taken atoms, of at most 64.
use Rattle.std.specs.Prelude.{◌≡◌, ◌↔◌, ℕ, ◌<◌, List, Contains}
use Rattle.std.specs.Int.{bit_at}

-- the bits of the word are the atoms of the list
abbrev pub HasJust : ℕ → List ℕ → Type 0
HasJust word atoms = (a : ℕ) → a < 64 → bit_at word a ≡ 1 ↔ Contains atoms a
