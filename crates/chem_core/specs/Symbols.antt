-- Symbols of atoms, and classes of symbols: a molecule without a class has no symbol of that class. For callers.
use Rattle.std.specs.Prelude.{◌≡◌, ℕ, ◌+◌, ◌*◌, ◌%◌, Bool, Contains, false, List, slice_get, true}
use Rattle.std.specs.Option.{IsSomeAnd}
use Rattle.chem_core.specs.declared.mol.Atom.{Atom}

-- the atom at a place has this number, and is aromatic or not
abbrev pub HasSymbolAt : List Atom → ℕ → ℕ → Bool → Type 0
HasSymbolAt atoms place number aromatic = IsSomeAnd (slice_get atoms place)
    (λ x. (x.number ≡ number) × (x.aromatic ≡ aromatic))

-- the class of an atom of that number: one for aromatic atoms and one for others, for each number modulo 32
abbrev pub class_at : ℕ → Bool → ℕ
class_at number true = number % 32 * 2 + 1
class_at number false = number % 32 * 2

abbrev pub class_of : Atom → ℕ
class_of x = class_at x.number x.aromatic

-- an atom is of class c
abbrev pub HasClass : List Atom → ℕ → Type 0
HasClass atoms c = (x : Atom) × Contains atoms x × (class_of x ≡ c)
