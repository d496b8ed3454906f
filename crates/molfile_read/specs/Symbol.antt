-- Atom symbols (CTfile formats, V2000, atom block). For callers.
use Rattle.std.specs.Prelude.{ℕ, ◌||◌, Bool, List, Option, Some, None, codes, if◌then◌else◌}
use Rattle.std.specs.List.{position_from}
use Rattle.std.specs.Str.{bytes_eq}
use Rattle.chem_core.specs.Element.{symbols}

-- symbols that queries alone use: any atom, any but carbon and hydrogen, an atom list, a lone pair, an R group
abbrev pub is_query_symbol : List ℕ → Bool
is_query_symbol symbol =
    bytes_eq symbol (codes "A") || (bytes_eq symbol (codes "Q") || (bytes_eq symbol (codes "L")
    || (bytes_eq symbol (codes "LP") || bytes_eq symbol (codes "R#"))))

-- `D` and `T` are hydrogen of isotope 2 and 3
abbrev pub hydrogen_isotope : List ℕ → Option (ℕ × ℕ)
hydrogen_isotope symbol =
    if bytes_eq symbol (codes "D") then Some (1, 2) else
    (if bytes_eq symbol (codes "T") then Some (1, 3) else None)

abbrev pub element_or : Option (ℕ × ℕ) → Option ℕ → Option (ℕ × ℕ)
element_or other None = other
element_or other (Some number) = Some (number, 0)

-- the atomic number of a symbol, which is 0 for `*`, and its isotope
abbrev pub element_of : List ℕ → Option (ℕ × ℕ)
element_of symbol = element_or (hydrogen_isotope symbol) (position_from (λ s. bytes_eq s symbol) 0 symbols)
