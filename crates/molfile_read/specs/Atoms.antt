-- An atom line (CTfile formats, V2000, atom block). The symbol is in columns 32 to 34, the mass difference in 35 and
-- 36, the charge in 37 to 39. The hydrogen count is in 43 to 45, the valence in 49 to 51. Other columns are not read.
-- For callers.
use Rattle.std.specs.Prelude.{ℕ, ◌||◌, Bool, List, Result, Ok, Err, Option, if◌then◌else◌}
use Rattle.std.specs.Option.{ok_or}
use Rattle.molfile_read.specs.declared.fault.MolfileFault.{MolfileFault}
use Rattle.molfile_read.specs.declared.fault.MolfileFault.TheVariants.{Columns, Query}
use Rattle.molfile_read.specs.declared.atom.AtomLine.{AtomLine}
use Rattle.molfile_read.specs.Text.{Line}
use Rattle.molfile_read.specs.Field.{columns, trimmed, number_in, signed_number_in, is_other_than_zero}
use Rattle.molfile_read.specs.Symbol.{is_query_symbol, element_of}
use Rattle.molfile_read.specs.Steps.{◌>>=◌}

-- a field's value, or the fault of a field without one
abbrev pub given : {A : Type 0} → ℕ → Option A → Result A MolfileFault
given at field = ok_or field (Columns at)

abbrev pub symbol_in : List ℕ → List ℕ
symbol_in line = trimmed (columns 32 34 line)

-- a symbol of queries, or hydrogens that a query asks for
abbrev pub is_query_atom : List ℕ → Bool
is_query_atom line = is_query_symbol (symbol_in line) || is_other_than_zero (number_in 999 (columns 43 45 line))

-- the fields of an atom line
unfoldable pub atom_read : Line → Result AtomLine MolfileFault
atom_read l =
    (if is_query_atom l.1 then Err (Query l.0) else
    (given l.0 (element_of (symbol_in l.1)) >>= λ element.
    given l.0 (signed_number_in 99 (columns 35 36 l.1)) >>= λ mass.
    given l.0 (number_in 7 (columns 37 39 l.1)) >>= λ charge.
    given l.0 (number_in 999 (columns 43 45 l.1)) >>= λ hydrogens.
    given l.0 (number_in 15 (columns 49 51 l.1)) >>= λ valence.
    Ok (record { number = element.0; isotope = element.1; mass = mass; charge = charge; valence = valence })))
