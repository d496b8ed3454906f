-- A bond line (CTfile formats, V2000, bond block). The first atom is in columns 1 to 3, the second in 4 to 6. The type
-- is in 7 to 9, the topology in 16 to 18. Other columns are not read. For callers.
use Rattle.std.specs.Prelude.{ℕ, ◌-◌, ◌==◌, ◌||◌, ◌&&◌, not, nat_lt, nat_le, Bool, false, List, [], ◌∷◌, ◌++◌, Option, Some, None, option_and_then, Result, Ok, Err, if◌then◌else◌}
use Rattle.std.specs.List.{list_any}
use Rattle.chem_core.specs.declared.sketch.SketchBond.{SketchBond}
use Rattle.chem_core.specs.declared.sketch.SketchKind.{SketchKind}
use Rattle.chem_core.specs.declared.sketch.SketchKind.TheVariants.{Single, Double, Triple}
use Rattle.molfile_read.specs.declared.fault.MolfileFault.{MolfileFault}
use Rattle.molfile_read.specs.declared.fault.MolfileFault.TheVariants.{Query, Bond}
use Rattle.molfile_read.specs.Text.{Line}
use Rattle.molfile_read.specs.Field.{columns, number_in, is_other_than_zero}
use Rattle.molfile_read.specs.Atoms.{given}
use Rattle.molfile_read.specs.Steps.{◌>>=◌}

-- the types 4 to 8 are aromatic or for queries alone
abbrev pub is_query_type : Option ℕ → Bool
is_query_type None = false
is_query_type (Some n) = nat_le 4 n && nat_le n 8

abbrev pub is_query_bond : List ℕ → Bool
is_query_bond line =
    is_query_type (number_in 999 (columns 7 9 line)) || is_other_than_zero (number_in 999 (columns 16 18 line))

abbrev pub kind_of_type : ℕ → Option SketchKind
kind_of_type n =
    if n == 1 then Some Single else
    (if n == 2 then Some Double else
    (if n == 3 then Some Triple else None))

-- one of `atoms` atoms, which are numbered from 1
abbrev pub is_atom : ℕ → ℕ → Bool
is_atom atoms n = nat_lt 0 n && nat_le n atoms

-- the bond of a line by itself, among `atoms` atoms
unfoldable pub bond_line : ℕ → Line → Result SketchBond MolfileFault
bond_line atoms l =
    (if is_query_bond l.1 then Err (Query l.0) else
    (given l.0 (number_in 999 (columns 1 3 l.1)) >>= λ first.
    given l.0 (number_in 999 (columns 4 6 l.1)) >>= λ second.
    given l.0 (option_and_then kind_of_type (number_in 999 (columns 7 9 l.1))) >>= λ kind.
    given l.0 (number_in 999 (columns 16 18 l.1)) >>= λ topology.
    (if is_atom atoms first && (is_atom atoms second && not (first == second))
    then Ok (record { a = first - 1; b = second - 1; kind = kind }) else Err (Bond l.0))))

-- a bond joins the two atoms
abbrev pub are_joined : List SketchBond → ℕ → ℕ → Bool
are_joined bonds a b = list_any (λ x. ((x.a == a) && (x.b == b)) || ((x.a == b) && (x.b == a))) bonds

-- a bond line after those of these bonds: no two bonds join the same atoms
abbrev pub bond_read : ℕ → List SketchBond → Line → Result SketchBond MolfileFault
bond_read atoms before l =
    bond_line atoms l >>= λ bond.
    (if are_joined before bond.a bond.b then Err (Bond l.0) else Ok bond)

-- these bonds and those of the lines, or the first fault
abbrev pub bonds_read : ℕ → List SketchBond → List Line → Result (List SketchBond) MolfileFault
bonds_read atoms before [] = Ok before
bonds_read atoms before (line ∷ lines) =
    bond_read atoms before line >>= λ bond.
    bonds_read atoms (before ++ bond ∷ []) lines
