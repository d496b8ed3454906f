-- The counts line (CTfile formats, V2000, counts line). Atoms are in columns 1 to 3, bonds in 4 to 6, atom lists in 7
-- to 9. Text blocks are in 16 to 18, the version in 34 to 39. Other columns are not read. For callers.
use Rattle.std.specs.Prelude.{ℕ, ◌==◌, ◌||◌, not, Bool, false, List, [], ◌∷◌, filter, Option, Some, None, Result, Ok, Err, codes, if◌then◌else◌}
use Rattle.std.specs.Option.{ok_or}
use Rattle.std.specs.Str.{bytes_eq}
use Rattle.molfile_read.specs.declared.fault.MolfileFault.{MolfileFault}
use Rattle.molfile_read.specs.declared.fault.MolfileFault.TheVariants.{Header, Query, Cut}
use Rattle.molfile_read.specs.declared.counts.Counts.{Counts}
use Rattle.molfile_read.specs.Text.{Line}
use Rattle.molfile_read.specs.Field.{columns, number_in}
use Rattle.molfile_read.specs.Steps.{◌>>=◌}

-- 0, and not another number or no number
abbrev pub is_zero : Option ℕ → Bool
is_zero None = false
is_zero (Some n) = n == 0

-- the version, blanks taken out, is `V2000` or nothing
abbrev pub is_version_read : List ℕ → Bool
is_version_read line =
    let version = filter (λ byte. not (byte == 32)) (columns 34 39 line) in
    bytes_eq version (codes "V2000") || bytes_eq version []

-- the counts, or why they are refused: faults of the header before those of a query
unfoldable pub counts_read : List ℕ → Result Counts MolfileFault
counts_read line =
    ok_or (number_in 999 (columns 1 3 line)) Header >>= λ atoms.
    ok_or (number_in 999 (columns 4 6 line)) Header >>= λ bonds.
    (if (atoms == 0) || (not (is_zero (number_in 999 (columns 16 18 line))) || not (is_version_read line))
    then Err Header else
    (if not (is_zero (number_in 999 (columns 7 9 line))) then Err (Query 4) else
    Ok (record { atoms = atoms; bonds = bonds })))

-- the counts line is the first of these
abbrev pub first_counts : List Line → Result Counts MolfileFault
first_counts [] = Err Cut
first_counts (line ∷ lines) = counts_read line.1
