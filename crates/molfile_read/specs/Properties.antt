-- Property lines (CTfile formats, V2000, properties block). For callers.
use Rattle.std.specs.Prelude.{ℕ, zero, suc, ◌-◌, ◌==◌, ◌||◌, nat_eq, nat_lt, Bool, true, false, List, [], ◌∷◌, ◌++◌, length, drop, filter, Option, is_some, Some, None, option_map, option_and_then, Result, Ok, Err, ℤ, codes, if◌then◌else◌}
use Rattle.std.specs.List.{starts_with, list_any, filter_map}
use Rattle.molfile_read.specs.declared.fault.MolfileFault.{MolfileFault}
use Rattle.molfile_read.specs.declared.fault.MolfileFault.TheVariants.{Columns, Query}
use Rattle.molfile_read.specs.declared.setting.Tag.{Tag}
use Rattle.molfile_read.specs.declared.setting.Tag.TheVariants as tags
use Rattle.molfile_read.specs.declared.setting.Value.{Value}
use Rattle.molfile_read.specs.declared.setting.Value.TheVariants.{Charge, Radical, Isotope}
use Rattle.molfile_read.specs.declared.setting.Setting.{Setting}
use Rattle.molfile_read.specs.Text.{Line, with_byte}
use Rattle.molfile_read.specs.Field.{decimal_in, signed_in}
use Rattle.molfile_read.specs.Bonds.{is_atom}
use Rattle.molfile_read.specs.Atoms.{given}
use Rattle.molfile_read.specs.Steps.{◌>>=◌}

abbrev pub begins : List ℕ → List ℕ → Bool
begins line text = starts_with nat_eq line text

-- the pieces between blanks, also empty ones
abbrev pub pieces : List ℕ → List (List ℕ)
pieces [] = [] ∷ []
pieces (byte ∷ bytes) = if byte == 32 then [] ∷ pieces bytes else with_byte byte (pieces bytes)

-- the words: the pieces between blanks that are not empty
abbrev pub words : List ℕ → List (List ℕ)
words bytes = filter (λ word. nat_lt 0 (length word)) (pieces bytes)

-- the electrons of a radical: 1 and 3, a singlet and a triplet, have two; 2, a doublet, has one
abbrev pub electrons_of : ℕ → ℕ
electrons_of n = if n == 2 then 1 else (if n == 0 then 0 else 2)

-- the values that a line may give: a charge of -15 to 15, a radical of 0 to 3, an isotope of 0 to 999
abbrev pub value_in : Tag → List ℕ → Option Value
value_in tags.Charge word = option_map (λ n. Charge n) (signed_in 15 word)
value_in tags.Radical word = option_map (λ n. Radical (electrons_of n)) (decimal_in 3 word)
value_in tags.Isotope word = option_map (λ n. Isotope n) (decimal_in 999 word)

-- one of `atoms` atoms, as its place from 0
abbrev pub place_of : ℕ → ℕ → Option ℕ
place_of atoms n = if is_atom atoms n then Some (n - 1) else None

abbrev pub place_in : ℕ → List ℕ → Option ℕ
place_in atoms word = option_and_then (place_of atoms) (decimal_in 999 word)

abbrev pub setting_in : Tag → ℕ → List ℕ → List ℕ → Option Setting
setting_in tag atoms atom value =
    option_and_then (λ a. option_map (λ v. record { atom = a; value = v }) (value_in tag value)) (place_in atoms atom)

-- the setting that the first two words spell, and the words after them
abbrev pub setting_at : Tag → ℕ → List (List ℕ) → Option (Setting × List (List ℕ))
setting_at tag atoms [] = None
setting_at tag atoms (atom ∷ []) = None
setting_at tag atoms (atom ∷ value ∷ ws) = option_map (λ s. (s, ws)) (setting_in tag atoms atom value)

abbrev pub nothing_in : List (List ℕ) → Option (List Setting)
nothing_in [] = Some []
nothing_in (word ∷ ws) = None

-- a number of pairs of an atom and a value, and nothing else
abbrev pub pairs_in : Tag → ℕ → ℕ → List (List ℕ) → Option (List Setting)
pairs_in tag atoms zero ws = nothing_in ws
pairs_in tag atoms (suc n) ws =
    option_and_then (λ p. option_map (λ others. p.0 ∷ others) (pairs_in tag atoms n p.1)) (setting_at tag atoms ws)

abbrev pub not_zero : ℕ → Option ℕ
not_zero n = if n == 0 then None else Some n

-- a count of 1 to 8, and the words after it
abbrev pub count_at : List (List ℕ) → Option (ℕ × List (List ℕ))
count_at [] = None
count_at (count ∷ ws) = option_map (λ n. (n, ws)) (option_and_then not_zero (decimal_in 8 count))

-- a count, and that number of pairs
abbrev pub counted_pairs : Tag → ℕ → List (List ℕ) → Option (List Setting)
counted_pairs tag atoms ws = option_and_then (λ c. pairs_in tag atoms c.0 c.1) (count_at ws)

abbrev pub tag_of : List ℕ → Option Tag
tag_of line =
    if begins line (codes "M  CHG") then Some tags.Charge else
    (if begins line (codes "M  RAD") then Some tags.Radical else
    (if begins line (codes "M  ISO") then Some tags.Isotope else None))

-- atom lists, ring bond counts, substitution counts, unsaturation, links, R groups and their logic
abbrev pub is_query_line : List ℕ → Bool
is_query_line line =
    list_any (λ tag. begins line tag)
    (codes "M  ALS" ∷ codes "M  RBC" ∷ codes "M  SUB" ∷ codes "M  UNS" ∷ codes "M  LIN" ∷ codes "M  RGP"
    ∷ codes "M  LOG" ∷ [])

-- an alias or a group's text passes over the line after it
abbrev pub passes_next : List ℕ → Bool
passes_next line = begins line (codes "A  ") || begins line (codes "G  ")

abbrev pub is_passed_over : List ℕ → Bool
is_passed_over line = begins line (codes "M  ") || (begins line (codes "V  ") || passes_next line)

-- the settings of a line without such a tag: it has no settings, unless it is refused
abbrev pub untagged : Line → Result (List Setting) MolfileFault
untagged l = if is_query_line l.1 then Err (Query l.0) else (if is_passed_over l.1 then Ok [] else Err (Columns l.0))

-- the settings of a property line, among `atoms` atoms
abbrev pub tagged : ℕ → Line → Option Tag → Result (List Setting) MolfileFault
tagged atoms l None = untagged l
tagged atoms l (Some tag) = given l.0 (counted_pairs tag atoms (words (drop 6 l.1)))

abbrev pub property_read : ℕ → Line → Result (List Setting) MolfileFault
property_read atoms l = tagged atoms l (tag_of l.1)

-- the end, `M  END`
abbrev pub is_end : List ℕ → Bool
is_end line = begins line (codes "M  END")

-- The lines up to the end, without those that another passes over. The first is passed over if the flag says so.
abbrev pub property_lines : Bool → List Line → List Line
property_lines passed [] = []
property_lines true (line ∷ lines) = property_lines false lines
property_lines false (line ∷ lines) = if is_end line.1 then [] else line ∷ property_lines (passes_next line.1) lines

-- true if the end is there
abbrev pub is_ended : Bool → List Line → Bool
is_ended passed [] = false
is_ended true (line ∷ lines) = is_ended false lines
is_ended false (line ∷ lines) = if is_end line.1 then true else is_ended (passes_next line.1) lines

-- the settings of all lines, in order, or the first fault
abbrev pub settings_read : ℕ → List Line → Result (List Setting) MolfileFault
settings_read atoms [] = Ok []
settings_read atoms (line ∷ lines) =
    property_read atoms line >>= λ first.
    settings_read atoms lines >>= λ others.
    Ok (first ++ others)

abbrev pub charge_of : Value → Option ℤ
charge_of (Charge n) = Some n
charge_of value = None

abbrev pub radical_of : Value → Option ℕ
radical_of (Radical n) = Some n
radical_of value = None

abbrev pub isotope_of : Value → Option ℕ
isotope_of (Isotope n) = Some n
isotope_of value = None

-- the value that a setting has for an atom, seen by one of these
abbrev pub set_for : {A : Type 0} → (Value → Option A) → ℕ → Setting → Option A
set_for part atom s = if s.atom == atom then part s.value else None

-- the last of a list, or else the value before
abbrev pub last_or : {A : Type 0} → Option A → List A → Option A
last_or before [] = before
last_or before (x ∷ xs) = last_or (Some x) xs

-- the last setting for the atom counts
abbrev pub last_set : {A : Type 0} → (Value → Option A) → ℕ → List Setting → Option A
last_set part atom settings = last_or None (filter_map (set_for part atom) settings)

-- a line sets charges or radicals
abbrev pub sets_charges : List Setting → Bool
sets_charges settings = list_any (λ s. is_some (charge_of s.value) || is_some (radical_of s.value)) settings

-- a line sets isotopes
abbrev pub sets_isotopes : List Setting → Bool
sets_isotopes settings = list_any (λ s. is_some (isotope_of s.value)) settings
