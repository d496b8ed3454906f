-- Fields: certain columns of a line (CTfile formats, V2000). For callers.
use Rattle.std.specs.Prelude.{ℕ, ◌+◌, ◌-◌, ◌*◌, ◌==◌, ◌&&◌, not, Bool, false, nat_le, ℤ, pos, neg_ℤ, List, [], ◌∷◌, take, drop, reverse, Option, Some, None, option_map, if◌then◌else◌}
use Rattle.std.specs.Str.{all_ascii_digits}

-- columns count from 1; past its end a line is blank, and nothing is left of it
abbrev pub columns : ℕ → ℕ → List ℕ → List ℕ
columns first last line = take (last + 1 - first) (drop (first - 1) line)

-- without leading blanks; only the space is a blank
abbrev pub after_blanks : List ℕ → List ℕ
after_blanks [] = []
after_blanks (byte ∷ bytes) = if byte == 32 then after_blanks bytes else byte ∷ bytes

-- without the blanks round it
abbrev pub trimmed : List ℕ → List ℕ
trimmed bytes = reverse (after_blanks (reverse (after_blanks bytes)))

-- the value of decimal digits after those of n
abbrev pub value_after : ℕ → List ℕ → ℕ
value_after n [] = n
value_after n (digit ∷ digits) = value_after (10 * n + (digit - 48)) digits

-- the number that decimal digits spell, if it is at most `most`; `None` for other bytes, and for no bytes
abbrev pub decimal_in : ℕ → List ℕ → Option ℕ
decimal_in most [] = None
decimal_in most (byte ∷ bytes) =
    if all_ascii_digits (byte ∷ bytes) && nat_le (value_after 0 (byte ∷ bytes)) most
    then Some (value_after 0 (byte ∷ bytes)) else None

-- as `decimal_in`, but a `-` may precede the number
abbrev pub signed_in : ℕ → List ℕ → Option ℤ
signed_in most [] = None
signed_in most (byte ∷ bytes) =
    if byte == 45 then option_map (λ n. neg_ℤ (pos n)) (decimal_in most bytes)
    else option_map (λ n. pos n) (decimal_in most (byte ∷ bytes))

-- the number in a field: blanks may be round it, and a blank field is 0
abbrev pub number_of_trimmed : ℕ → List ℕ → Option ℕ
number_of_trimmed most [] = Some 0
number_of_trimmed most (byte ∷ bytes) = decimal_in most (byte ∷ bytes)

abbrev pub number_in : ℕ → List ℕ → Option ℕ
number_in most field = number_of_trimmed most (trimmed field)

abbrev pub signed_of_trimmed : ℕ → List ℕ → Option ℤ
signed_of_trimmed most [] = Some (pos 0)
signed_of_trimmed most (byte ∷ bytes) = signed_in most (byte ∷ bytes)

abbrev pub signed_number_in : ℕ → List ℕ → Option ℤ
signed_number_in most field = signed_of_trimmed most (trimmed field)

-- another number than 0
abbrev pub is_other_than_zero : Option ℕ → Bool
is_other_than_zero None = false
is_other_than_zero (Some n) = not (n == 0)
