-- Decimal numbers, digit by digit.
use Rattle.std.proofs.Common.{◌≡◌, ℕ, ◌+◌, ◌-◌, ◌*◌, ◌<◌, ◌≤◌, Bool, true, false, ◌&&◌, List, [], ◌∷◌, length, get_or, drop, Option, Some, None, refl, sym, ◌∙◌, ap, arith}
use Rattle.std.proofs.lemmas.List.{at_drop_more}
use Rattle.std.proofs.lemmas.Bool.Decides.{nat_tests}
use Rattle.std.specs.Prelude.{nat_le, if◌then◌else◌}
use Rattle.std.specs.Char.{is_ascii_digit}
use Rattle.std.specs.Str.{all_ascii_digits}
use Rattle.molfile_read.specs.Field.{value_after, decimal_in}

-- the number that digits spell behind a number, if it is at most `most`
abbrev pub decimal_after : ℕ → ℕ → List ℕ → Option ℕ
decimal_after most n digits = if all_ascii_digits digits && nat_le (value_after n digits) most then Some
    (value_after n digits) else None

pub decimal_is : (most : ℕ) (digits : List ℕ) → 0 < length digits → decimal_in most digits ≡ decimal_after most 0 digits
decimal_is most [] h = absurd (omega arith)
decimal_is most (d ∷ ds) h = refl

pub value-least : (n : ℕ) (digits : List ℕ) → n ≤ value_after n digits
value-least n [] = omega arith
value-least n (d ∷ ds) = omega (arith, value-least (10 * n + (d - 48)) ds)

no_digit_by : (b : Bool) (rest : Bool) (x : Option ℕ) → b ≡ false → (if (b && rest) then x else None) ≡ None
no_digit_by true rest x e = absurd (cc)
no_digit_by false rest x e = refl

pub one_digit : (most n d : ℕ) (ds : List ℕ) → is_ascii_digit d ≡ true → decimal_after most n (d ∷ ds)
    ≡ decimal_after most (10 * n + (d - 48)) ds
one_digit most n d ds e =
    ap (λ b. if (b && all_ascii_digits ds) && nat_le (value_after (10 * n + (d - 48)) ds) most then Some
    (value_after (10 * n + (d - 48)) ds) else None) e

no_digit_at : (b r q : Bool) (x : Option ℕ) → b ≡ false → (if ((b && r) && q) then x else None) ≡ None
no_digit_at true r q x e = absurd (cc)
no_digit_at false r q x e = refl

pub no_digit : (most n d : ℕ) (ds : List ℕ) → is_ascii_digit d ≡ false → decimal_after most n (d ∷ ds) ≡ None
no_digit most n d ds e = no_digit_at (is_ascii_digit d) (all_ascii_digits ds) (nat_le (value_after n (d ∷ ds)) most)
    (Some (value_after n (d ∷ ds))) e

too_many_at : (r q : Bool) (x : Option ℕ) → q ≡ false → (if (r && q) then x else None) ≡ None
too_many_at true q x e = ap (λ b. if b then x else None) e
too_many_at false q x e = refl

above : (n most : ℕ) → most < n → nat_le n most ≡ false
above n most h = grind (arith, nat_tests)

within : (n most : ℕ) → n ≤ most → nat_le n most ≡ true
within n most h = grind (arith, nat_tests)

pub too_large : (most n : ℕ) (ds : List ℕ) → most < n → decimal_after most n ds ≡ None
too_large most n ds h = too_many_at (all_ascii_digits ds) (nat_le (value_after n ds) most) (Some (value_after n ds))
    (above (value_after n ds) most (omega (arith, value-least n ds)))

pub no_more : (most n : ℕ) → n ≤ most → decimal_after most n [] ≡ Some n
no_more most n h = ap (λ b. if b then Some n else None) (within n most h)

-- the digits so far spell more than the most
pub exceeds : (most v i d : ℕ) (digits : List ℕ) → i < length digits → d ≡ get_or digits i 0 → is_ascii_digit d ≡ true
    → decimal_after most v (drop i digits) ≡ decimal_after most 0 digits → most < 10 * v + (d - 48)
    → None ≡ decimal_in most digits
exceeds most v i d digits lt e is so more =
    let digit : is_ascii_digit (get_or digits i 0) ≡ true = ap is_ascii_digit (sym e) ∙ is in
    let more' : most < 10 * v + (get_or digits i 0 - 48) = rw (← e) more in
    let next = at_drop_more (λ ds. decimal_after most v ds) digits i 0 lt in
    sym (decimal_is most digits (omega arith) ∙ sym so ∙ next
    ∙ one_digit most v (get_or digits i 0) (drop (i + 1) digits) digit
    ∙ too_large most (10 * v + (get_or digits i 0 - 48)) (drop (i + 1) digits) more')
