-- What is printed of a number, and what is read of digits.
use Rattle.std.proofs.Common.{◌≡◌, ℕ, zero, suc, ◌^◌, ◌<◌, ◌≤◌, length, slice_index, List, sym, ◌∙◌, ap, subst, arith, decimal}
use Rattle.std.specs.Str.Parse.{AllDigits, digits_value}
use Rattle.std.proofs.lemmas.Fmt.{decimal_nonempty, decimal_digit, first_decimal, decimal-digits_value, digits_decimal, digits_value-decimal}
use Rattle.std.proofs.lemmas.Str.Parse.{IsNumeralModel, numerals_by_value, tells_digits, not_in_digits}
use Rattle.chem_text.specs.Number.{IsCanonical}

own : IsNumeralModel (AllDigits 10) (digits_value 10)
own = numerals_by_value (AllDigits 10) tells_digits

-- a zero is printed in front of no other digit
no_zero : (n : ℕ) → n < 2 ^ 64 → slice_index (decimal n) 0 ≡ 48 → length (decimal n) ≤ 1
no_zero zero h z = let e : length (decimal 0) ≡ 1 = ap length (decimal_digit 0 (omega arith)) in omega arith
no_zero (suc n) h z = let first = first_decimal (suc n) (omega arith) h in absurd (omega arith)

-- digits, as a number is printed
pub record IsPrinted (bytes : List ℕ) (n : ℕ) : Type 0 where
  pub plain : IsCanonical bytes
  pub some : 0 < length bytes
  pub digits : AllDigits 10 bytes
  pub value : digits_value 10 bytes ≡ n

printed_decimal : (n : ℕ) → n < 2 ^ 64 → IsPrinted (decimal n) n
printed_decimal n h = record {
  plain = record {
    no_plus = not_in_digits own (decimal n) 43 (digits_decimal own n h) (λ r. omega (arith, r.0)) 0
        (decimal_nonempty n h);
    no_zero = no_zero n h;
  };
  some = decimal_nonempty n h;
  digits = digits_decimal own n h;
  value = digits_value-decimal own n h;
}

pub printed : (bytes : List ℕ) (n : ℕ) → n < 2 ^ 64 → bytes ≡ decimal n → IsPrinted bytes n
printed bytes n h e = subst (λ (w : List ℕ). IsPrinted w n) (sym e) (printed_decimal n h)

-- plain digits are what is printed of their value
pub printed_value : (bytes : List ℕ) (n : ℕ) → IsCanonical bytes → (0 < length bytes) × AllDigits 10 bytes
    × (digits_value 10 bytes < 2 ^ 64) → n ≡ digits_value 10 bytes → bytes ≡ decimal n
printed_value bytes n plain (some, digits, fits) e =
    sym (decimal-digits_value own bytes digits some (λ z. let one = plain.no_zero z in omega arith) fits)
    ∙ ap decimal (sym e)
