-- Runs of signs, and a sign with a number.
use Rattle.std.proofs.Common.{◌≡◌, ◌≢◌, ℕ, zero, suc, ◌≤◌, List, [], ◌∷◌, ◌++◌, length, replicate, Option, None, Some, ◌⊎◌, inl, inr, refl, sym, ◌∙◌, ap, subst, arith}
use Rattle.std.specs.List.{AllByRecursion}
use Rattle.smiles_words.specs.Atom.{IsDigit, value_of, Sign, plus, minus, sign_byte, signed}
use Rattle.smarts_words.specs.Prims.{IsNumber, NoDigit, number_of, Signs, run, amount, signs_text, AreSigns, FollowsSigns, sign_of, charge_of, most_signs}
use Rattle.smarts_words.specs.Follow.{Takes}
use Rattle.smarts_words.proofs.Numbers.{same_digits, same_run}

digit_or_sign : (s : Sign) (d : ℕ) → IsDigit d → d ≡ sign_byte s → ⊥
digit_or_sign plus d is e = let low = is.0 in omega arith
digit_or_sign minus d is e = let low = is.0 in omega arith

pub digits_no_sign : (s : Sign) (ds rest more : List ℕ) → IsNumber ds → ds ++ rest ≡ sign_byte s ∷ more → ⊥
digits_no_sign s [] rest more is h = absurd (let l = is.0 in omega arith)
digits_no_sign s (d ∷ ds) rest more is h = let e : d ≡ sign_byte s = cc in digit_or_sign s d is.2.0 e

-- What charge stands where a run of signs is followed by these bytes
pub data ChargeAt (count : ℕ) (after rest : List ℕ) (x : Signs) : Type 0 where
  at_run : (s : Sign) → x ≡ run s count → 1 ≤ count → count ≤ most_signs → after ≡ rest → NoDigit after
      → ChargeAt count after rest x
  at_number : (s : Sign) (digits : List ℕ) → x ≡ amount s digits → count ≡ 1 → IsNumber digits → after ≡ digits ++ rest
      → NoDigit rest → ChargeAt count after rest x

no_sign : (a b : ℕ) (r : List ℕ) → a ≡ b → ((more : List ℕ) → r ≢ a ∷ more) → (more : List ℕ) → r ≢ b ∷ more
no_sign a b r e h more k = h more (k ∙ ap (λ v. v ∷ more) (sym e))

pub charge_is_at : (x : Signs) (sign count : ℕ) (bytes after rest : List ℕ) → AreSigns x → FollowsSigns x rest
    → sign_of x ≡ sign → bytes ≡ signs_text x ++ rest → bytes ≡ replicate count sign ++ after
    → ((more : List ℕ) → after ≢ sign ∷ more) → ChargeAt count after rest x
charge_is_at (run s n) sign count bytes after rest is follows e h split all =
    let b = sign_byte s in
    let spelled : replicate n b ++ rest ≡ replicate count b ++ after = sym h ∙ split
    ∙ ap (λ v. replicate count v ++ after) (sym e) in
    let p = same_run n count b rest after follows.0 (no_sign sign b after (sym e) all) spelled in
    let low = is.0 in
    let high = is.1 in
    let same = p.0 in
    at_run s (ap (λ v. run s v) p.0) (omega arith) (omega arith) (sym p.1) (subst NoDigit p.1 follows.1)
charge_is_at (amount s ds) sign count bytes after rest is follows e h split all =
    let b = sign_byte s in
    let spelled : replicate 1 b ++ (ds ++ rest) ≡ replicate count b ++ after = sym h ∙ split
    ∙ ap (λ v. replicate count v ++ after) (sym e) in
    let p = same_run 1 count b (ds ++ rest) after (λ more k. digits_no_sign s ds rest more is k)
    (no_sign sign b after (sym e) all) spelled in
    at_number s ds refl (sym p.0) is (sym p.1) follows

-- what is read of the bytes after the signs
abbrev pub NumberRead : List ℕ → Option (Option ℕ × List ℕ) → Type 0
NumberRead after result = Takes (λ (digits : List ℕ). digits) (λ digits. (length digits ≤ 3)
    × AllByRecursion IsDigit digits) (λ digits rest. NoDigit rest) number_of after result

pub never_read : (count : ℕ) (after rest : List ℕ) (x : Signs) → ChargeAt count after rest x → NumberRead after None → ⊥
never_read count after rest x (at_run s e l m k n) reads = reads.only [] after (omega arith, tt) n refl
never_read count after rest x (at_number s ds e one is k n) reads = reads.only ds rest (is.1, is.2) n k

-- no number is read, so a run stands there
pub run_read : (count : ℕ) (after rest left : List ℕ) (x : Signs) → ChargeAt count after rest x
    → NumberRead after (Some (None, left)) → (count ≤ most_signs) × (left ≡ rest)
run_read count after rest left x (at_run s e l m k n) reads = (m, reads.only [] after (omega arith, tt) n refl ∙ k)
run_read count after rest left x (at_number s ds e one is k n) reads =
    absurd (some_left ds is (reads.found.4
    ∙ ap number_of (same_digits reads.found.0 ds left rest reads.found.1.1 is.2 reads.found.3 n (sym reads.found.2
    ∙ k)).0))
  where
    some_left : (ds : List ℕ) → IsNumber ds → ◌≡◌ {A = Option ℕ} None (number_of ds) → ⊥
    some_left [] is e = let l = is.0 in absurd (omega arith)
    some_left (d ∷ ds) is e = absurd (cc)

-- a number is read, so it stands after one sign
pub number_read : (count n : ℕ) (after rest left : List ℕ) (x : Signs) → ChargeAt count after rest x
    → NumberRead after (Some (Some n, left)) → (count ≡ 1) × (left ≡ rest)
number_read count n after rest left x (at_run s e l m k nd) reads =
    absurd (none_left (reads.found.4
    ∙ ap number_of (same_digits reads.found.0 [] left after reads.found.1.1 tt reads.found.3 nd (sym reads.found.2)).0))
  where
    none_left : ◌≡◌ {A = Option ℕ} (Some n) None → ⊥
    none_left e = absurd (cc)
number_read count n after rest left x (at_number s ds e one is k nd) reads = (one, reads.only ds rest (is.1, is.2) nd k)

-- a run that is read
pub run_found : (s : Sign) (sign count : ℕ) (bytes after left first : List ℕ) → sign_byte s ≡ sign
    → bytes ≡ sign ∷ first → bytes ≡ replicate count sign ++ after → ((more : List ℕ) → after ≢ sign ∷ more)
    → NumberRead after (Some (None, left)) → count ≤ most_signs → (x : Signs) × AreSigns x
    × (bytes ≡ signs_text x ++ left) × FollowsSigns x left × (signed s count ≡ charge_of x)
run_found s sign zero bytes after left first es h split all reads few = absurd (all first (sym split ∙ h))
run_found s sign (suc n) bytes after left first es h split all reads few =
    let none = no_digits reads.found.0 reads.found.4 in
    let same : after ≡ left = reads.found.2 ∙ ap (λ v. v ++ left) none in (
      run s (suc n),
      (omega arith, few),
      split ∙ ap (λ v. replicate (suc n) v ++ after) (sym es) ∙ ap (λ v. replicate (suc n) (sign_byte s) ++ v) same,
      (
        no_sign sign (sign_byte s) left (sym es) (subst (λ (v : List ℕ). (more : List ℕ) → v ≢ sign ∷ more) same all),
        reads.found.3,
      ),
      refl,
    )
  where
    no_digits : (ds : List ℕ) → ◌≡◌ {A = Option ℕ} None (number_of ds) → ds ≡ []
    no_digits [] e = refl
    no_digits (d ∷ ds) e = absurd (cc)

-- a number that is read
pub number_found : (s : Sign) (sign n : ℕ) (bytes after left : List ℕ) → sign_byte s ≡ sign → bytes ≡ replicate 1 sign
    ++ after → NumberRead after (Some (Some n, left))
    → (x : Signs) × AreSigns x × (bytes ≡ signs_text x ++ left) × FollowsSigns x left × (signed s n ≡ charge_of x)
number_found s sign n bytes after left es split reads =
    let f = reads.found in
    let some = has_digits f.0 f.4 in (
      amount s f.0,
      (some.0, f.1.0, f.1.1),
      split ∙ ap (λ v. v ∷ after) (sym es) ∙ ap (λ (v : List ℕ). sign_byte s ∷ v) f.2,
      f.3,
      ap (λ v. signed s v) some.1,
    )
  where
    has_digits : (ds : List ℕ) → ◌≡◌ {A = Option ℕ} (Some n) (number_of ds) → (1 ≤ length ds) × (n ≡ value_of ds)
    has_digits [] e = absurd (cc)
    has_digits (d ∷ ds) e = (omega arith, cc)

-- a charge begins with its sign
pub first_sign : (x : Signs) (rest more : List ℕ) (b : ℕ) → AreSigns x → signs_text x ++ rest ≡ b ∷ more → sign_of x ≡ b
first_sign (run s zero) rest more b is h = absurd (let low = is.0 in omega arith)
first_sign (run s (suc n)) rest more b is h = cc
first_sign (amount s ds) rest more b is h = cc

pub sign_is : (x : Signs) → (sign_of x ≡ 43) ⊎ (sign_of x ≡ 45)
sign_is (run plus n) = inl refl
sign_is (run minus n) = inr refl
sign_is (amount plus ds) = inl refl
sign_is (amount minus ds) = inr refl
