-- The pieces of a bracket: each is read back from its text by what may follow it.
use Rattle.std.proofs.Common.{◌≡◌, ℕ, zero, suc, ◌+◌, ◌<◌, ◌≤◌, inl, inr, cond, ◌==◌, List, [], ◌∷◌, ◌++◌, length, replicate, Option, Some, None, unwrap_or, codes, refl, sym, ◌∙◌, ap, subst, arith, append_assoc}
use Rattle.std.specs.List.{AllByRecursion}
use Rattle.std.specs.Fmt.{decimal}
use Rattle.std.proofs.lemmas.Fmt.{decimal_injective}
use Rattle.smiles_words.specs.Atom.{IsDigit, ChiralClass, th, al, sp, tb, oh, class_bytes, most_of, Chiral, none, one, two, numbered, chiral_text, IsChiral, Hydrogens, unwritten, single, counted, hydrogens_text, hydrogen_count, Sign, plus, minus, sign_byte, Charge, neutral, run, amount, signed, charge_text, charge_value, value_of, IsCharge, class_text, IsClass, Lower, lower_b, lower_c, lower_n, lower_o, lower_p, lower_s, lower_se, lower_as, lower_number, Symbol, element, lower, symbol_number, AreHydrogens}
use Rattle.smiles_words.specs.Parts.{written_hydrogens}
use Rattle.smiles_words.specs.Follow.{NoDigitFirst, AfterClass, AfterCharge, AfterHydrogens, AfterChiral, AfterSymbol}
use Rattle.smiles_words.proofs.Bytes.{goes_within, goes_no_digit}
use Rattle.smiles_words.proofs.Digits.{same_digits, no_digit, decimal_digits}

-- what may follow each piece begins with no digit
pub class_no_digit : (r : List ℕ) → AfterClass r → NoDigitFirst r
class_no_digit r h = goes_no_digit (codes "]") r refl h

pub charge_no_digit : (r : List ℕ) → AfterCharge r → NoDigitFirst r
charge_no_digit r h = goes_no_digit (codes ":]") r refl h

pub hydrogens_no_digit : (r : List ℕ) → AfterHydrogens r → NoDigitFirst r
hydrogens_no_digit r h = goes_no_digit (codes "+-:]") r refl h

pub chiral_no_digit : (r : List ℕ) → AfterChiral r → NoDigitFirst r
chiral_no_digit r h = goes_no_digit (codes "H+-:]") r refl h

-- each piece, and what may follow it
pub class_then : (x : Option (List ℕ)) (r : List ℕ) → AfterClass r → AfterCharge (class_text x ++ r)
class_then None r h = goes_within (codes "]") (codes ":]") r refl h
class_then (Some ds) r h = inl refl

pub charge_then : (x : Charge) (r : List ℕ) → IsCharge x → AfterCharge r → AfterHydrogens (charge_text x ++ r)
charge_then neutral r is h = goes_within (codes ":]") (codes "+-:]") r refl h
charge_then (run s zero) r is h = absurd (omega arith)
charge_then (run plus (suc n)) r is h = inl refl
charge_then (run minus (suc n)) r is h = inr (inl refl)
charge_then (amount plus ds) r is h = inl refl
charge_then (amount minus ds) r is h = inr (inl refl)

pub hydrogens_then : (x : Hydrogens) (r : List ℕ) → AfterHydrogens r → AfterChiral (hydrogens_text x ++ r)
hydrogens_then unwritten r h = goes_within (codes "+-:]") (codes "H+-:]") r refl h
hydrogens_then single r h = inl refl
hydrogens_then (counted n) r h = inl refl

chiral_after : (r : List ℕ) → AfterChiral r → AfterSymbol r
chiral_after r h = goes_within (codes "H+-:]") (codes "@H+-:]") r refl h

pub chiral_then : (x : Chiral) (r : List ℕ) → AfterChiral r → AfterSymbol (chiral_text x ++ r)
chiral_then none r h = chiral_after r h
chiral_then one r h = inl refl
chiral_then two r h = inl refl
chiral_then (numbered k n) r h = inl refl

-- classes
after_class_none : (rest after : List ℕ) → AfterClass rest → 58 ∷ after ≡ rest → ⊥
after_class_none rest after h e = let g : AfterClass (58 ∷ after) = subst AfterClass (sym e) h in omega arith

pub class_only : (x : Option (List ℕ)) (rest bytes after ds r : List ℕ) → IsClass x → AfterClass rest
    → bytes ≡ class_text x ++ rest
    → bytes ≡ 58 ∷ after → after ≡ ds ++ r → AllByRecursion IsDigit ds → NoDigitFirst r → r ≡ rest
class_only None rest bytes after ds r is follows h front split digits all =
    absurd (after_class_none rest after follows (sym front ∙ h))
class_only (Some es) rest bytes after ds r is follows h front split digits all =
    let k : 58 ∷ after ≡ 58 ∷ (es ++ rest) = sym front ∙ h in
    let e : ds ++ r ≡ es ++ rest = cc in
    (same_digits ds es r rest digits is.1 all (class_no_digit rest follows) e).1

pub same_class : (x y : Option (List ℕ)) (a b : List ℕ) → IsClass x → IsClass y → AfterClass a → AfterClass b
    → class_text x ++ a ≡ class_text y ++ b → (x ≡ y) × (a ≡ b)
same_class None None a b ix iy fa fb h = (refl, h)
same_class None (Some es) a b ix iy fa fb h = absurd (after_class_none a (es ++ b) fa (sym h))
same_class (Some ds) None a b ix iy fa fb h = absurd (after_class_none b (ds ++ a) fb h)
same_class (Some ds) (Some es) a b ix iy fa fb h =
    let k : 58 ∷ (ds ++ a) ≡ 58 ∷ (es ++ b) = h in
    let s = same_digits ds es a b ix.1 iy.1 (class_no_digit a fa) (class_no_digit b fb) (cc) in
    (ap (λ w. Some w) s.0, s.1)

-- chirality
abbrev kind_from : List ℕ → ChiralClass
kind_from (a ∷ b ∷ r) = cond (a == 84) (cond (b == 72) th tb) (cond (a == 65) al (cond (a == 83) sp oh))
kind_from (a ∷ []) = th
kind_from [] = th

abbrev after_two : List ℕ → List ℕ
after_two (a ∷ b ∷ r) = r
after_two (a ∷ []) = []
after_two [] = []

kind_is : (k : ChiralClass) (r : List ℕ) → kind_from (class_bytes k ++ r) ≡ k
kind_is th r = refl
kind_is al r = refl
kind_is sp r = refl
kind_is tb r = refl
kind_is oh r = refl

rest_is : (k : ChiralClass) (r : List ℕ) → after_two (class_bytes k ++ r) ≡ r
rest_is th r = refl
rest_is al r = refl
rest_is sp r = refl
rest_is tb r = refl
rest_is oh r = refl

same_kind : (k l : ChiralClass) (a b : List ℕ) → class_bytes k ++ a ≡ class_bytes l ++ b → (k ≡ l) × (a ≡ b)
same_kind k l a b h = (
  sym (kind_is k a) ∙ ap kind_from h ∙ kind_is l b,
  sym (rest_is k a) ∙ ap after_two h
      ∙ rest_is l b,
)

-- a class begins with none of the bytes that may follow a mark, and not with `@`
kind_first : (k : ChiralClass) (r : List ℕ) → AfterSymbol (class_bytes k ++ r) → ⊥
kind_first th r h = grind arith
kind_first al r h = grind arith
kind_first sp r h = grind arith
kind_first tb r h = grind arith
kind_first oh r h = grind arith

no_mark : (rest after : List ℕ) → AfterChiral rest → 64 ∷ after ≡ rest → ⊥
no_mark rest after h e = let g : AfterChiral (64 ∷ after) = subst AfterChiral (sym e) h in grind arith

pub numbered_text : (k : ChiralClass) (n : ℕ) (r : List ℕ) → chiral_text (numbered k n) ++ r ≡ 64
    ∷ (class_bytes k ++ (decimal n ++ r))
numbered_text k n r = ap (λ w. 64 ∷ w) (append_assoc (class_bytes k) (decimal n) r)

no_kind_after : (k : ChiralClass) (r rest : List ℕ) → AfterChiral rest → rest ≡ class_bytes k ++ r → ⊥
no_kind_after k r rest h e = kind_first k r (chiral_after _ (subst AfterChiral e h))

no_kind_at : (k : ChiralClass) (r rest : List ℕ) → 64 ∷ rest ≡ class_bytes k ++ r → ⊥
no_kind_at k r rest e = kind_first k r (subst AfterSymbol e (inl refl))

-- after `@` and a class stands a number
pub chiral_only : (x : Chiral) (rest bytes m : List ℕ) (k : ChiralClass) → IsChiral x → AfterChiral rest
    → bytes ≡ chiral_text x ++ rest → bytes ≡ 64 ∷ (class_bytes k ++ m)
    → (n : ℕ) × (1 ≤ n) × (n ≤ most_of k) × (m ≡ decimal n ++ rest)
chiral_only none rest bytes m k is follows h front = absurd (no_mark rest _ follows (sym front ∙ h))
chiral_only one rest bytes m k is follows h front =
    let e : 64 ∷ (class_bytes k ++ m) ≡ 64 ∷ rest = sym front ∙ h in
    absurd (no_kind_after k m rest follows (cc))
chiral_only two rest bytes m k is follows h front =
    let e : 64 ∷ (class_bytes k ++ m) ≡ 64 ∷ 64 ∷ rest = sym front ∙ h in
    absurd (no_kind_at k m rest (cc))
chiral_only (numbered l n) rest bytes m k is follows h front =
    let e : 64 ∷ (class_bytes k ++ m) ≡ 64 ∷ (class_bytes l ++ (decimal n ++ rest)) = sym front ∙ h
    ∙ numbered_text l n rest in
    let s = same_kind k l m (decimal n ++ rest) (cc) in
    let P : ChiralClass → Type 0 = λ w. n ≤ most_of w in
    (n, is.0, subst P (sym s.0) is.1, s.1)

-- charges: after the first sign stand more of them, or digits
data Split (s : Sign) (x : Charge) (rest b : List ℕ) : Type 0 where
  more : (m : ℕ) → m ≤ 14 → x ≡ run s (suc m) → b ≡ replicate m (sign_byte s) ++ rest → Split s x rest b
  digits : (ds : List ℕ) → IsCharge (amount s ds) → x ≡ amount s ds → b ≡ ds ++ rest → Split s x rest b

no_sign : (s : Sign) (xs rest : List ℕ) → AfterCharge rest → rest ≡ sign_byte s ∷ xs → ⊥
no_sign plus xs rest h e = let g : AfterCharge (43 ∷ xs) = subst AfterCharge e h in grind arith
no_sign minus xs rest h e = let g : AfterCharge (45 ∷ xs) = subst AfterCharge e h in grind arith

first_same : (x y : ℕ) (b c : List ℕ) → x ∷ b ≡ y ∷ c → x ≡ y
first_same x y b c h = cc

split_run : (s t : Sign) (n : ℕ) (rest b : List ℕ) → IsCharge (run t n) → sign_byte s ∷ b ≡ replicate n (sign_byte t)
    ++ rest → Split s (run t n) rest b
split_run s t zero rest b is h = absurd (omega arith)
split_run plus plus (suc n) rest b is h = more n (omega arith) refl (cc)
split_run plus minus (suc n) rest b is h = absurd (omega (arith, first_same 43 45 b (replicate n 45 ++ rest) h))
split_run minus plus (suc n) rest b is h = absurd (omega (arith, first_same 45 43 b (replicate n 43 ++ rest) h))
split_run minus minus (suc n) rest b is h = more n (omega arith) refl (cc)

split_digits : (s t : Sign) (ds rest b : List ℕ) → IsCharge (amount t ds) → sign_byte s ∷ b ≡ sign_byte t ∷ (ds ++ rest)
    → Split s (amount t ds) rest b
split_digits plus plus ds rest b is h = digits ds is refl (cc)
split_digits plus minus ds rest b is h = absurd (omega (arith, first_same 43 45 b (ds ++ rest) h))
split_digits minus plus ds rest b is h = absurd (omega (arith, first_same 45 43 b (ds ++ rest) h))
split_digits minus minus ds rest b is h = digits ds is refl (cc)

split : (s : Sign) (x : Charge) (rest b : List ℕ) → IsCharge x → AfterCharge rest → sign_byte s ∷ b ≡ charge_text x
    ++ rest → Split s x rest b
split s neutral rest b is after h = absurd (no_sign s b rest after (sym h))
split s (run t n) rest b is after h = split_run s t n rest b is h
split s (amount t ds) rest b is after h = split_digits s t ds rest b is h

-- two runs of one sign, both of which end, or the second is the longest that is looked at
same_run : (s : Sign) (t m k : ℕ) (rest r : List ℕ) → m < t → k ≤ t → AfterCharge rest
    → (k < t → (xs : List ℕ) → r ≡ sign_byte s ∷ xs → ⊥)
    → replicate m (sign_byte s) ++ rest ≡ replicate k (sign_byte s) ++ r → (m ≡ k) × (r ≡ rest)
same_run s zero m k rest r lm lk after stops h = absurd (omega arith)
same_run s (suc t) zero zero rest r lm lk after stops h = (refl, sym h)
same_run s (suc t) zero (suc k) rest r lm lk after stops h = absurd (no_sign s _ rest after h)
same_run s (suc t) (suc m) zero rest r lm lk after stops h = absurd (stops (omega arith) _ (sym h))
same_run s (suc t) (suc m) (suc k) rest r lm lk after stops h =
    let e : sign_byte s ∷ (replicate m (sign_byte s) ++ rest) ≡ sign_byte s ∷ (replicate k (sign_byte s) ++ r) = h in
    let p = same_run s t m k rest r (omega arith) (omega arith) after (λ l. stops (omega arith)) (cc) in
    (ap (λ n. suc n) p.0, p.1)

digit_not_sign : (s : Sign) → NoDigitFirst (sign_byte s ∷ [])
digit_not_sign plus = inl (omega arith)
digit_not_sign minus = inl (omega arith)

run_no_digit : (s : Sign) (m : ℕ) (rest : List ℕ) → AfterCharge rest → NoDigitFirst (replicate m (sign_byte s) ++ rest)
run_no_digit s zero rest after = charge_no_digit rest after
run_no_digit s (suc m) rest after = digit_not_sign s

-- digits in front, and none
some_digit : (ds rest b : List ℕ) → 1 ≤ length ds → AllByRecursion IsDigit ds → b ≡ ds ++ rest → NoDigitFirst b → ⊥
some_digit [] rest b some h e f = omega arith
some_digit (d ∷ ds) rest b some h e f = no_digit d (ds ++ rest) b h.0 f e

empty_by : (s : Sign) (x : Charge) (rest b r : List ℕ) (k : ℕ) → AfterCharge rest → NoDigitFirst b
    → b ≡ replicate k (sign_byte s) ++ r → k ≤ 15
    → (k < 15 → (xs : List ℕ) → r ≡ sign_byte s ∷ xs → ⊥) → Split s x rest b → (k ≤ 14) × (r ≡ rest)
    × (signed s (suc k) ≡ charge_value x)
empty_by s x rest b r k after free found le stops (more m lm v e) =
    let p = same_run s 15 m k rest r (omega arith) le after stops (sym e ∙ found) in
    let q = p.0 in
    (omega arith, p.1, ap (λ n. signed s (suc n)) (sym q) ∙ ap charge_value (sym v))
empty_by s x rest b r k after free found le stops (digits ds is v e) = absurd (some_digit ds rest b is.0 is.2 e free)

sign_swapped : (s : Sign) (g : ℕ) (b ys : List ℕ) → sign_byte s ≡ g → g ∷ b ≡ ys → sign_byte s ∷ b ≡ ys
sign_swapped s g b ys es h = ap (λ w. w ∷ b) es ∙ h

no_digits : (d r b : List ℕ) → length d ≡ 0 → b ≡ d ++ r → NoDigitFirst r → NoDigitFirst b
no_digits [] r b l e f = subst NoDigitFirst (sym e) f
no_digits (x ∷ d) r b l e f = absurd (omega arith)

pub amount_empty : (s : Sign) (g : ℕ) (x : Charge) (rest b r d dr : List ℕ) (k : ℕ) → sign_byte s ≡ g → IsCharge x
    → AfterCharge rest → g ∷ b ≡ charge_text x ++ rest
    → length d ≡ 0 → b ≡ d ++ dr → NoDigitFirst dr → b ≡ replicate k g ++ r → k ≤ 15
    → (k < 15 → (xs : List ℕ) → r ≡ g ∷ xs → ⊥)
    → (k ≤ 14) × (r ≡ rest) × (signed s (suc k) ≡ charge_value x)
amount_empty s g x rest b r d dr k es is after h l front all found le stops =
    empty_by s x rest b r k after (no_digits d dr b l front all) (found ∙ ap (λ w. replicate k w ++ r) (sym es)) le
    (λ lt xs e. stops lt xs (e ∙ ap (λ w. w ∷ xs) es)) (split s x rest b is after (sign_swapped s g b _ es h))

digits_by : (s : Sign) (x : Charge) (rest b d r : List ℕ) → AfterCharge rest → b ≡ d ++ r → 1 ≤ length d
    → AllByRecursion IsDigit d → NoDigitFirst r
    → Split s x rest b → IsCharge (amount s d) × (r ≡ rest) × (signed s (value_of d) ≡ charge_value x)
digits_by s x rest b d r after found some are all (more m lm v e) =
    absurd (some_digit d r b some are found (subst NoDigitFirst (sym e) (run_no_digit s m rest after)))
digits_by s x rest b d r after found some are all (digits ds is v e) =
    let p = same_digits d ds r rest are is.2 all (charge_no_digit rest after) (sym found ∙ e) in
    let P : List ℕ → Type 0 = λ w. IsCharge (amount s w) in
    (subst P (sym p.0) is, p.1, ap (λ w. signed s (value_of w)) p.0 ∙ ap charge_value (sym v))

pub amount_digits : (s : Sign) (g : ℕ) (x : Charge) (rest b d r : List ℕ) → sign_byte s ≡ g → IsCharge x
    → AfterCharge rest → g ∷ b ≡ charge_text x ++ rest
    → b ≡ d ++ r → 1 ≤ length d → AllByRecursion IsDigit d → NoDigitFirst r → IsCharge (amount s d) × (r ≡ rest)
    × (signed s (value_of d) ≡ charge_value x)
amount_digits s g x rest b d r es is after h found some are all =
    digits_by s x rest b d r after found some are all (split s x rest b is after (sign_swapped s g b _ es h))

pub run_found : (s : Sign) (g k : ℕ) (b r : List ℕ) → sign_byte s ≡ g → b ≡ replicate k g ++ r
    → g ∷ b ≡ charge_text (run s (k + 1)) ++ r
run_found s g k b r es e =
    ap (λ w. g ∷ w) e ∙ ap (λ w. w ∷ (replicate k w ++ r)) (sym es) ∙ ap (λ n. replicate n (sign_byte s) ++ r)
    (let p : suc k ≡ k + 1 = omega arith in p)

-- hydrogen itself is the one symbol of number 1
lower_not_one : (l : Lower) → lower_number l ≡ 1 → ⊥
lower_not_one lower_b h = omega arith
lower_not_one lower_c h = omega arith
lower_not_one lower_n h = omega arith
lower_not_one lower_o h = omega arith
lower_not_one lower_p h = omega arith
lower_not_one lower_s h = omega arith
lower_not_one lower_se h = omega arith
lower_not_one lower_as h = omega arith

one_is_hydrogen : (s : Symbol) → symbol_number s ≡ 1 → s ≡ element 1
one_is_hydrogen (element k) h = ap (λ w. element w) h
one_is_hydrogen (lower l) h = absurd (lower_not_one l h)

number_of_hydrogen : (s : Symbol) → s ≡ element 1 → symbol_number s ≡ 1
number_of_hydrogen s h = ap symbol_number h

pub are_hydrogens : (s : Symbol) (h : Hydrogens) → hydrogen_count h ≤ 9
    → (symbol_number s ≡ 1 → written_hydrogens h ≡ None) → AreHydrogens s h
are_hydrogens s unwritten le never = tt
are_hydrogens s single le never = λ e. absurd (let k = never (number_of_hydrogen s e) in cc)
are_hydrogens s (counted k) le never = (λ e. absurd (let q = never (number_of_hydrogen s e) in cc), le)

pub none_on_hydrogen : (s : Symbol) (h : Hydrogens) → AreHydrogens s h → symbol_number s ≡ 1 → written_hydrogens h
    ≡ None
none_on_hydrogen s unwritten are is_one = refl
none_on_hydrogen s single are is_one = absurd (are (one_is_hydrogen s is_one))
none_on_hydrogen s (counted k) are is_one = absurd (are.0 (one_is_hydrogen s is_one))

pub few_hydrogens : (s : Symbol) (h : Hydrogens) → AreHydrogens s h → hydrogen_count h ≤ 9
few_hydrogens s unwritten are = omega arith
few_hydrogens s single are = omega arith
few_hydrogens s (counted k) are = are.1

pub count_of : (h : Hydrogens) → unwrap_or (written_hydrogens h) 0 ≡ hydrogen_count h
count_of unwritten = refl
count_of single = refl
count_of (counted k) = refl

-- charges are read back
data Signed (x : Charge) (a : List ℕ) : Type 0 where
  none_written : x ≡ neutral → Signed x a
  sign_written : (s : Sign) (b : List ℕ) → sign_byte s ∷ b ≡ charge_text x ++ a → Signed x a

signed_by : (x : Charge) (a : List ℕ) → IsCharge x → Signed x a
signed_by neutral a is = none_written refl
signed_by (run s zero) a is = absurd (omega arith)
signed_by (run s (suc k)) a is = sign_written s (replicate k (sign_byte s) ++ a) refl
signed_by (amount s ds) a is = sign_written s (ds ++ a) refl

same_split : (s : Sign) (x y : Charge) (a b c : List ℕ) → AfterCharge a → AfterCharge b → Split s x a c → Split s y b c
    → (x ≡ y) × (a ≡ b)
same_split s x y a b c fa fb (more m lm ex e) (more k lk ey f) =
    let p = same_run s 15 m k a b (omega arith) (omega arith) fa (λ l xs g. no_sign s xs b fb g) (sym e ∙ f) in
    (ex ∙ ap (λ n. run s (suc n)) p.0 ∙ sym ey, sym p.1)
same_split s x y a b c fa fb (more m lm ex e) (digits ds is ey f) =
    absurd (some_digit ds b c is.0 is.2 f (subst NoDigitFirst (sym e) (run_no_digit s m a fa)))
same_split s x y a b c fa fb (digits ds is ex e) (more m lm ey f) =
    absurd (some_digit ds a c is.0 is.2 e (subst NoDigitFirst (sym f) (run_no_digit s m b fb)))
same_split s x y a b c fa fb (digits ds is ex e) (digits es it ey f) =
    let p = same_digits ds es a b is.2 it.2 (charge_no_digit a fa) (charge_no_digit b fb) (sym e ∙ f) in
    (ex ∙ ap (λ w. amount s w) p.0 ∙ sym ey, p.1)

neutral_text : (x : Charge) (a : List ℕ) → x ≡ neutral → charge_text x ++ a ≡ a
neutral_text x a e = ap (λ w. charge_text w ++ a) e

same_charge_by : (x y : Charge) (a b : List ℕ) → IsCharge x → IsCharge y → AfterCharge a → AfterCharge b
    → charge_text x ++ a ≡ charge_text y ++ b → Signed x a → Signed y b → (x ≡ y) × (a ≡ b)
same_charge_by x y a b ix iy fa fb h (none_written e) (none_written f) = (
  e ∙ sym f,
  sym (neutral_text x a e) ∙ h
      ∙ neutral_text y b f,
)
same_charge_by x y a b ix iy fa fb h (none_written e) (sign_written s c f) =
    absurd (no_sign s c a fa (sym (neutral_text x a e) ∙ h ∙ sym f))
same_charge_by x y a b ix iy fa fb h (sign_written s c e) (none_written f) =
    absurd (no_sign s c b fb (sym (neutral_text y b f) ∙ sym h ∙ sym e))
same_charge_by x y a b ix iy fa fb h (sign_written s c e) (sign_written t d f) =
    same_split s x y a b c fa fb (split s x a c ix fa e) (split s y b c iy fb (e ∙ h))

pub same_charge : (x y : Charge) (a b : List ℕ) → IsCharge x → IsCharge y → AfterCharge a → AfterCharge b
    → charge_text x ++ a ≡ charge_text y ++ b → (x ≡ y) × (a ≡ b)
same_charge x y a b ix iy fa fb h = same_charge_by x y a b ix iy fa fb h (signed_by x a ix) (signed_by y b iy)

-- hydrogens are read back
no_hydrogen : (xs a : List ℕ) → AfterHydrogens a → a ≡ 72 ∷ xs → ⊥
no_hydrogen xs a f e = let g : AfterHydrogens (72 ∷ xs) = subst AfterHydrogens e f in grind arith

no_count : (k : ℕ) (xs a : List ℕ) → k ≤ 9 → AfterHydrogens a → a ≡ (48 + k) ∷ xs → ⊥
no_count k xs a le f e = no_digit (48 + k) xs a (omega arith, omega arith) (hydrogens_no_digit a f) e

-- `H` and a digit is a count
pub hydrogens_counted : (x : Hydrogens) (k : ℕ) (r rest bytes : List ℕ) → k ≤ 9 → hydrogen_count x ≤ 9
    → AfterHydrogens rest → bytes ≡ 72 ∷ (48 + k) ∷ r → bytes ≡ hydrogens_text x ++ rest → r ≡ rest
hydrogens_counted unwritten k r rest bytes lk lx after front h =
    absurd (no_hydrogen ((48 + k) ∷ r) rest after (sym h ∙ front))
hydrogens_counted single k r rest bytes lk lx after front h =
    let e : 72 ∷ (48 + k) ∷ r ≡ 72 ∷ rest = sym front ∙ h in
    absurd (no_count k r rest lk after (let m : rest ≡ (48 + k) ∷ r = cc in m))
hydrogens_counted (counted j) k r rest bytes lk lx after front h = let e : 72 ∷ (48 + k) ∷ r ≡ 72 ∷ (48 + j) ∷ rest =
    sym front ∙ h in cc

pub same_hydrogens : (x y : Hydrogens) (a b : List ℕ) → hydrogen_count x ≤ 9 → hydrogen_count y ≤ 9 → AfterHydrogens a
    → AfterHydrogens b → hydrogens_text x ++ a ≡ hydrogens_text y ++ b → (x ≡ y) × (a ≡ b)
same_hydrogens unwritten unwritten a b lx ly fa fb h = (refl, h)
same_hydrogens unwritten single a b lx ly fa fb h = absurd (no_hydrogen b a fa h)
same_hydrogens unwritten (counted k) a b lx ly fa fb h = absurd (no_hydrogen _ a fa h)
same_hydrogens single unwritten a b lx ly fa fb h = absurd (no_hydrogen a b fb (sym h))
same_hydrogens single single a b lx ly fa fb h = let k : 72 ∷ a ≡ 72 ∷ b = h in (refl, cc)
same_hydrogens single (counted k) a b lx ly fa fb h = let l : 72 ∷ a ≡ 72 ∷ (48 + k) ∷ b = h in
    absurd (no_count k b a ly fa (cc))
same_hydrogens (counted k) unwritten a b lx ly fa fb h = absurd (no_hydrogen _ b fb (sym h))
same_hydrogens (counted k) single a b lx ly fa fb h = let l : 72 ∷ (48 + k) ∷ a ≡ 72 ∷ b = h in
    absurd (no_count k a b lx fb (let m : b ≡ (48 + k) ∷ a = cc in m))
same_hydrogens (counted k) (counted j) a b lx ly fa fb h =
    let l : 72 ∷ (48 + k) ∷ a ≡ 72 ∷ (48 + j) ∷ b = h in
    let p : 48 + k ≡ 48 + j = cc in
    let q : k ≡ j = omega arith in
    (ap (λ w. counted w) q, cc)

-- chirality marks are read back
most_small : (k : ChiralClass) → most_of k ≤ 30
most_small th = omega arith
most_small al = omega arith
most_small sp = omega arith
most_small tb = omega arith
most_small oh = omega arith

same_decimal : (j k : ℕ) (a b : List ℕ) → j ≤ 30 → k ≤ 30 → NoDigitFirst a → NoDigitFirst b → decimal j ++ a ≡ decimal k
    ++ b → (j ≡ k) × (a ≡ b)
same_decimal j k a b lj lk fa fb h =
    let p = same_digits (decimal j) (decimal k) a b (decimal_digits j (omega arith)) (decimal_digits k (omega arith)) fa
    fb h in
    (decimal_injective j k (omega arith) (omega arith) p.0, p.1)

pub same_chiral : (x y : Chiral) (a b : List ℕ) → IsChiral x → IsChiral y → AfterChiral a → AfterChiral b
    → chiral_text x ++ a ≡ chiral_text y ++ b → (x ≡ y) × (a ≡ b)
same_chiral none none a b ix iy fa fb h = (refl, h)
same_chiral none one a b ix iy fa fb h = absurd (no_mark a b fa (sym h))
same_chiral none two a b ix iy fa fb h = absurd (no_mark a (64 ∷ b) fa (sym h))
same_chiral none (numbered k j) a b ix iy fa fb h = absurd (no_mark a _ fa (sym h))
same_chiral one none a b ix iy fa fb h = absurd (no_mark b a fb h)
same_chiral one one a b ix iy fa fb h = let k : 64 ∷ a ≡ 64 ∷ b = h in (refl, cc)
same_chiral one two a b ix iy fa fb h = let k : 64 ∷ a ≡ 64 ∷ 64 ∷ b = h in
    absurd (no_mark a b fa (let m : 64 ∷ b ≡ a = cc in m))
same_chiral one (numbered k j) a b ix iy fa fb h =
    let l : 64 ∷ a ≡ 64 ∷ (class_bytes k ++ (decimal j ++ b)) = h ∙ numbered_text k j b in
    absurd (no_kind_after k (decimal j ++ b) a fa (cc))
same_chiral two none a b ix iy fa fb h = absurd (no_mark b (64 ∷ a) fb h)
same_chiral two one a b ix iy fa fb h = let k : 64 ∷ 64 ∷ a ≡ 64 ∷ b = h in
    absurd (no_mark b a fb (let m : 64 ∷ a ≡ b = cc in m))
same_chiral two two a b ix iy fa fb h = let k : 64 ∷ 64 ∷ a ≡ 64 ∷ 64 ∷ b = h in (refl, cc)
same_chiral two (numbered k j) a b ix iy fa fb h =
    let l : 64 ∷ 64 ∷ a ≡ 64 ∷ (class_bytes k ++ (decimal j ++ b)) = h ∙ numbered_text k j b in
    absurd (no_kind_at k (decimal j ++ b) a (cc))
same_chiral (numbered k j) none a b ix iy fa fb h = absurd (no_mark b _ fb h)
same_chiral (numbered k j) one a b ix iy fa fb h =
    let l : 64 ∷ b ≡ 64 ∷ (class_bytes k ++ (decimal j ++ a)) = sym h ∙ numbered_text k j a in
    absurd (no_kind_after k (decimal j ++ a) b fb (cc))
same_chiral (numbered k j) two a b ix iy fa fb h =
    let l : 64 ∷ 64 ∷ b ≡ 64 ∷ (class_bytes k ++ (decimal j ++ a)) = sym h ∙ numbered_text k j a in
    absurd (no_kind_at k (decimal j ++ a) b (cc))
same_chiral (numbered k j) (numbered l i) a b ix iy fa fb h =
    let e : 64 ∷ (class_bytes k ++ (decimal j ++ a)) ≡ 64 ∷ (class_bytes l ++ (decimal i ++ b)) =
    sym (numbered_text k j a) ∙ h ∙ numbered_text l i b in
    let p = same_kind k l (decimal j ++ a) (decimal i ++ b) (cc) in
    let mk = most_small k in
    let ml = most_small l in
    let uj = ix.1 in
    let ui = iy.1 in
    let q = same_decimal j i a b (omega arith) (omega arith) (chiral_no_digit a fa) (chiral_no_digit b fb) p.1 in
    (ap (λ w. numbered w j) p.0 ∙ ap (λ w. numbered l w) q.0, q.1)
