-- The symbols of the elements: their letters, and that no two are alike.
use Rattle.std.proofs.Common.{◌≡◌, ℕ, zero, suc, ◌+◌, ◌<◌, ◌≤◌, ◌⊎◌, inl, inr, Bool, true, false, cond, eqb, ltb, leb, ◌==◌, ◌&&◌, ◌||◌, List, [], ◌∷◌, ◌++◌, length, get_or, slice_get, Some, refl, sym, ◌∙◌, ap, subst, arith}
use Rattle.std.proofs.lemmas.Bool.{false≢true}
use Rattle.std.proofs.lemmas.Bool.Decides.{nat_tests}
use Rattle.std.proofs.lemmas.Option.{slice_get-get_or, slice_get_within, get_or_from_slice_get}
use Rattle.std.specs.List.{list_all}
use Rattle.chem_core.specs.Element.{symbols}
use Rattle.smiles_words.specs.Atom.{Lower, lower_b, lower_c, lower_n, lower_o, lower_p, lower_s, lower_se, lower_as, lower_bytes, lower_number, IsOrganicLower, Symbol, element, lower, symbol_text, IsSymbol}
use Rattle.smiles_words.specs.Follow.{NoDigitFirst, AfterSymbol}

length-symbols : length symbols ≡ 104
unfolding symbols
length-symbols = refl

-- a first letter is in upper case, or `*`
record IsFirst (a : ℕ) : Type 0 where
  no_digit : (a < 48) ⊎ (57 < a)
  upper : a < 97

first_test : ℕ → Bool
first_test a = (ltb a 48 || ltb 57 a) && ltb a 97

-- one letter, or two of which the second is in lower case
data Shape (text : List ℕ) : Type 0 where
  one : (x : ℕ) → text ≡ x ∷ [] → IsFirst x → Shape text
  two : (x y : ℕ) → text ≡ x ∷ y ∷ [] → IsFirst x → 97 ≤ y → Shape text

shape_test : List ℕ → Bool
shape_test [] = false
shape_test (x ∷ []) = first_test x
shape_test (x ∷ y ∷ []) = first_test x && leb 97 y
shape_test (x ∷ y ∷ z ∷ xs) = false

both : (u v : Bool) → (u && v) ≡ true → (u ≡ true) × (v ≡ true)
both true v h = (refl, h)
both false v h = absurd (false≢true h)

either : (u v : Bool) → (u || v) ≡ true → (u ≡ true) ⊎ (v ≡ true)
either true v h = inl refl
either false v h = inr h

below : (m k : ℕ) → ltb m k ≡ true → m < k
below m k h = grind (arith, nat_tests)

at_most : (m k : ℕ) → leb m k ≡ true → m ≤ k
at_most m k h = grind (arith, nat_tests)

first_is : (x : ℕ) → first_test x ≡ true → IsFirst x
unfolding first_test
first_is x h =
    let p = both (ltb x 48 || ltb 57 x) (ltb x 97) h in
    record {
      no_digit = elim (either (ltb x 48) (ltb 57 x) p.0) [ inl e ↦ inl (below x 48 e) | inr e ↦ inr (below 57 x e) ];
      upper = below x 97 p.1;
    }

shape_is : (text : List ℕ) → shape_test text ≡ true → Shape text
unfolding shape_test
shape_is [] h = absurd (false≢true h)
shape_is (x ∷ []) h = one x refl (first_is x h)
shape_is (x ∷ y ∷ []) h = let q = both (first_test x) (leb 97 y) h in two x y refl (first_is x q.0) (at_most 97 y q.1)
shape_is (x ∷ y ∷ z ∷ xs) h = absurd (false≢true h)

passes_at : (test : List ℕ → Bool) (xs : List (List ℕ)) (k : ℕ) → list_all test xs ≡ true → k < length xs
    → test (get_or xs k []) ≡ true
passes_at test [] k h l = absurd (omega arith)
passes_at test (x ∷ xs) zero h l = (both (test x) (list_all test xs) h).0
passes_at test (x ∷ xs) (suc k) h l = passes_at test xs k (both (test x) (list_all test xs) h).1 (omega arith)

shapes : list_all shape_test symbols ≡ true
unfolding symbols shape_test first_test
shapes = refl

element_shape : (k : ℕ) → k ≤ 103 → Shape (get_or symbols k [])
element_shape k le = let l = length-symbols in shape_is _ (passes_at shape_test symbols k shapes (omega arith))

-- the place of a text in a table
same : List ℕ → List ℕ → Bool
same [] [] = true
same [] (y ∷ ys) = false
same (x ∷ xs) [] = false
same (x ∷ xs) (y ∷ ys) = eqb x y && same xs ys

place : List ℕ → List (List ℕ) → ℕ
place text [] = 0
place text (x ∷ xs) = cond (same text x) 0 (suc (place text xs))

-- each text of the list has its place, counted from a number, as its place in the table
placed : List (List ℕ) → List (List ℕ) → ℕ → Bool
placed table [] i = true
placed table (x ∷ xs) i = eqb (place x table) i && placed table xs (suc i)

equal_by : (m k : ℕ) → eqb m k ≡ true → m ≡ k
equal_by m k h = grind (arith, nat_tests)

placed_at : (table xs : List (List ℕ)) (i k : ℕ) → placed table xs i ≡ true → k < length xs
    → place (get_or xs k []) table ≡ i + k
unfolding placed
placed_at table [] i k h l = absurd (omega arith)
placed_at table (x ∷ xs) i zero h l = let e =
    equal_by (place x table) i (both (eqb (place x table) i) (placed table xs (suc i)) h).0 in omega arith
placed_at table (x ∷ xs) i (suc k) h l =
    let e = placed_at table xs (suc i) k (both (eqb (place x table) i) (placed table xs (suc i)) h).1 (omega arith) in
    omega arith

all_placed : placed symbols symbols 0 ≡ true
unfolding symbols placed place same
all_placed = refl

-- no two elements have one symbol
pub same_element : (j k : ℕ) → j ≤ 103 → k ≤ 103 → get_or symbols j [] ≡ get_or symbols k [] → j ≡ k
same_element j k lj lk e =
    let l = length-symbols in
    let p = placed_at symbols symbols 0 j all_placed (omega arith) in
    let q = placed_at symbols symbols 0 k all_placed (omega arith) in
    let r = ap (λ w. place w symbols) e in
    omega arith

at_front : (x y u : List ℕ) (a : List ℕ) → x ≡ u → y ≡ x ++ a → y ≡ u ++ a
at_front x y u a e h = h ∙ ap (λ w. w ++ a) e

no_lower : (y : ℕ) (ys rest : List ℕ) → 97 ≤ y → AfterSymbol rest → rest ≡ y ∷ ys → ⊥
no_lower y ys rest le after e = let g : AfterSymbol (y ∷ ys) = subst AfterSymbol e after in grind arith

element_two_by : (text : List ℕ) (x y : ℕ) (r rest : List ℕ) → 97 ≤ y → Shape text → x ∷ y ∷ r ≡ text ++ rest
    → AfterSymbol rest → (r ≡ rest) × (text ≡ x ∷ y ∷ [])
element_two_by text x y r rest le (one u e f) h after =
    let k : x ∷ y ∷ r ≡ u ∷ rest = at_front text _ (u ∷ []) rest e h in
    absurd (no_lower y r rest le after (cc))
element_two_by text x y r rest le (two u v e f l) h after =
    let k : x ∷ y ∷ r ≡ u ∷ v ∷ rest = at_front text _ (u ∷ v ∷ []) rest e h in
    (cc, cc)

second_is_lower : (text : List ℕ) (x y : ℕ) → text ≡ x ∷ y ∷ [] → Shape text → 97 ≤ y
second_is_lower text x y e (one u f g) = absurd (let k : u ∷ [] ≡ x ∷ y ∷ [] = sym f ∙ e in cc)
second_is_lower text x y e (two u v f g l) = let k : u ∷ v ∷ [] ≡ x ∷ y ∷ [] = sym f ∙ e in let q : v ≡ y = cc in
    omega arith

pub two_is_lower : (k x y : ℕ) → slice_get symbols k ≡ Some (x ∷ y ∷ []) → 97 ≤ y
two_is_lower k x y is =
    let l = length-symbols in
    let k' = slice_get_within symbols k (x ∷ y ∷ []) is in
    second_is_lower (get_or symbols k []) x y (get_or_from_slice_get symbols k (x ∷ y ∷ []) [] is)
    (element_shape k (omega arith))

-- after a symbol of two letters stands what stands after any symbol there
pub element_two : (k m x y : ℕ) (r rest : List ℕ) → k ≤ 103 → m ≤ 103 → slice_get symbols m ≡ Some (x ∷ y ∷ [])
    → x ∷ y ∷ r ≡ get_or symbols k [] ++ rest → AfterSymbol rest → (r ≡ rest) × (m ≡ k)
element_two k m x y r rest lk lm is h after =
    let e = get_or_from_slice_get symbols m (x ∷ y ∷ []) [] is in
    let le = second_is_lower (get_or symbols m []) x y e (element_shape m lm) in
    let p = element_two_by (get_or symbols k []) x y r rest le (element_shape k lk) h after in
    (p.0, same_element m k lm lk (e ∙ sym p.1))

element_one_by : (text bytes rest : List ℕ) → Shape text → bytes ≡ text ++ rest
    → ((x y : ℕ) (r : List ℕ) → bytes ≡ x ∷ y ∷ r → text ≡ x ∷ y ∷ [] → ⊥) → (x : ℕ) × (text ≡ x ∷ [])
    × (bytes ≡ x ∷ rest)
element_one_by text bytes rest (one x e f) h never = (x, e, at_front text bytes (x ∷ []) rest e h)
element_one_by text bytes rest (two x y e f l) h never =
    absurd (never x y rest (at_front text bytes (x ∷ y ∷ []) rest e h) e)

-- bytes that begin with no symbol of two letters
pub element_one : (k : ℕ) (bytes rest : List ℕ) → k ≤ 103 → bytes ≡ get_or symbols k [] ++ rest
    → ((x y m : ℕ) (r : List ℕ) → bytes ≡ x ∷ y ∷ r → slice_get symbols m ≡ Some (x ∷ y ∷ []) → ⊥)
    → (x : ℕ) × (slice_get symbols k ≡ Some (x ∷ [])) × (bytes ≡ x ∷ rest)
element_one k bytes rest le h never =
    let l = length-symbols in
    let at = slice_get-get_or symbols k [] (omega arith) in
    let p = element_one_by (get_or symbols k []) bytes rest (element_shape k le) h (λ x y r e f.
    never x y k r e (at ∙ ap (λ w. Some w) f)) in
    (p.0, at ∙ ap (λ w. Some w) p.1, p.2)

pub one_element : (k m x y : ℕ) → k ≤ 103 → m ≤ 103 → slice_get symbols k ≡ Some (x ∷ []) → slice_get symbols m
    ≡ Some (y ∷ []) → x ≡ y → m ≡ k
one_element k m x y lk lm e f p =
    same_element m k lm lk (get_or_from_slice_get symbols m (y ∷ []) [] f ∙ ap (λ w. w ∷ []) (sym p)
    ∙ sym (get_or_from_slice_get symbols k (x ∷ []) [] e))

-- the first byte of an element
element_first : (text : List ℕ) → Shape text → (x : ℕ) × (xs : List ℕ) × (text ≡ x ∷ xs) × IsFirst x
element_first text (one x e f) = (x, [], e, f)
element_first text (two x y e f l) = (x, y ∷ [], e, f)

pub lower_first : (l : Lower) → (x : ℕ) × (xs : List ℕ) × (lower_bytes l ≡ x ∷ xs) × (97 ≤ x)
lower_first lower_b = (98, [], refl, omega arith)
lower_first lower_c = (99, [], refl, omega arith)
lower_first lower_n = (110, [], refl, omega arith)
lower_first lower_o = (111, [], refl, omega arith)
lower_first lower_p = (112, [], refl, omega arith)
lower_first lower_s = (115, [], refl, omega arith)
lower_first lower_se = (115, 101 ∷ [], refl, omega arith)
lower_first lower_as = (97, 115 ∷ [], refl, omega arith)

-- no element begins as a symbol in lower case
pub element_not_lower : (k : ℕ) (l : Lower) (r rest : List ℕ) → k ≤ 103 → get_or symbols k [] ++ rest ≡ lower_bytes l
    ++ r → ⊥
element_not_lower k l r rest le h =
    let u = element_first (get_or symbols k []) (element_shape k le) in
    let v = lower_first l in
    let e : u.0 ∷ (u.1 ++ rest) ≡ v.0 ∷ (v.1 ++ r) = sym (ap (λ w. w ++ rest) u.2) ∙ h ∙ ap (λ w. w ++ r) v.2 in
    let q : u.0 ≡ v.0 = cc in
    let low = u.3.upper in
    let high = v.3 in
    omega arith

digit_by : (xs : List ℕ) (x : ℕ) (r : List ℕ) → xs ≡ x ∷ r → (x < 48) ⊎ (57 < x) → NoDigitFirst xs
digit_by xs x r e h = subst NoDigitFirst (sym e) h

-- a symbol begins with no digit
pub symbol_no_digit : (z : Symbol) (rest : List ℕ) → IsSymbol z → NoDigitFirst (symbol_text z ++ rest)
symbol_no_digit (element k) rest le =
    let u = element_first (get_or symbols k []) (element_shape k le) in
    digit_by _ u.0 (u.1 ++ rest) (ap (λ w. w ++ rest) u.2) u.3.no_digit
symbol_no_digit (lower l) rest is =
    let v = lower_first l in
    let high = v.3 in
    digit_by _ v.0 (v.1 ++ rest) (ap (λ w. w ++ rest) v.2) (inr (omega arith))

-- bytes begin with one symbol alone, if what follows may follow one
same_shape : (t u a b : List ℕ) → Shape t → Shape u → AfterSymbol a → AfterSymbol b → t ++ a ≡ u ++ b → (t ≡ u)
    × (a ≡ b)
same_shape t u a b (one x e f) (one y g k) fa fb h =
    let l : x ∷ a ≡ y ∷ b = sym (ap (λ w. w ++ a) e) ∙ h ∙ ap (λ w. w ++ b) g in
    let p : x ≡ y = cc in
    (e ∙ ap (λ w. w ∷ []) p ∙ sym g, cc)
same_shape t u a b (one x e f) (two y v g k q) fa fb h =
    let l : x ∷ a ≡ y ∷ v ∷ b = sym (ap (λ w. w ++ a) e) ∙ h ∙ ap (λ w. w ++ b) g in
    absurd (no_lower v b a q fa (cc))
same_shape t u a b (two x v e f q) (one y g k) fa fb h =
    let l : x ∷ v ∷ a ≡ y ∷ b = sym (ap (λ w. w ++ a) e) ∙ h ∙ ap (λ w. w ++ b) g in
    absurd (no_lower v a b q fb (cc))
same_shape t u a b (two x v e f q) (two y w g k r) fa fb h =
    let l : x ∷ v ∷ a ≡ y ∷ w ∷ b = sym (ap (λ z. z ++ a) e) ∙ h ∙ ap (λ z. z ++ b) g in
    let m : x ∷ v ∷ [] ≡ y ∷ w ∷ [] = cc in
    (e ∙ m ∙ sym g, cc)

abbrev small_from : ℕ → Lower
small_from a = cond (a == 98) lower_b
    (cond (a == 99) lower_c (cond (a == 110) lower_n (cond (a == 111) lower_o (cond (a == 112) lower_p lower_s))))

abbrev pub lower_read : List ℕ → Lower × List ℕ
lower_read [] = (lower_b, [])
lower_read (a ∷ []) = (small_from a, [])
lower_read (a ∷ b ∷ r) = cond (a == 97) (lower_as, r) (cond ((a == 115) && (b == 101)) (lower_se, r) (
  small_from a,
  b ∷ r,
))

no_e : (b : ℕ) (bs : List ℕ) → AfterSymbol (b ∷ bs) → (b == 101) ≡ false
no_e b bs h = let k : b < 101 = grind arith in grind (arith, nat_tests)

lower_is : (l : Lower) (r : List ℕ) → AfterSymbol r → lower_read (lower_bytes l ++ r) ≡ (l, r)
lower_is l [] h = absurd h
lower_is lower_b (x ∷ xs) h = refl
lower_is lower_c (x ∷ xs) h = refl
lower_is lower_n (x ∷ xs) h = refl
lower_is lower_o (x ∷ xs) h = refl
lower_is lower_p (x ∷ xs) h = refl
lower_is lower_s (x ∷ xs) h = ap (λ w. cond w (let p : Lower × List ℕ = (lower_se, xs) in p) (lower_s, x ∷ xs))
    (no_e x xs h)
lower_is lower_se (x ∷ xs) h = refl
lower_is lower_as (x ∷ xs) h = refl

pub lower_only : (m l : Lower) (bytes r rest : List ℕ) → lower_read bytes ≡ (m, r) → AfterSymbol rest
    → bytes ≡ lower_bytes l ++ rest → (r ≡ rest) × (lower_number m ≡ lower_number l)
lower_only m l bytes r rest k after h =
    let e : (m, r) ≡ (l, rest) = sym k ∙ ap lower_read h ∙ lower_is l rest after in
    (ap (λ (p : Lower × List ℕ). p.1) e, ap (λ (p : Lower × List ℕ). lower_number p.0) e)

pub same_symbol : (z w : Symbol) (a b : List ℕ) → IsSymbol z → IsSymbol w → AfterSymbol a → AfterSymbol b
    → symbol_text z ++ a ≡ symbol_text w ++ b → (z ≡ w) × (a ≡ b)
same_symbol (element j) (element k) a b lj lk fa fb h =
    let p = same_shape (get_or symbols j []) (get_or symbols k []) a b (element_shape j lj) (element_shape k lk) fa fb
    h in
    (ap (λ w. element w) (same_element j k lj lk p.0), p.1)
same_symbol (element j) (lower l) a b lj lk fa fb h = absurd (element_not_lower j l b a lj h)
same_symbol (lower l) (element k) a b lj lk fa fb h = absurd (element_not_lower k l a b lk (sym h))
same_symbol (lower l) (lower m) a b lj lk fa fb h =
    let e = sym (lower_is l a fa) ∙ ap lower_read h ∙ lower_is m b fb in
    (ap (λ (p : Lower × List ℕ). lower p.0) e, ap (λ (p : Lower × List ℕ). p.1) e)

small_first : (l : Lower) → IsOrganicLower l → (x : ℕ) × (lower_bytes l ≡ x ∷ []) × (small_from x ≡ l)
small_first lower_b is = (98, refl, refl)
small_first lower_c is = (99, refl, refl)
small_first lower_n is = (110, refl, refl)
small_first lower_o is = (111, refl, refl)
small_first lower_p is = (112, refl, refl)
small_first lower_s is = (115, refl, refl)
small_first lower_se is = absurd is
small_first lower_as is = absurd is

-- without brackets
pub same_small : (l m : Lower) (a b : List ℕ) → IsOrganicLower l → IsOrganicLower m → lower_bytes l ++ a ≡ lower_bytes m
    ++ b → (l ≡ m) × (a ≡ b)
same_small l m a b il im h =
    let u = small_first l il in
    let v = small_first m im in
    let e : u.0 ∷ a ≡ v.0 ∷ b = sym (ap (λ w. w ++ a) u.1) ∙ h ∙ ap (λ w. w ++ b) v.1 in
    let p : u.0 ≡ v.0 = cc in
    (sym u.2 ∙ ap small_from p ∙ v.2, cc)
