-- Sets of bytes, and which of them share a byte.
use Rattle.std.proofs.Common.{◌≡◌, ◌≢◌, ℕ, ◌<◌, ◌⊎◌, inl, inr, Bool, true, false, not, ◌==◌, ◌&&◌, ◌||◌, leb, List, [], ◌∷◌, refl, sym, ◌∙◌, ap, arith}
use Rattle.std.proofs.lemmas.Bool.{false≢true, cases_lt}
use Rattle.std.proofs.lemmas.Bool.Decides.{nat_tests}
use Rattle.std.specs.List.{list_any, list_all}
use Rattle.line_walk.specs.Follow.{IsWalkByte, AfterAtom}
use Rattle.smiles_words.specs.Follow.{IsOneOf, GoesOn, NoDigitFirst}
use Rattle.smiles_words.specs.Words.{atom_bytes, bond_bytes, smiles_words}

pub differ : (m k : ℕ) → m ≢ k → (m == k) ≡ false
differ m k h = grind (arith, nat_tests)

pub agree : (m : ℕ) → (m == m) ≡ true
agree m = grind (arith, nat_tests)

agree_with : (m k : ℕ) → m ≡ k → (m == k) ≡ true
agree_with m k h = grind (arith, nat_tests)

agree_from : (m k : ℕ) → (m == k) ≡ true → m ≡ k
agree_from m k h = grind (arith, nat_tests)

or_true : (b : Bool) → (b || true) ≡ true
or_true true = refl
or_true false = refl

either : (u v : Bool) → (u || v) ≡ true → (u ≡ true) ⊎ (v ≡ true)
either true v h = inl refl
either false v h = inr h

both : (u v : Bool) → (u && v) ≡ true → (u ≡ true) × (v ≡ true)
both true v h = (refl, h)
both false v h = absurd (false≢true h)

-- a test that all bytes of a set pass
passes : (test : ℕ → Bool) (xs : List ℕ) (b : ℕ) → list_all test xs ≡ true → IsOneOf xs b → test b ≡ true
passes test [] b h is = absurd is
passes test (x ∷ xs) b h (inl e) = let p = (both (test x) (list_all test xs) h).0 in cc
passes test (x ∷ xs) b h (inr k) = passes test xs b (both (test x) (list_all test xs) h).1 k

one_of : (xs : List ℕ) (b : ℕ) → IsOneOf xs b → list_any (λ x. b == x) xs ≡ true
one_of [] b is = absurd is
one_of (x ∷ xs) b (inl e) = let p = agree_with b x e in ap (λ t. t || list_any (λ y. b == y) xs) p
one_of (x ∷ xs) b (inr k) = ap (λ t. (b == x) || t) (one_of xs b k) ∙ or_true (b == x)

-- two sets that share no byte
pub share_none : (xs ys : List ℕ) (b : ℕ) → list_all (λ x. not (list_any (λ y. x == y) ys)) xs ≡ true → IsOneOf xs b
    → IsOneOf ys b → ⊥
share_none xs ys b h p q =
    let no = passes (λ x. not (list_any (λ y. x == y) ys)) xs b h p in
    let yes = ap not (one_of ys b q) in
    false≢true (sym yes ∙ no)

-- a byte of the walk, as a test
abbrev walk_test : ℕ → Bool
walk_test b = (b == 40) || ((b == 41) || ((b == 46) || ((b == 37) || (leb 48 b && leb b 57))))

is_walk : (b : ℕ) → IsWalkByte b → walk_test b ≡ true
is_walk b (inl e) = grind (arith, nat_tests)
is_walk b (inr (inl e)) = grind (arith, nat_tests)
is_walk b (inr (inr (inl e))) = grind (arith, nat_tests)
is_walk b (inr (inr (inr (inl e)))) = grind (arith, nat_tests)
is_walk b (inr (inr (inr (inr h)))) = let low = h.0 in let high = h.1 in grind (arith, nat_tests)

-- a set without bytes of the walk
pub no_walk : (xs : List ℕ) (b : ℕ) → list_all (λ x. not (walk_test x)) xs ≡ true → IsOneOf xs b → IsWalkByte b → ⊥
no_walk xs b h p q =
    let no = passes (λ x. not (walk_test x)) xs b h p in
    let yes = ap not (is_walk b q) in
    false≢true (sym yes ∙ no)

pub is_one_of : (ys : List ℕ) (b : ℕ) → list_any (λ y. b == y) ys ≡ true → IsOneOf ys b
is_one_of [] b h = absurd (false≢true h)
is_one_of (y ∷ ys) b h = elim (either (b == y) (list_any (λ z. b == z) ys) h) [
  | inl e ↦ inl (agree_from b y e)
  | inr k ↦ inr (is_one_of ys b k)
]

no_digit_by : (b : ℕ) → not (leb 48 b && leb b 57) ≡ true → (b < 48) ⊎ (57 < b)
no_digit_by b h = elim (cases_lt b 48) [
  | inl l ↦ inl l
  | inr l ↦ inr (grind (arith, nat_tests))
]

-- a set within another
pub goes_within : (xs ys rest : List ℕ) → list_all (λ x. list_any (λ y. x == y) ys) xs ≡ true → GoesOn xs rest
    → GoesOn ys rest
goes_within xs ys [] h g = g
goes_within xs ys (b ∷ bs) h g = is_one_of ys b (passes (λ x. list_any (λ y. x == y) ys) xs b h g)

-- a set without digits
pub goes_no_digit : (xs rest : List ℕ) → list_all (λ x. not (leb 48 x && leb x 57)) xs ≡ true → GoesOn xs rest
    → NoDigitFirst rest
goes_no_digit xs [] h g = tt
goes_no_digit xs (b ∷ bs) h g = no_digit_by b (passes (λ x. not (leb 48 x && leb x 57)) xs b h g)

-- after an atom stands no second letter of a symbol, `l` or `r`
letter_by : (c : ℕ) → not ((c == 108) || (c == 114)) ≡ true → (c ≢ 108) × (c ≢ 114)
letter_by c h = (λ e. grind (arith, nat_tests), λ e. grind (arith, nat_tests))

walk_letter : (c : ℕ) → IsWalkByte c → (c ≢ 108) × (c ≢ 114)
walk_letter c h = (
  λ e. false≢true (sym (ap walk_test e) ∙ is_walk c h),
  λ e. false≢true (sym (ap walk_test e) ∙ is_walk c h),
)

pub no_second_letter : (c : ℕ) (cs : List ℕ) → AfterAtom smiles_words (c ∷ cs) → (c ≢ 108) × (c ≢ 114)
no_second_letter c cs (inl h) = walk_letter c h
no_second_letter c cs (inr (inl h)) = letter_by c (passes (λ x. not ((x == 108) || (x == 114))) bond_bytes c refl h)
no_second_letter c cs (inr (inr h)) = letter_by c (passes (λ x. not ((x == 108) || (x == 114))) atom_bytes c refl h)
