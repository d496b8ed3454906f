-- The first byte of a primitive, and which primitives begin with it.
use Rattle.std.proofs.Common.{◌≡◌, ◌≢◌, ℕ, zero, suc, ◌+◌, ◌≤◌, Bool, true, false, not, ◌==◌, ◌&&◌, leb, List, [], ◌∷◌, ◌++◌, length, get_or, ◌⊎◌, inl, inr, refl, sym, ◌∙◌, ap, subst, arith}
use Rattle.std.proofs.lemmas.Bool.{false≢true}
use Rattle.std.proofs.lemmas.Bool.Decides.{nat_tests}
use Rattle.std.specs.List.{list_all}
use Rattle.chem_core.specs.Element.{symbols}
use Rattle.smiles_words.specs.Atom.{IsDigit}
use Rattle.smiles_words.proofs.Symbols.{lower_first}
use Rattle.smarts_words.specs.declared.word.Letter.{Letter}
use Rattle.smarts_words.specs.declared.word.Letter.TheVariants as letters
use Rattle.smarts_words.specs.Prims.{Signs, run, amount, signs_text, AreSigns, sign_of, Turn, one, two, numbered, Stereo, turn_text, mark_text, Prim, any, aromatic, aliphatic, element, lower, atomic, counted, charge, mass, part, stereo, prim_text, IsPrim, letter_byte}
use Rattle.smarts_words.specs.Follow.{IsLettered}
use Rattle.smarts_words.proofs.Letters.{length-symbols}
use Rattle.smarts_words.proofs.Shapes.{passes_at}
use Rattle.smarts_words.proofs.Signs.{sign_is}

-- what a primitive is, by its first byte
pub data KindAt (b : ℕ) (x : Prim) : Type 0 where
  at_stereo : (s : Stereo) → x ≡ stereo s → b ≡ 64 → KindAt b x
  at_atomic : (ds : List ℕ) → x ≡ atomic ds → b ≡ 35 → KindAt b x
  at_charge : (s : Signs) → x ≡ charge s → (b ≡ 43) ⊎ (b ≡ 45) → KindAt b x
  at_mass : (ds : List ℕ) → x ≡ mass ds → IsDigit b → KindAt b x
  at_part : (text : List ℕ) → x ≡ part text → b ≡ 36 → KindAt b x
  at_letter : IsLettered x → (b ≡ 42) ⊎ ((65 ≤ b) × (b ≢ 93)) → KindAt b x

pub record First (x : Prim) : Type 0 where
  pub byte : ℕ
  pub more : List ℕ
  pub spelled : prim_text x ≡ byte ∷ more
  pub kind : KindAt byte x

upper_test : List ℕ → Bool
upper_test [] = false
upper_test (x ∷ xs) = leb 65 x && not (x == 93)

abbrev after_two : List (List ℕ) → List (List ℕ)
after_two (x ∷ y ∷ xs) = xs
after_two _ = []

all_upper : list_all upper_test (after_two symbols) ≡ true
unfolding symbols upper_test
all_upper = refl

at_two : (xs : List (List ℕ)) (n : ℕ) → 2 ≤ length xs → get_or (after_two xs) n [] ≡ get_or xs (suc (suc n)) []
at_two [] n l = absurd (omega arith)
at_two (x ∷ []) n l = absurd (omega arith)
at_two (x ∷ y ∷ xs) n l = refl

length-after_two : (xs : List (List ℕ)) → 2 ≤ length xs → 2 + length (after_two xs) ≡ length xs
length-after_two [] l = absurd (omega arith)
length-after_two (x ∷ []) l = absurd (omega arith)
length-after_two (x ∷ y ∷ xs) l = omega arith

upper_passes : (text : List ℕ) → upper_test text ≡ true → (b : ℕ) × (more : List ℕ) × (text ≡ b ∷ more) × (65 ≤ b)
    × (b ≢ 93)
unfolding upper_test
upper_passes [] h = absurd (false≢true h)
upper_passes (x ∷ xs) h = (x, xs, refl, grind (arith, nat_tests), λ e. grind (arith, nat_tests))

element_first : (n : ℕ) → 2 ≤ n → n ≤ 103 → (b : ℕ) × (more : List ℕ) × (get_or symbols n [] ≡ b ∷ more) × (65 ≤ b)
    × (b ≢ 93)
element_first zero low high = absurd (omega arith)
element_first (suc zero) low high = absurd (omega arith)
element_first (suc (suc n)) low high =
    let l = length-symbols in
    let k = length-after_two symbols (omega arith) in
    let p = upper_passes (get_or (after_two symbols) n []) (passes_at upper_test (after_two symbols) n all_upper
    (omega arith)) in
    (p.0, p.1, sym (at_two symbols n (omega arith)) ∙ p.2, p.3, p.4)

letter_high : (l : Letter) → (65 ≤ letter_byte l) × (letter_byte l ≢ 93)
letter_high letters.Degree = (omega arith, λ e. omega arith)
letter_high letters.TotalH = (omega arith, λ e. omega arith)
letter_high letters.ImplicitH = (omega arith, λ e. omega arith)
letter_high letters.Rings = (omega arith, λ e. omega arith)
letter_high letters.RingSize = (omega arith, λ e. omega arith)
letter_high letters.Valence = (omega arith, λ e. omega arith)
letter_high letters.Connect = (omega arith, λ e. omega arith)
letter_high letters.RingBonds = (omega arith, λ e. omega arith)

signs_begin : (s : Signs) → AreSigns s → (more : List ℕ) × (signs_text s ≡ sign_of s ∷ more)
signs_begin (run sign zero) is = absurd (let low = is.0 in omega arith)
signs_begin (run sign (suc n)) is = (_, refl)
signs_begin (amount sign ds) is = (ds, refl)

turn_begins : (t : Turn) → (more : List ℕ) × (turn_text t ≡ 64 ∷ more)
turn_begins one = ([], refl)
turn_begins two = (64 ∷ [], refl)
turn_begins (numbered kind ds) = (_, refl)

pub first_of : (x : Prim) → IsPrim x → First x
first_of any is = record { byte = 42; more = []; spelled = refl; kind = at_letter tt (inl refl) }
first_of aromatic is = record {
  byte = 97;
  more = [];
  spelled = refl;
  kind =
      at_letter tt (inr (omega arith, λ e. omega arith));
}
first_of aliphatic is = record {
  byte = 65;
  more = [];
  spelled = refl;
  kind =
      at_letter tt (inr (omega arith, λ e. omega arith));
}
first_of (element n) is = let p = element_first n is.0 is.1 in record {
  byte = p.0;
  more = p.1;
  spelled = p.2;
  kind =
      at_letter tt (inr (p.3, p.4));
}
first_of (lower l) is = let p = lower_first l in let high = p.3 in record {
  byte = p.0;
  more = p.1;
  spelled = p.2;
  kind = at_letter tt (inr (omega arith, λ e. omega arith));
}
first_of (atomic ds) is = record { byte = 35; more = ds; spelled = refl; kind = at_atomic ds refl refl }
first_of (counted l ds) is = record {
  byte = letter_byte l;
  more = ds;
  spelled = refl;
  kind =
      at_letter tt (inr (letter_high l));
}
first_of (charge s) is = let p = signs_begin s is in record {
  byte = sign_of s;
  more = p.0;
  spelled = p.1;
  kind =
      at_charge s refl (sign_is s);
}
first_of (mass []) is = absurd (let l = is.0 in omega arith)
first_of (mass (d ∷ ds)) is = record { byte = d; more = ds; spelled = refl; kind = at_mass (d ∷ ds) refl is.2.0 }
first_of (part text) is = record { byte = 36; more = _; spelled = refl; kind = at_part text refl refl }
first_of (stereo s) is = let p = turn_begins s.turn in record {
  byte = 64;
  more = p.0 ++ mark_text s.unsure;
  spelled =
      ap (λ v. v ++ mark_text s.unsure) p.1;
  kind = at_stereo s refl refl;
}

heads_one : (a c : ℕ) (r s : List ℕ) → a ∷ r ≡ c ∷ s → a ≡ c
heads_one a c r s e = cc

-- the primitive that bytes begin with, by their first byte
pub kind_at : (x : Prim) (rest bytes r : List ℕ) (b : ℕ) → IsPrim x → bytes ≡ prim_text x ++ rest → bytes ≡ b ∷ r
    → KindAt b x
kind_at x rest bytes r b is h e =
    let f = first_of x is in
    let same : f.byte ≡ b = heads_one f.byte b (f.more ++ rest) r (sym (ap (λ v. v ++ rest) f.spelled) ∙ sym h ∙ e) in
    subst (λ (v : ℕ). KindAt v x) same f.kind

pub is_atomic : (x : Prim) → KindAt 35 x → (ds : List ℕ) × (x ≡ atomic ds)
is_atomic x (at_stereo s e k) = absurd (omega arith)
is_atomic x (at_atomic ds e k) = (ds, e)
is_atomic x (at_charge s e k) = absurd (grind arith)
is_atomic x (at_mass ds e k) = absurd (let low = k.0 in omega arith)
is_atomic x (at_part text e k) = absurd (omega arith)
is_atomic x (at_letter h k) = absurd (grind arith)

pub is_stereo : (x : Prim) → KindAt 64 x → (s : Stereo) × (x ≡ stereo s)
is_stereo x (at_stereo s e k) = (s, e)
is_stereo x (at_atomic ds e k) = absurd (omega arith)
is_stereo x (at_charge s e k) = absurd (grind arith)
is_stereo x (at_mass ds e k) = absurd (let high = k.1 in omega arith)
is_stereo x (at_part text e k) = absurd (omega arith)
is_stereo x (at_letter h k) = absurd (grind arith)

pub is_part : (x : Prim) → KindAt 36 x → (text : List ℕ) × (x ≡ part text)
is_part x (at_stereo s e k) = absurd (omega arith)
is_part x (at_atomic ds e k) = absurd (omega arith)
is_part x (at_charge s e k) = absurd (grind arith)
is_part x (at_mass ds e k) = absurd (let low = k.0 in omega arith)
is_part x (at_part text e k) = (text, e)
is_part x (at_letter h k) = absurd (grind arith)

pub is_charge : (x : Prim) (b : ℕ) → (b ≡ 43) ⊎ (b ≡ 45) → KindAt b x → (s : Signs) × (x ≡ charge s)
is_charge x b sign (at_stereo s e k) = absurd (grind arith)
is_charge x b sign (at_atomic ds e k) = absurd (grind arith)
is_charge x b sign (at_charge s e k) = (s, e)
is_charge x b sign (at_mass ds e k) = absurd (let low = k.0 in grind arith)
is_charge x b sign (at_part text e k) = absurd (grind arith)
is_charge x b sign (at_letter h k) = absurd (grind arith)

pub is_mass : (x : Prim) (b : ℕ) → IsDigit b → KindAt b x → (ds : List ℕ) × (x ≡ mass ds)
is_mass x b digit (at_stereo s e k) = absurd (let high = digit.1 in omega arith)
is_mass x b digit (at_atomic ds e k) = absurd (let low = digit.0 in omega arith)
is_mass x b digit (at_charge s e k) = absurd (let low = digit.0 in grind arith)
is_mass x b digit (at_mass ds e k) = (ds, e)
is_mass x b digit (at_part text e k) = absurd (let low = digit.0 in omega arith)
is_mass x b digit (at_letter h k) = absurd (let high = digit.1 in let low = digit.0 in grind arith)
