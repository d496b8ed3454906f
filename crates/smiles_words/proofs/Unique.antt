-- Atoms that are spelled alike are the same, where what follows them may follow.
use Rattle.std.proofs.Common.{◌≡◌, ℕ, ◌<◌, ◌≤◌, ◌⊎◌, inl, inr, cond, ◌==◌, ◌&&◌, List, [], ◌∷◌, ◌++◌, refl, sym, ◌∙◌, ap, arith}
use Rattle.chem_core.specs.Organic.{Organic, boron, carbon, nitrogen, oxygen, phosphorus, sulfur, fluorine, chlorine, bromine, iodine, symbol_bytes, atomic_number}
use Rattle.line_walk.specs.Follow.{AfterAtom}
use Rattle.smiles_words.specs.Atom.{Lower, lower_bytes, AtomText, star, organic, aromatic, bracket, atom_text, IsAtomText}
use Rattle.smiles_words.specs.Words.{smiles_words}
use Rattle.smiles_words.proofs.Bytes.{no_second_letter, differ}
use Rattle.smiles_words.proofs.Symbols.{same_small, lower_first}
use Rattle.smiles_words.proofs.BracketEnds.{same_bracket}

-- the organic subset
abbrev letter : ℕ → Organic
letter a = cond (a == 66) boron
    (cond (a == 67) carbon (cond (a == 78) nitrogen
    (cond (a == 79) oxygen (cond (a == 80) phosphorus (cond (a == 83) sulfur (cond (a == 70) fluorine iodine))))))

abbrev pub organic_read : List ℕ → Organic × List ℕ
organic_read [] = (boron, [])
organic_read (a ∷ []) = (letter a, [])
organic_read (a ∷ b ∷ r) = cond ((a == 67) && (b == 108)) (chlorine, r) (cond ((a == 66) && (b == 114)) (
  bromine,
  r,
) (letter a, b ∷ r))

organic_is : (x : Organic) (r : List ℕ) → AfterAtom smiles_words r → organic_read (symbol_bytes x ++ r) ≡ (x, r)
organic_is boron [] h = refl
organic_is boron (c ∷ cs) h = ap (λ w. cond w (let p : Organic × List ℕ = (bromine, cs) in p) (boron, c ∷ cs))
    (differ c 114 (no_second_letter c cs h).1)
organic_is carbon [] h = refl
organic_is carbon (c ∷ cs) h = ap (λ w. cond w (let p : Organic × List ℕ = (chlorine, cs) in p) (carbon, c ∷ cs))
    (differ c 108 (no_second_letter c cs h).0)
organic_is nitrogen [] h = refl
organic_is nitrogen (c ∷ cs) h = refl
organic_is oxygen [] h = refl
organic_is oxygen (c ∷ cs) h = refl
organic_is phosphorus [] h = refl
organic_is phosphorus (c ∷ cs) h = refl
organic_is sulfur [] h = refl
organic_is sulfur (c ∷ cs) h = refl
organic_is fluorine [] h = refl
organic_is fluorine (c ∷ cs) h = refl
organic_is iodine [] h = refl
organic_is iodine (c ∷ cs) h = refl
organic_is chlorine r h = refl
organic_is bromine r h = refl

pub organic_only : (y x : Organic) (bytes r rest : List ℕ) → organic_read bytes ≡ (y, r) → AfterAtom smiles_words rest
    → bytes ≡ symbol_bytes x ++ rest → (r ≡ rest) × (atomic_number y ≡ atomic_number x)
organic_only y x bytes r rest k after h =
    let e : (y, r) ≡ (x, rest) = sym k ∙ ap organic_read h ∙ organic_is x rest after in
    (ap (λ (p : Organic × List ℕ). p.1) e, ap (λ (p : Organic × List ℕ). atomic_number p.0) e)

same_organic : (x y : Organic) (a b : List ℕ) → AfterAtom smiles_words a → AfterAtom smiles_words b → symbol_bytes x
    ++ a ≡ symbol_bytes y ++ b → (x ≡ y) × (a ≡ b)
same_organic x y a b fa fb h =
    let e = sym (organic_is x a fa) ∙ ap organic_read h ∙ organic_is y b fb in
    (ap (λ (p : Organic × List ℕ). p.0) e, ap (λ (p : Organic × List ℕ). p.1) e)

organic_first : (x : Organic) → (b : ℕ) × (bs : List ℕ) × (symbol_bytes x ≡ b ∷ bs) × (66 ≤ b) × (b ≤ 83)
organic_first boron = (66, [], refl, omega arith, omega arith)
organic_first carbon = (67, [], refl, omega arith, omega arith)
organic_first nitrogen = (78, [], refl, omega arith, omega arith)
organic_first oxygen = (79, [], refl, omega arith, omega arith)
organic_first phosphorus = (80, [], refl, omega arith, omega arith)
organic_first sulfur = (83, [], refl, omega arith, omega arith)
organic_first fluorine = (70, [], refl, omega arith, omega arith)
organic_first chlorine = (67, 108 ∷ [], refl, omega arith, omega arith)
organic_first bromine = (66, 114 ∷ [], refl, omega arith, omega arith)
organic_first iodine = (73, [], refl, omega arith, omega arith)

pub heads : (x y : ℕ) (xs ys : List ℕ) → x ∷ xs ≡ y ∷ ys → x ≡ y
heads x y xs ys h = cc

pub tails : (x y : ℕ) (xs ys : List ℕ) → x ∷ xs ≡ y ∷ ys → xs ≡ ys
tails x y xs ys h = cc

-- what an atom begins with, by its form
pub not_organic : (b : ℕ) (bs a : List ℕ) (x : Organic) → (b < 66) ⊎ (83 < b) → b ∷ bs ≡ symbol_bytes x ++ a → ⊥
not_organic b bs a x out h =
    let u = organic_first x in
    let e = heads b u.0 bs (u.1 ++ a) (h ∙ ap (λ w. w ++ a) u.2) in
    let low = u.3 in
    let high = u.4 in
    elim out [ inl l ↦ omega arith | inr l ↦ omega arith ]

pub not_small : (b : ℕ) (bs a : List ℕ) (l : Lower) → b < 97 → b ∷ bs ≡ lower_bytes l ++ a → ⊥
not_small b bs a l out h =
    let u = lower_first l in
    let e = heads b u.0 bs (u.1 ++ a) (h ∙ ap (λ w. w ++ a) u.2) in
    let low = u.3 in
    omega arith

pub organic_not_small : (x : Organic) (l : Lower) (a b : List ℕ) → symbol_bytes x ++ a ≡ lower_bytes l ++ b → ⊥
organic_not_small x l a b h =
    let u = organic_first x in
    let high = u.4 in
    not_small u.0 (u.1 ++ a) b l (omega arith) (sym (ap (λ w. w ++ a) u.2) ∙ h)

pub same_atom : (x y : AtomText) (a b : List ℕ) → IsAtomText x → IsAtomText y → AfterAtom smiles_words a
    → AfterAtom smiles_words b → atom_text x ++ a ≡ atom_text y ++ b → (x ≡ y) × (a ≡ b)
same_atom star star a b ix iy fa fb h = (refl, tails 42 42 a b h)
same_atom star (organic y) a b ix iy fa fb h = absurd (not_organic 42 a b y (inl (omega arith)) h)
same_atom star (aromatic y) a b ix iy fa fb h = absurd (not_small 42 a b y (omega arith) h)
same_atom star (bracket y) a b ix iy fa fb h = absurd (let e = heads 42 91 a _ h in omega (arith, e))
same_atom (organic x) star a b ix iy fa fb h = absurd (not_organic 42 b a x (inl (omega arith)) (sym h))
same_atom (organic x) (organic y) a b ix iy fa fb h = let p = same_organic x y a b fa fb h in
    (ap (λ w. organic w) p.0, p.1)
same_atom (organic x) (aromatic y) a b ix iy fa fb h = absurd (organic_not_small x y a b h)
same_atom (organic x) (bracket y) a b ix iy fa fb h = absurd (not_organic 91 _ a x (inr (omega arith)) (sym h))
same_atom (aromatic x) star a b ix iy fa fb h = absurd (not_small 42 b a x (omega arith) (sym h))
same_atom (aromatic x) (organic y) a b ix iy fa fb h = absurd (organic_not_small y x b a (sym h))
same_atom (aromatic x) (aromatic y) a b ix iy fa fb h = let p = same_small x y a b ix iy h in
    (ap (λ w. aromatic w) p.0, p.1)
same_atom (aromatic x) (bracket y) a b ix iy fa fb h = absurd (not_small 91 _ a x (omega arith) (sym h))
same_atom (bracket x) star a b ix iy fa fb h = absurd (let e = heads 42 91 b _ (sym h) in omega (arith, e))
same_atom (bracket x) (organic y) a b ix iy fa fb h = absurd (not_organic 91 _ b y (inr (omega arith)) h)
same_atom (bracket x) (aromatic y) a b ix iy fa fb h = absurd (not_small 91 _ b y (omega arith) h)
same_atom (bracket x) (bracket y) a b ix iy fa fb h = let p = same_bracket x y a b ix iy h in
    (ap (λ w. bracket w) p.0, p.1)
