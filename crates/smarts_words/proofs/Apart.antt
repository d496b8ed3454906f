-- What SMARTS owes the walk: first bytes tell atoms, bonds and the walk's own bytes apart, and what is spelled alike is
-- the same.
use Rattle.std.proofs.Common.{◌≡◌, ◌≢◌, ◌⊎◌, inl, inr, ℕ, zero, suc, ◌≤◌, true, false, cond, ◌==◌, List, [], ◌∷◌, ◌++◌, replicate, refl, sym, ◌∙◌, ap, subst, arith}
use Rattle.std.proofs.lemmas.Bool.Decides.{nat_tests}
use Rattle.chem_core.specs.Organic.{Organic, boron, carbon, nitrogen, oxygen, phosphorus, sulfur, fluorine, chlorine, bromine, iodine, symbol_bytes}
use Rattle.smiles_words.specs.Atom.{Lower, lower_b, lower_c, lower_n, lower_o, lower_p, lower_s, lower_se, lower_as, lower_bytes}
use Rattle.line_walk.specs.Follow.{BeginsNumber, IsWalkByte, Begins, AfterAtom, AfterBond, IsApart}
use Rattle.smarts_words.specs.Expression.{Joining, Operand, Expression}
use Rattle.smarts_words.specs.Expression as expression
use Rattle.smarts_words.specs.Bonds.{BondPrim, single, double, triple, quadruple, aromatic, any, ring, up, down, bond_prim_text, IsBondPrim, FollowsBondPrim, bond_word, no_part, bond_text, IsBondExpression, BeginsBond}
use Rattle.smarts_words.specs.Bracket as brackets
use Rattle.smarts_words.specs.Bracket.{Atom, atom_text, IsAtom}
use Rattle.smarts_words.specs.Words.{smarts_words, BeginsAtom, IsBond}
use Rattle.smarts_words.specs.State.{EndsBond}
use Rattle.smarts_words.proofs.Expressions.{same_expression}
use Rattle.smarts_words.proofs.BracketRead.{one_bracket, organic_first, lower_first}
use Rattle.smarts_words.proofs.BondRead.{first_of, bond_apart}

-- a byte that begins an atom is `*`, `[` or a letter
record IsAtomByte (b : ℕ) : Type 0 where
  is : (b ≡ 42) ⊎ ((65 ≤ b) × (b ≤ 115) × (b ≢ 92))

atom_byte : (b : ℕ) → BeginsAtom b → IsAtomByte b
atom_byte b h = record { is = grind arith }

atom_bond : (b : ℕ) → IsAtomByte b → BeginsBond b → ⊥
atom_bond b h k = let i = h.is in grind arith

atom_walk : (b : ℕ) → IsAtomByte b → IsWalkByte b → ⊥
atom_walk b h k = let i = h.is in grind arith

bond_walk : (b : ℕ) → BeginsBond b → IsWalkByte b → ⊥
bond_walk b h k = grind arith

-- bonds
pub bond_begins : (e : Expression BondPrim) → Begins BeginsBond (bond_text e)
bond_begins e = by e.first.bangs e.first.prim
  where
    more : List ℕ
    more = expression.more_text bond_prim_text IsBondPrim FollowsBondPrim bond_word no_part e.more

    by : (n : ℕ) (p : BondPrim) → Begins BeginsBond ((replicate n 33 ++ bond_prim_text p) ++ more)
    by zero p = let f = first_of p in subst (λ (v : List ℕ). Begins BeginsBond (v ++ more)) (sym f.spelled) f.begins
    by (suc n) p = inl refl

no_mark : (b : ℕ) → b ≢ 63 → (b == 63) ≡ false
no_mark b h = grind (arith, nat_tests)

prim_back : List ℕ → BondPrim
prim_back [] = single
prim_back (a ∷ []) = cond (a == 45) single
    (cond (a == 61) double (cond (a == 35) triple
    (cond (a == 36) quadruple (cond (a == 58) aromatic
    (cond (a == 126) any (cond (a == 64) ring (cond (a == 47) (up false) (down false))))))))
prim_back (a ∷ b ∷ r) =
    cond (a == 45) single (cond (a == 61) double
    (cond (a == 35) triple (cond (a == 36) quadruple
    (cond (a == 58) aromatic (cond (a == 126) any
    (cond (a == 64) ring (cond (a == 47) (cond (b == 63) (up true) (up false))
    (cond (b == 63) (down true) (down false)))))))))

back_is : (p : BondPrim) (r : List ℕ) → FollowsBondPrim p r → prim_back (bond_prim_text p ++ r) ≡ p
unfolding prim_back
back_is single [] f = refl
back_is single (b ∷ r) f = refl
back_is double [] f = refl
back_is double (b ∷ r) f = refl
back_is triple [] f = refl
back_is triple (b ∷ r) f = refl
back_is quadruple [] f = refl
back_is quadruple (b ∷ r) f = refl
back_is aromatic [] f = refl
back_is aromatic (b ∷ r) f = refl
back_is any [] f = refl
back_is any (b ∷ r) f = refl
back_is ring [] f = refl
back_is ring (b ∷ r) f = refl
back_is (up true) r f = refl
back_is (up false) [] f = refl
back_is (up false) (b ∷ r) f = ap (λ v. cond v (up true) (up false)) (no_mark b (λ e. f r (ap (λ v. v ∷ r) e)))
back_is (down true) r f = refl
back_is (down false) [] f = refl
back_is (down false) (b ∷ r) f = ap (λ v. cond v (down true) (down false)) (no_mark b (λ e. f r (ap (λ v. v ∷ r) e)))

one_bond_prim : (p q : BondPrim) (r s : List ℕ) → IsBondPrim p → IsBondPrim q → FollowsBondPrim p r
    → FollowsBondPrim q s → bond_prim_text p ++ r ≡ bond_prim_text q ++ s → p ≡ q
one_bond_prim p q r s ip iq f g h = sym (back_is p r f) ∙ ap prim_back h ∙ back_is q s g

after_mark : (b : ℕ) (bs more : List ℕ) → BeginsAtom b ⊎ BeginsNumber b → b ∷ bs ≢ 63 ∷ more
after_mark b bs more h e = let k : b ≡ 63 = cc in grind arith

follows_more : (p : BondPrim) (w r : List ℕ) → ((more : List ℕ) → r ≢ 63 ∷ more) → FollowsBondPrim p (w ++ [])
    → FollowsBondPrim p (w ++ r)
follows_more single w r n f = tt
follows_more double w r n f = tt
follows_more triple w r n f = tt
follows_more quadruple w r n f = tt
follows_more aromatic w r n f = tt
follows_more any w r n f = tt
follows_more ring w r n f = tt
follows_more (up true) w r n f = tt
follows_more (up false) [] r n f = n
follows_more (up false) (x ∷ xs) r n f = λ more e. let k : x ≡ 63 = cc in f (xs ++ []) (ap (λ v. v ∷ (xs ++ [])) k)
follows_more (down true) w r n f = tt
follows_more (down false) [] r n f = n
follows_more (down false) (x ∷ xs) r n f = λ more e. let k : x ≡ 63 = cc in f (xs ++ []) (ap (λ v. v ∷ (xs ++ [])) k)

more_more : (xs : List (Joining × Operand BondPrim)) (r : List ℕ) → ((more : List ℕ) → r ≢ 63 ∷ more)
    → expression.AreMore bond_prim_text IsBondPrim FollowsBondPrim bond_word no_part xs []
    → expression.AreMore bond_prim_text IsBondPrim FollowsBondPrim bond_word no_part xs r
more_more [] r n h = tt
more_more (x ∷ xs) r n h = (
  tt,
  follows_more x.1.prim (expression.more_text bond_prim_text IsBondPrim FollowsBondPrim
      bond_word no_part xs) r n h.1,
  more_more xs r n h.2,
)

-- what may follow a bond does not belong to it
pub bond_more : (e : Expression BondPrim) (r : List ℕ) → ((more : List ℕ) → r ≢ 63 ∷ more) → IsBond e
    → IsBondExpression e r
bond_more e r n h = (
  tt,
  follows_more e.first.prim (expression.more_text bond_prim_text IsBondPrim FollowsBondPrim
      bond_word no_part e.more) r n h.1,
  more_more e.more r n h.2,
)

pub after_no_mark : (r : List ℕ) → AfterBond smarts_words r → (more : List ℕ) → r ≢ 63 ∷ more
after_no_mark [] h more e = absurd h
after_no_mark (b ∷ bs) h more e = after_mark b bs more h e

ends_by : (b : ℕ) → BeginsAtom b ⊎ BeginsNumber b → (¬ BeginsBond b) × (b ≢ 59) × (b ≢ 44) × (b ≢ 38)
ends_by b (inl h) = let i = (atom_byte b h).is in (
  λ k. atom_bond b (atom_byte b h) k,
  λ e. grind arith,
  λ e. grind arith,
  λ e. grind arith,
)
ends_by b (inr h) = (λ k. bond_walk b k (inr (inr (inr h))), λ e. grind arith, λ e. grind arith, λ e. grind arith)

pub after_ends : (r : List ℕ) → AfterBond smarts_words r → EndsBond r
after_ends [] h = absurd h
after_ends (b ∷ bs) h = ends_by b h

pub one_bond : (x y : Expression BondPrim) (r s : List ℕ) → IsBond x → IsBond y → AfterBond smarts_words r
    → AfterBond smarts_words s → bond_text x ++ r ≡ bond_text y ++ s → x ≡ y
one_bond x y r s is js ar br e =
    (same_expression bond_prim_text IsBondPrim FollowsBondPrim bond_word no_part EndsBond bond_apart one_bond_prim x y r
    s (bond_more x r (after_no_mark r ar) is) (bond_more y s (after_no_mark s br) js) (after_ends r ar)
    (after_ends s br) e).0

follows_less : (p : BondPrim) (w r : List ℕ) → FollowsBondPrim p (w ++ r) → FollowsBondPrim p (w ++ [])
follows_less single w r f = tt
follows_less double w r f = tt
follows_less triple w r f = tt
follows_less quadruple w r f = tt
follows_less aromatic w r f = tt
follows_less any w r f = tt
follows_less ring w r f = tt
follows_less (up true) w r f = tt
follows_less (up false) [] r f = λ more e. cc
follows_less (up false) (x ∷ xs) r f = λ more e. let k : x ≡ 63 = cc in f (xs ++ r) (ap (λ v. v ∷ (xs ++ r)) k)
follows_less (down true) w r f = tt
follows_less (down false) [] r f = λ more e. cc
follows_less (down false) (x ∷ xs) r f = λ more e. let k : x ≡ 63 = cc in f (xs ++ r) (ap (λ v. v ∷ (xs ++ r)) k)

more_less : (xs : List (Joining × Operand BondPrim)) (r : List ℕ) → expression.AreMore bond_prim_text IsBondPrim
    FollowsBondPrim bond_word no_part xs r → expression.AreMore bond_prim_text IsBondPrim FollowsBondPrim bond_word
    no_part xs []
more_less [] r h = tt
more_less (x ∷ xs) r h = (
  tt,
  follows_less x.1.prim (expression.more_text bond_prim_text IsBondPrim FollowsBondPrim
      bond_word no_part xs) r h.1,
  more_less xs r h.2,
)

pub bond_less : (e : Expression BondPrim) (r : List ℕ) → IsBondExpression e r → IsBond e
bond_less e r h = (
  tt,
  follows_less e.first.prim (expression.more_text bond_prim_text IsBondPrim FollowsBondPrim
      bond_word no_part e.more) r h.1,
  more_less e.more r h.2,
)

-- atoms
organic_begins : (x : Organic) → Begins BeginsAtom (symbol_bytes x)
organic_begins boron = grind arith
organic_begins carbon = grind arith
organic_begins nitrogen = grind arith
organic_begins oxygen = grind arith
organic_begins phosphorus = grind arith
organic_begins sulfur = grind arith
organic_begins fluorine = grind arith
organic_begins chlorine = grind arith
organic_begins bromine = grind arith
organic_begins iodine = grind arith

lower_begins : (x : Lower) → Begins BeginsAtom (lower_bytes x)
lower_begins lower_b = grind arith
lower_begins lower_c = grind arith
lower_begins lower_n = grind arith
lower_begins lower_o = grind arith
lower_begins lower_p = grind arith
lower_begins lower_s = grind arith
lower_begins lower_se = grind arith
lower_begins lower_as = grind arith

atom_begins : (x : Atom) → Begins BeginsAtom (atom_text x)
atom_begins brackets.star = inl refl
atom_begins brackets.aromatic = inr (inr (inl refl))
atom_begins brackets.aliphatic = inr (inr (inr (inl refl)))
atom_begins (brackets.organic x) = organic_begins x
atom_begins (brackets.lower x) = lower_begins x
atom_begins (brackets.bracket x) = inr (inl refl)

heads : (a b : ℕ) (r s : List ℕ) → a ∷ r ≡ b ∷ s → (a ≡ b) × (r ≡ s)
heads a b r s e = (cc, cc)

-- an atom without brackets, from its bytes
abbrev Bare : Atom → Type 0
Bare (brackets.bracket x) = ⊥
Bare _ = Unit {0}

lower_of : ℕ → Atom
lower_of a = cond (a == 98) (brackets.lower lower_b) (cond (a == 99) (brackets.lower lower_c)
    (cond (a == 110) (brackets.lower lower_n) (cond (a == 111) (brackets.lower lower_o)
    (cond (a == 112) (brackets.lower lower_p) (brackets.lower lower_s)))))

letter_atom : ℕ → Atom
letter_atom a =
    cond (a == 42) brackets.star (cond (a == 97) brackets.aromatic
    (cond (a == 65) brackets.aliphatic (cond (a == 66) (brackets.organic boron)
    (cond (a == 67) (brackets.organic carbon) (cond (a == 78) (brackets.organic nitrogen)
    (cond (a == 79) (brackets.organic oxygen) (cond (a == 80) (brackets.organic phosphorus)
    (cond (a == 83) (brackets.organic sulfur) (cond (a == 70) (brackets.organic fluorine)
    (cond (a == 73) (brackets.organic iodine) (lower_of a)))))))))))

atom_back : List ℕ → Atom
atom_back [] = brackets.star
atom_back (a ∷ []) = letter_atom a
atom_back (a ∷ b ∷ r) = cond (a == 67) (cond (b == 108) (brackets.organic chlorine) (brackets.organic carbon))
    (cond (a == 66) (cond (b == 114) (brackets.organic bromine) (brackets.organic boron)) (letter_atom a))

no_second : (b k : ℕ) → b ≢ k → (b == k) ≡ false
no_second b k h = grind (arith, nat_tests)

-- no second letter of a symbol follows an atom
second_by : (b : ℕ) → IsWalkByte b ⊎ BeginsBond b ⊎ BeginsAtom b → (b ≢ 108) × (b ≢ 114)
second_by b h = (λ e. grind arith, λ e. grind arith)

back_atom : (x : Atom) (r : List ℕ) → IsAtom x → Bare x → AfterAtom smarts_words r → atom_back (atom_text x ++ r) ≡ x
unfolding atom_back letter_atom lower_of
back_atom brackets.star [] is bare h = refl
back_atom brackets.star (b ∷ r) is bare h = refl
back_atom brackets.aromatic [] is bare h = refl
back_atom brackets.aromatic (b ∷ r) is bare h = refl
back_atom brackets.aliphatic [] is bare h = refl
back_atom brackets.aliphatic (b ∷ r) is bare h = refl
back_atom (brackets.organic boron) [] is bare h = refl
back_atom (brackets.organic boron) (b ∷ r) is bare h =
    ap (λ v. cond v (brackets.organic bromine) (brackets.organic boron)) (no_second b 114 (second_by b h).1)
back_atom (brackets.organic carbon) [] is bare h = refl
back_atom (brackets.organic carbon) (b ∷ r) is bare h =
    ap (λ v. cond v (brackets.organic chlorine) (brackets.organic carbon)) (no_second b 108 (second_by b h).0)
back_atom (brackets.organic nitrogen) [] is bare h = refl
back_atom (brackets.organic nitrogen) (b ∷ r) is bare h = refl
back_atom (brackets.organic oxygen) [] is bare h = refl
back_atom (brackets.organic oxygen) (b ∷ r) is bare h = refl
back_atom (brackets.organic phosphorus) [] is bare h = refl
back_atom (brackets.organic phosphorus) (b ∷ r) is bare h = refl
back_atom (brackets.organic sulfur) [] is bare h = refl
back_atom (brackets.organic sulfur) (b ∷ r) is bare h = refl
back_atom (brackets.organic fluorine) [] is bare h = refl
back_atom (brackets.organic fluorine) (b ∷ r) is bare h = refl
back_atom (brackets.organic iodine) [] is bare h = refl
back_atom (brackets.organic iodine) (b ∷ r) is bare h = refl
back_atom (brackets.organic chlorine) r is bare h = refl
back_atom (brackets.organic bromine) r is bare h = refl
back_atom (brackets.lower lower_b) [] is bare h = refl
back_atom (brackets.lower lower_b) (b ∷ r) is bare h = refl
back_atom (brackets.lower lower_c) [] is bare h = refl
back_atom (brackets.lower lower_c) (b ∷ r) is bare h = refl
back_atom (brackets.lower lower_n) [] is bare h = refl
back_atom (brackets.lower lower_n) (b ∷ r) is bare h = refl
back_atom (brackets.lower lower_o) [] is bare h = refl
back_atom (brackets.lower lower_o) (b ∷ r) is bare h = refl
back_atom (brackets.lower lower_p) [] is bare h = refl
back_atom (brackets.lower lower_p) (b ∷ r) is bare h = refl
back_atom (brackets.lower lower_s) [] is bare h = refl
back_atom (brackets.lower lower_s) (b ∷ r) is bare h = refl
back_atom (brackets.lower lower_se) r is bare h = absurd is
back_atom (brackets.lower lower_as) r is bare h = absurd is
back_atom (brackets.bracket x) r is bare h = absurd bare

bare_no_bracket : (x : Atom) (r s : List ℕ) → IsAtom x → Bare x → atom_text x ++ r ≡ 91 ∷ s → ⊥
bare_no_bracket brackets.star r s is bare e = absurd (let k = (heads 42 91 r s e).0 in omega arith)
bare_no_bracket brackets.aromatic r s is bare e = absurd (let k = (heads 97 91 r s e).0 in omega arith)
bare_no_bracket brackets.aliphatic r s is bare e = absurd (let k = (heads 65 91 r s e).0 in omega arith)
bare_no_bracket (brackets.organic x) r s is bare e = organic_first x s r (sym e)
bare_no_bracket (brackets.lower x) r s is bare e = lower_first x s r (sym e)
bare_no_bracket (brackets.bracket x) r s is bare e = absurd bare

bares : (x y : Atom) (r s : List ℕ) → IsAtom x → IsAtom y → Bare x → Bare y → AfterAtom smarts_words r
    → AfterAtom smarts_words s → atom_text x ++ r ≡ atom_text y ++ s → x ≡ y
bares x y r s is js bx by ar br e = sym (back_atom x r is bx ar) ∙ ap atom_back e ∙ back_atom y s js by br

-- an atom is bare or a bracket
data Form (x : Atom) : Type 0 where
  bare : Bare x → Form x
  in_brackets : (b : brackets.Bracket) → x ≡ brackets.bracket b → Form x

form_of : (x : Atom) → Form x
form_of brackets.star = bare tt
form_of brackets.aromatic = bare tt
form_of brackets.aliphatic = bare tt
form_of (brackets.organic x) = bare tt
form_of (brackets.lower x) = bare tt
form_of (brackets.bracket b) = in_brackets b refl

one_by : (x y : Atom) (r s : List ℕ) → Form x → Form y → IsAtom x → IsAtom y → AfterAtom smarts_words r
    → AfterAtom smarts_words s → atom_text x ++ r ≡ atom_text y ++ s → x ≡ y
one_by x y r s (bare bx) (bare by) is js ar br e = bares x y r s is js bx by ar br e
one_by x y r s (bare bx) (in_brackets b f) is js ar br e =
    absurd (bare_no_bracket x r _ is bx (e ∙ ap (λ v. atom_text v ++ s) f))
one_by x y r s (in_brackets a f) (bare by) is js ar br e =
    absurd (bare_no_bracket y s _ js by (sym e ∙ ap (λ v. atom_text v ++ r) f))
one_by x y r s (in_brackets a f) (in_brackets b g) is js ar br e =
    f ∙ ap (λ v. brackets.bracket v) (one_bracket a b r s (subst IsAtom f is) (subst IsAtom g js)
    (sym (ap (λ v. atom_text v ++ r) f) ∙ e ∙ ap (λ v. atom_text v ++ s) g)) ∙ sym g

one_atom : (x y : Atom) (r s : List ℕ) → IsAtom x → IsAtom y → AfterAtom smarts_words r → AfterAtom smarts_words s
    → atom_text x ++ r ≡ atom_text y ++ s → x ≡ y
one_atom x y r s is js ar br e = one_by x y r s (form_of x) (form_of y) is js ar br e

pub smarts_apart : IsApart smarts_words
smarts_apart = record {
  atom_begins = λ x _. atom_begins x;
  bond_begins = λ x _. bond_begins x;
  atom_or_bond = λ b h k. atom_bond b (atom_byte b h) k;
  atom_or_walk = λ b h k. atom_walk b (atom_byte b h) k;
  bond_or_walk = bond_walk;
  one_atom = one_atom;
  one_bond = one_bond;
}
