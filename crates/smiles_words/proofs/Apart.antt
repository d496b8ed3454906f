-- What SMILES owes the walk: first bytes tell its atoms and bond symbols apart, and what is spelled alike is the same,
-- where what follows may follow.
use Rattle.std.proofs.Common.{◌≡◌, ℕ, List, [], ◌∷◌, ◌++◌, cond, ◌==◌, refl, sym, ◌∙◌, ap}
use Rattle.chem_core.specs.Organic.{Organic, boron, carbon, nitrogen, oxygen, phosphorus, sulfur, fluorine, chlorine, bromine, iodine, symbol_bytes}
use Rattle.line_walk.specs.Follow.{Begins, IsApart}
use Rattle.smiles_words.specs.Atom.{Lower, lower_b, lower_c, lower_n, lower_o, lower_p, lower_s, lower_se, lower_as, lower_bytes, IsOrganicLower, AtomText, star, organic, aromatic, bracket, atom_text, IsAtomText}
use Rattle.smiles_words.specs.Follow.{IsOneOf}
use Rattle.smiles_words.specs.Words.{BondText, minus, equals, hash, dollar, colon, slash, backslash, bond_text, atom_bytes, bond_bytes, smiles_words}
use Rattle.smiles_words.proofs.Bytes.{share_none, no_walk, is_one_of}
use Rattle.smiles_words.proofs.Unique.{same_atom}

organic_first : (x : Organic) → Begins (IsOneOf atom_bytes) (symbol_bytes x)
organic_first boron = is_one_of atom_bytes 66 refl
organic_first carbon = is_one_of atom_bytes 67 refl
organic_first nitrogen = is_one_of atom_bytes 78 refl
organic_first oxygen = is_one_of atom_bytes 79 refl
organic_first phosphorus = is_one_of atom_bytes 80 refl
organic_first sulfur = is_one_of atom_bytes 83 refl
organic_first fluorine = is_one_of atom_bytes 70 refl
organic_first chlorine = is_one_of atom_bytes 67 refl
organic_first bromine = is_one_of atom_bytes 66 refl
organic_first iodine = is_one_of atom_bytes 73 refl

lower_first : (x : Lower) → IsOrganicLower x → Begins (IsOneOf atom_bytes) (lower_bytes x)
lower_first lower_b is = is_one_of atom_bytes 98 refl
lower_first lower_c is = is_one_of atom_bytes 99 refl
lower_first lower_n is = is_one_of atom_bytes 110 refl
lower_first lower_o is = is_one_of atom_bytes 111 refl
lower_first lower_p is = is_one_of atom_bytes 112 refl
lower_first lower_s is = is_one_of atom_bytes 115 refl
lower_first lower_se is = absurd is
lower_first lower_as is = absurd is

atom_first : (x : AtomText) → IsAtomText x → Begins (IsOneOf atom_bytes) (atom_text x)
atom_first star is = is_one_of atom_bytes 42 refl
atom_first (organic x) is = organic_first x
atom_first (aromatic x) is = lower_first x is
atom_first (bracket x) is = is_one_of atom_bytes 91 refl

bond_first : (x : BondText) → Begins (IsOneOf bond_bytes) (bond_text x)
bond_first minus = is_one_of bond_bytes 45 refl
bond_first equals = is_one_of bond_bytes 61 refl
bond_first hash = is_one_of bond_bytes 35 refl
bond_first dollar = is_one_of bond_bytes 36 refl
bond_first colon = is_one_of bond_bytes 58 refl
bond_first slash = is_one_of bond_bytes 47 refl
bond_first backslash = is_one_of bond_bytes 92 refl

abbrev bond_from : List ℕ → BondText
bond_from [] = minus
bond_from (b ∷ bs) =
    cond (b == 45) minus (cond (b == 61) equals
    (cond (b == 35) hash (cond (b == 36) dollar (cond (b == 58) colon (cond (b == 47) slash backslash)))))

bond_is : (x : BondText) (r : List ℕ) → bond_from (bond_text x ++ r) ≡ x
bond_is minus r = refl
bond_is equals r = refl
bond_is hash r = refl
bond_is dollar r = refl
bond_is colon r = refl
bond_is slash r = refl
bond_is backslash r = refl

pub smiles_apart : IsApart smiles_words
smiles_apart = record {
  atom_begins = atom_first;
  bond_begins = λ x _. bond_first x;
  atom_or_bond = λ b p q. share_none atom_bytes bond_bytes b refl p q;
  atom_or_walk = λ b p q. no_walk atom_bytes b refl p q;
  bond_or_walk = λ b p q. no_walk bond_bytes b refl p q;
  one_atom = λ x y r s ix iy hr hs e. (same_atom x y r s ix iy hr hs e).0;
  one_bond = λ x y r s _ _ _ _ e. sym (bond_is x r) ∙ ap bond_from e ∙ bond_is y s;
}
