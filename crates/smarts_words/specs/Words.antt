-- SMARTS as a language of the walk: its atoms and its bond expressions. For callers.
use Rattle.std.specs.Prelude.{◌≡◌, ◌⊎◌, ℕ, List, []}
use Rattle.line_walk.specs.Words.{Words}
use Rattle.smarts_words.specs.declared.word.BondWord.{BondWord}
use Rattle.smarts_words.specs.declared.word.Step.{Step}
use Rattle.smarts_words.specs.Expression.{Expression}
use Rattle.smarts_words.specs.Bracket.{Atom, atom_text, IsAtom, AtomValue, value_of_atom}
use Rattle.smarts_words.specs.Bonds.{BondPrim, IsBondExpression, bond_text, BeginsBond, bond_value, agreed_bond}

-- `*`, `[`, `a`, `A`, or the first letter of a symbol without brackets
abbrev pub BeginsAtom : ℕ → Type 0
BeginsAtom b =
    (b ≡ 42) ⊎ (b ≡ 91) ⊎ (b ≡ 97) ⊎ (b ≡ 65) ⊎ (b ≡ 66) ⊎ (b ≡ 67) ⊎ (b ≡ 78) ⊎ (b ≡ 79) ⊎ (b ≡ 80) ⊎ (b ≡ 83)
    ⊎ (b ≡ 70) ⊎ (b ≡ 73)
    ⊎ (b ≡ 98) ⊎ (b ≡ 99) ⊎ (b ≡ 110) ⊎ (b ≡ 111) ⊎ (b ≡ 112) ⊎ (b ≡ 115)

-- no byte that may follow a bond belongs to it
abbrev pub IsBond : Expression BondPrim → Type 0
IsBond e = IsBondExpression e []

abbrev pub smarts_words : Words AtomValue (List (Step BondWord))
smarts_words = record {
  Atom = Atom;
  Bond = Expression BondPrim;
  atom_text = atom_text;
  bond_text = bond_text;
  IsAtom = IsAtom;
  IsBond = IsBond;
  BeginsAtom = BeginsAtom;
  BeginsBond = BeginsBond;
  atom_of = value_of_atom;
  kind_of = bond_value;
  agreed = agreed_bond;
}
