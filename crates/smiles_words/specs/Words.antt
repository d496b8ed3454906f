-- The words of SMILES (OpenSMILES 1.0, sections 3 and 4): its atoms and bond symbols, their values, and the agreement
-- of two bonds of one ring number. `line_walk` defines the texts that are written with them. For callers.
use Rattle.std.specs.Prelude.{ℕ, List, [], ◌∷◌, Option, None, Some, codes}
use Rattle.chem_core.specs.declared.sketch.SketchAtom.{SketchAtom}
use Rattle.chem_core.specs.declared.sketch.SketchKind.{SketchKind}
use Rattle.chem_core.specs.declared.sketch.SketchKind.TheVariants as kinds
use Rattle.line_walk.specs.Words.{Words}
use Rattle.line_walk.specs.Tree as walk
use Rattle.smiles_words.specs.Atom.{AtomText, atom_text, IsAtomText, atom_of}
use Rattle.smiles_words.specs.Follow.{IsOneOf}

-- a bond symbol
pub data BondText : Type 0 where
  minus : BondText
  equals : BondText
  hash : BondText
  dollar : BondText
  colon : BondText
  slash : BondText
  backslash : BondText

abbrev pub bond_text : BondText → List ℕ
bond_text minus = codes "-"
bond_text equals = codes "="
bond_text hash = codes "#"
bond_text dollar = codes "$"
bond_text colon = codes ":"
bond_text slash = codes "/"
bond_text backslash = 92 ∷ []

-- every bond symbol is one
abbrev pub IsBondText : BondText → Type 0
IsBondText bond = Unit {0}

-- `/` and `\` are single bonds, whose direction is dropped
abbrev pub kind_of : BondText → SketchKind
kind_of minus = kinds.Single
kind_of equals = kinds.Double
kind_of hash = kinds.Triple
kind_of dollar = kinds.Quad
kind_of colon = kinds.Colon
kind_of slash = kinds.Single
kind_of backslash = kinds.Single

abbrev pub written_kind : Option BondText → SketchKind
written_kind None = kinds.Unwritten
written_kind (Some bond) = kind_of bond

-- the kind of a ring bond by the symbols at its ends: either, or both alike
abbrev pub agreed_kind : SketchKind → SketchKind → Option SketchKind
agreed_kind kinds.Unwritten kind = Some kind
agreed_kind kinds.Single kinds.Unwritten = Some kinds.Single
agreed_kind kinds.Single kinds.Single = Some kinds.Single
agreed_kind kinds.Double kinds.Unwritten = Some kinds.Double
agreed_kind kinds.Double kinds.Double = Some kinds.Double
agreed_kind kinds.Triple kinds.Unwritten = Some kinds.Triple
agreed_kind kinds.Triple kinds.Triple = Some kinds.Triple
agreed_kind kinds.Quad kinds.Unwritten = Some kinds.Quad
agreed_kind kinds.Quad kinds.Quad = Some kinds.Quad
agreed_kind kinds.Colon kinds.Unwritten = Some kinds.Colon
agreed_kind kinds.Colon kinds.Colon = Some kinds.Colon
agreed_kind _ _ = None

-- the bytes that an atom begins with, and those that are bond symbols
abbrev pub atom_bytes : List ℕ
atom_bytes = codes "*[BCFINOPSbcnops"

abbrev pub bond_bytes : List ℕ
bond_bytes = 92 ∷ codes "-=#$:/"

abbrev pub smiles_words : Words SketchAtom SketchKind
smiles_words = record {
  Atom = AtomText;
  Bond = BondText;
  atom_text = atom_text;
  bond_text = bond_text;
  IsAtom = IsAtomText;
  IsBond = IsBondText;
  BeginsAtom = IsOneOf atom_bytes;
  BeginsBond = IsOneOf bond_bytes;
  atom_of = atom_of;
  kind_of = written_kind;
  agreed = agreed_kind;
}

-- the tree of a SMILES (OpenSMILES 1.0, section 4)
abbrev pub Tree : Type 0
Tree = walk.Tree AtomText BondText

-- the text is a SMILES of this tree
abbrev pub IsTreeOf : List ℕ → Tree → Type 0
IsTreeOf text tree = walk.IsTreeOf smiles_words text tree
