-- For private clauses alone: the classes of atoms at which an expression may be true.
use Rattle.std.specs.Prelude.{◌≡◌, ◌⊎◌, ℕ, ◌<◌, Bool, true, false, ◌==◌, bit_or}
use Rattle.std.specs.Int.{bit_at}
use Rattle.chem_core.specs.declared.mol.Atom.{Atom}
use Rattle.chem_core.specs.Symbols.{class_at, class_of}
use Rattle.smarts_parse.specs.declared.pattern.AtomPrim.{AtomPrim}
use Rattle.smarts_parse.specs.declared.pattern.AtomPrim.TheVariants as atoms
use Rattle.smarts_parse.specs.Pattern.{Term, Prim, Not, And, Or}
use Rattle.matcher.specs.declared.plan.EarlierBonds.{EarlierBonds}

-- the primitive may be true at an atom of class c, as far as the class shows
abbrev pub PrimMayBe : AtomPrim → ℕ → Type 0
PrimMayBe (atoms.Symbol number lower) c = c ≡ class_at number lower
PrimMayBe (atoms.Number number) c = (c ≡ class_at number false) ⊎ (c ≡ class_at number true)
PrimMayBe _ c = Unit {0}

-- the expression may be true at an atom of class c, as far as the class shows
abbrev pub MayBe : Term AtomPrim → ℕ → Type 0
MayBe (Prim p) c = PrimMayBe p c
MayBe (Not e) c = Unit {0}
MayBe (And e f) c = MayBe e c × MayBe f c
MayBe (Or e f) c = MayBe e c ⊎ MayBe f c

-- the bits of a word have each class at which the expression may be true
abbrev pub Covers : ℕ → Term AtomPrim → Type 0
Covers classes e = (c : ℕ) → c < 64 → MayBe e c → bit_at classes c ≡ 1

-- a step has no classes but these
abbrev pub is_within : ℕ → EarlierBonds → Bool
is_within classes step = bit_or step.classes classes == classes

-- the atom is of one of the classes
abbrev pub is_among : ℕ → Atom → Bool
is_among classes x = bit_at classes (class_of x) == 1
