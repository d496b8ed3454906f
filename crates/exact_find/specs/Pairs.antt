-- Pairs of atoms on the way to a map. For private clauses alone.
use Rattle.std.specs.Prelude.{◌≡◌, ℕ, ◌<◌, Bool, List, length, map, slice_get, slice_index_or, Some}
use Rattle.chem_core.specs.declared.mol.Atom.{Atom}
use Rattle.chem_core.specs.declared.mol.BondKind.{BondKind}
use Rattle.chem_core.specs.Molecule.{Molecule}
use Rattle.exact_find.specs.Same.{HasBond, IsAlike}

-- f takes the atoms of m to those of n, and g is its inverse; beyond the atoms nothing more is known of them
pub record IsMap (m n : Molecule) (f g : ℕ → ℕ) : Type 0 where
  pub atoms : length m.atoms ≡ length n.atoms
  pub bonds : length m.bonds ≡ length n.bonds
  pub within : (a : ℕ) → a < length m.atoms → f a < length n.atoms
  pub within_back : (a : ℕ) → a < length n.atoms → g a < length m.atoms
  pub back : (a : ℕ) → g (f a) ≡ a
  pub forth : (a : ℕ) → f (g a) ≡ a
  pub alike : (a : ℕ) (x : Atom) → slice_get m.atoms a ≡ Some x
      → (y : Atom) × (slice_get n.atoms (f a) ≡ Some y) × IsAlike x y
  pub kept : (x y : ℕ) (kind : BondKind) → HasBond m x y kind → HasBond n (f x) (f y) kind

-- the atoms are a pair of the list
abbrev pub Has : List (ℕ × ℕ) → ℕ → ℕ → Type 0
Has ps a b = (i : ℕ) × (i < length ps) × (slice_index_or ps i (0, 0) ≡ (a, b))

abbrev pub IsPaired : List (ℕ × ℕ) → ℕ → Type 0
IsPaired ps a = (b : ℕ) × Has ps a b

-- the pairs the other way round
abbrev pub flip : List (ℕ × ℕ) → List (ℕ × ℕ)
flip ps = map (λ p. (p.1, p.0)) ps

-- The first atoms of the pairs are different ones of m or have the same partner. Partners are alike, and bonds between
-- first atoms are bonds between their partners.
pub record Carries (m n : Molecule) (ps : List (ℕ × ℕ)) : Type 0 where
  pub one : (a b c : ℕ) → Has ps a b → Has ps a c → b ≡ c
  pub alike : (a b : ℕ) → Has ps a b
      → (x : Atom) × (slice_get m.atoms a ≡ Some x) × (y : Atom) × (slice_get n.atoms b ≡ Some y) × IsAlike x y
  pub kept : (a b c d : ℕ) (kind : BondKind) → Has ps a b → Has ps c d → HasBond m a c kind → HasBond n b d kind

-- each bond of a to an atom with a partner is one of b to the partner
abbrev pub IsCarried : Molecule → Molecule → List (ℕ × ℕ) → ℕ → ℕ → Type 0
IsCarried m n ps a b = (c d : ℕ) (kind : BondKind) → Has ps c d → HasBond m a c kind → HasBond n b d kind

pub record IsPartial (m n : Molecule) (ps : List (ℕ × ℕ)) : Type 0 where
  pub apart : (i j : ℕ) → i < j → j < length ps
      → (slice_index_or ps i (0, 0)).0 ≡ (slice_index_or ps j (0, 0)).0 → ⊥
  pub there : Carries m n ps
  pub back : Carries n m (flip ps)

-- a map goes on from the pairs
pub record Extends (m n : Molecule) (ps : List (ℕ × ℕ)) : Type 0 where
  pub f : ℕ → ℕ
  pub g : ℕ → ℕ
  pub is : IsMap m n f g
  pub goes : (a b : ℕ) → Has ps a b → f a ≡ b

-- a test that says the same of atoms in no pair that a bond joins
abbrev pub IsLevel : Molecule → List (ℕ × ℕ) → (ℕ → Bool) → Type 0
IsLevel m ps s = (x y : ℕ) (kind : BondKind) → HasBond m x y kind → (IsPaired ps x → ⊥) → (IsPaired ps y → ⊥) → s x ≡ s y

-- The first atoms of the pairs that are new hang together with one of them, and nothing else hangs on them.
pub record IsPart (m : Molecule) (ps qs : List (ℕ × ℕ)) (start : ℕ) : Type 0 where
  pub more : (a b : ℕ) → Has ps a b → Has qs a b
  pub closed : (a c : ℕ) (kind : BondKind) → IsPaired qs a → (IsPaired ps a → ⊥) → HasBond m a c kind → IsPaired qs c
  pub joined : (s : ℕ → Bool) → IsLevel m ps s → (a : ℕ) → IsPaired qs a → (IsPaired ps a → ⊥) → s a ≡ s start

-- The pairs after begin with those before, and the pair of a and b; the new ones are a whole component on each side.
pub record IsStep (m n : Molecule) (ps qs : List (ℕ × ℕ)) (a b : ℕ) : Type 0 where
  pub partial : IsPartial m n qs
  pub part : IsPart m ps qs a
  pub part_back : IsPart n (flip ps) (flip qs) b
  pub first : Has qs a b
