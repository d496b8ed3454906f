-- The truth of an expression (Daylight Theory Manual, chapter SMARTS, sections 4.1 to 4.3). `parts` gives the truth of
-- a recursive part: number, atom.
use Rattle.std.specs.Prelude.{◌≡◌, ◌⊎◌, ℕ, ◌+◌, ◌≤◌, Bool, true, false, ◌==◌, ◌&&◌, ◌||◌, slice_get, count_by, None, Some, option_map, unwrap_or}
use Rattle.chem_core.specs.declared.mol.Atom.{Atom}
use Rattle.chem_core.specs.declared.mol.Bond.{Bond}
use Rattle.chem_core.specs.declared.mol.BondKind.TheVariants as kinds
use Rattle.chem_core.specs.Graph.{degree, IsRingAtom, IsRingBond, IsSmallestRing, IsRingBondCount}
use Rattle.chem_core.specs.Molecule.{Molecule, ends_of}
use Rattle.smarts_parse.specs.declared.pattern.AtomPrim.{AtomPrim}
use Rattle.smarts_parse.specs.declared.pattern.AtomPrim.TheVariants as atoms
use Rattle.smarts_parse.specs.declared.pattern.BondPrim.{BondPrim}
use Rattle.smarts_parse.specs.declared.pattern.BondPrim.TheVariants as bonds
use Rattle.smarts_parse.specs.Pattern.{Term, Prim, Not, And, Or}

-- the atom at a place is hydrogen
abbrev pub is_hydrogen : Molecule → ℕ → Bool
is_hydrogen m a = unwrap_or (option_map (λ x. x.number == 1) (slice_get m.atoms a)) false

-- the number of neighbours of the atom that are hydrogen
abbrev pub hydrogen_neighbours : Molecule → ℕ → ℕ
hydrogen_neighbours m a = count_by (λ e. ((e.0 == a) && is_hydrogen m e.1) || ((e.1 == a) && is_hydrogen m e.0))
    (ends_of m)

-- A primitive at the atom x, which is at place a.
abbrev pub AtomPrimTrue : (ℕ → ℕ → Type 0) → AtomPrim → Molecule → ℕ → Atom → Type 0
AtomPrimTrue parts atoms.Any m a x = Unit {0}
AtomPrimTrue parts atoms.Aromatic m a x = x.aromatic ≡ true
AtomPrimTrue parts atoms.Aliphatic m a x = x.aromatic ≡ false
AtomPrimTrue parts (atoms.Symbol number lower) m a x = (x.number ≡ number) × (x.aromatic ≡ lower)
AtomPrimTrue parts (atoms.Number n) m a x = x.number ≡ n
AtomPrimTrue parts (atoms.Degree n) m a x = degree (ends_of m) a ≡ n
AtomPrimTrue parts (atoms.TotalH n) m a x = x.hydrogens + hydrogen_neighbours m a ≡ n
AtomPrimTrue parts (atoms.ImplicitH None) m a x = 1 ≤ x.hydrogens
AtomPrimTrue parts (atoms.ImplicitH (Some n)) m a x = x.hydrogens ≡ n
AtomPrimTrue parts atoms.Ring m a x = IsRingAtom (ends_of m) a
AtomPrimTrue parts atoms.NoRing m a x = ¬ IsRingAtom (ends_of m) a
AtomPrimTrue parts (atoms.Small n) m a x = IsSmallestRing (ends_of m) a n
AtomPrimTrue parts (atoms.Valence n) m a x = x.valence ≡ n
AtomPrimTrue parts (atoms.Connect n) m a x = degree (ends_of m) a + x.hydrogens ≡ n
AtomPrimTrue parts (atoms.RingBonds None) m a x = IsRingAtom (ends_of m) a
AtomPrimTrue parts (atoms.RingBonds (Some n)) m a x = IsRingBondCount (ends_of m) a n
AtomPrimTrue parts (atoms.Charge k) m a x = x.charge ≡ k
AtomPrimTrue parts (atoms.Mass n) m a x = x.isotope ≡ n
AtomPrimTrue parts (atoms.Rec k) m a x = parts k a

-- an atom expression at the atom at place a
abbrev pub AtomTrue : (ℕ → ℕ → Type 0) → Term AtomPrim → Molecule → ℕ → Type 0
AtomTrue parts (Prim p) m a = (x : Atom) × (slice_get m.atoms a ≡ Some x) × AtomPrimTrue parts p m a x
AtomTrue parts (Not e) m a = ¬ AtomTrue parts e m a
AtomTrue parts (And e f) m a = AtomTrue parts e m a × AtomTrue parts f m a
AtomTrue parts (Or e f) m a = AtomTrue parts e m a ⊎ AtomTrue parts f m a

-- A primitive at the bond x, which is at place b.
abbrev pub BondPrimTrue : BondPrim → Molecule → ℕ → Bond → Type 0
BondPrimTrue bonds.Single m b x = x.kind ≡ kinds.Single
BondPrimTrue bonds.Double m b x = x.kind ≡ kinds.Double
BondPrimTrue bonds.Triple m b x = x.kind ≡ kinds.Triple
BondPrimTrue bonds.Quad m b x = x.kind ≡ kinds.Quad
BondPrimTrue bonds.Aromatic m b x = x.kind ≡ kinds.Aromatic
BondPrimTrue bonds.Any m b x = Unit {0}
BondPrimTrue bonds.Ring m b x = IsRingBond (ends_of m) b
BondPrimTrue bonds.Unwritten m b x = (x.kind ≡ kinds.Single) ⊎ (x.kind ≡ kinds.Aromatic)

-- a bond expression at the bond at place b
abbrev pub BondTrue : Term BondPrim → Molecule → ℕ → Type 0
BondTrue (Prim p) m b = (x : Bond) × (slice_get m.bonds b ≡ Some x) × BondPrimTrue p m b x
BondTrue (Not e) m b = ¬ BondTrue e m b
BondTrue (And e f) m b = BondTrue e m b × BondTrue f m b
BondTrue (Or e f) m b = BondTrue e m b ⊎ BondTrue f m b
