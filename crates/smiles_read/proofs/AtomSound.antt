-- What every atom of a tree keeps.
use Rattle.std.proofs.Common.{ℕ, ◌+◌, ◌≤◌, List, [], ◌∷◌, ◌++◌, length, arith}
use Rattle.std.proofs.lemmas.Int.{ints}
use Rattle.std.specs.Prelude.{ℤ, pos, neg_ℤ, ◌≤ℤ◌}
use Rattle.std.specs.List.{AllByRecursion}
use Rattle.chem_core.specs.declared.sketch.SketchAtom.{SketchAtom}
use Rattle.chem_core.specs.Organic.{Organic, boron, carbon, nitrogen, oxygen, phosphorus, sulfur, fluorine, chlorine, bromine, iodine, atomic_number}
use Rattle.chem_core.specs.Sound.{IsSketchAtom}
use Rattle.smiles_words.specs.Atom.{IsDigit, value_of, Lower, lower_b, lower_c, lower_n, lower_o, lower_p, lower_s, lower_se, lower_as, lower_number, Symbol, element, lower, symbol_number, IsSymbol, Sign, plus, minus, signed, Charge, neutral, run, amount, charge_value, IsCharge, AtomText, star, organic, aromatic, bracket, IsAtomText, atom_of}
use Rattle.line_walk.specs.Tree.{Tail, stop, next, branch, IsTail, IsTree}
use Rattle.line_walk.specs.Places.{Placed, placed_from, atoms_by, atoms_of, size_of}
use Rattle.smiles_words.specs.Words.{BondText, smiles_words, Tree}
use Rattle.smiles_words.proofs.Pieces.{few_hydrogens}

small_organic : (x : Organic) → atomic_number x ≤ 103
small_organic boron = omega arith
small_organic carbon = omega arith
small_organic nitrogen = omega arith
small_organic oxygen = omega arith
small_organic phosphorus = omega arith
small_organic sulfur = omega arith
small_organic fluorine = omega arith
small_organic chlorine = omega arith
small_organic bromine = omega arith
small_organic iodine = omega arith

small_lower : (l : Lower) → lower_number l ≤ 103
small_lower lower_b = omega arith
small_lower lower_c = omega arith
small_lower lower_n = omega arith
small_lower lower_o = omega arith
small_lower lower_p = omega arith
small_lower lower_s = omega arith
small_lower lower_se = omega arith
small_lower lower_as = omega arith

small_symbol : (s : Symbol) → IsSymbol s → symbol_number s ≤ 103
small_symbol (element n) is = is
small_symbol (lower l) is = small_lower l

small_isotope : (ds : List ℕ) → length ds ≤ 3 → AllByRecursion IsDigit ds → value_of ds ≤ 999
small_isotope [] l h = omega arith
small_isotope (a ∷ []) l h = let u = h.0.1 in omega arith
small_isotope (a ∷ b ∷ []) l h = let u = h.0.1 in let v = h.1.0.1 in omega arith
small_isotope (a ∷ b ∷ c ∷ []) l h = let u = h.0.1 in let v = h.1.0.1 in let w = h.1.1.0.1 in omega arith
small_isotope (a ∷ b ∷ c ∷ d ∷ ds) l h = absurd (omega arith)

record IsSmall (z : ℤ) : Type 0 where
  low : neg_ℤ (pos 15) ≤ℤ z
  high : z ≤ℤ pos 15

small_signed : (s : Sign) (n : ℕ) → n ≤ 15 → IsSmall (signed s n)
small_signed plus n le = record { low = omega (arith, ints); high = omega (arith, ints) }
small_signed minus n le = record { low = omega (arith, ints); high = omega (arith, ints) }

small_charge : (x : Charge) → IsCharge x → IsSmall (charge_value x)
small_charge neutral is = record { low = omega (arith, ints); high = omega (arith, ints) }
small_charge (run s n) is = small_signed s n is.1
small_charge (amount s ds) is = small_signed s (value_of ds) is.3

pub atom_sound : (x : AtomText) → IsAtomText x → IsSketchAtom (atom_of x) × ((atom_of x).hydrogens ≤ 9)
atom_sound star is = (
  record {
    number = omega arith;
    isotope = omega arith;
    lowest_charge = omega (arith, ints);
    highest_charge = omega (arith, ints);
    fill = tt;
    hydrogens = omega arith;
  },
  omega arith,
)
atom_sound (organic x) is = (
  record {
    number = small_organic x;
    isotope = omega arith;
    lowest_charge =
        omega (arith, ints);
    highest_charge = omega (arith, ints);
    fill = tt;
    hydrogens = omega arith;
  },
  omega arith,
)
atom_sound (aromatic x) is = (
  record {
    number = small_lower x;
    isotope = omega arith;
    lowest_charge =
        omega (arith, ints);
    highest_charge = omega (arith, ints);
    fill = tt;
    hydrogens = omega arith;
  },
  omega arith,
)
atom_sound (bracket x) is =
    let z = small_charge x.charge is.charge in
    let h = few_hydrogens x.symbol x.hydrogens is.hydrogens in (
      record {
        number = small_symbol x.symbol is.symbol;
        isotope = small_isotope x.isotope is.short is.digits;
        lowest_charge = z.low;
        highest_charge = z.high;
        fill = tt;
        hydrogens = omega arith;
      },
      h,
    )

-- an atom that is read
abbrev pub IsRead : SketchAtom → Type 0
IsRead a = IsSketchAtom a × (a.hydrogens ≤ 9)

both_read : (xs ys : List (Placed AtomText BondText)) → AllByRecursion IsRead (atoms_by smiles_words xs)
    → AllByRecursion IsRead (atoms_by smiles_words ys) → AllByRecursion IsRead (atoms_by smiles_words (xs ++ ys))
both_read [] ys h k = k
both_read (x ∷ xs) ys h k = (h.0, both_read xs ys h.1 k)

tail_read : (at n : ℕ) (t : Tail AtomText BondText) → IsTail smiles_words t
    → AllByRecursion IsRead (atoms_by smiles_words (placed_from at n t))
tail_read at n stop h = tt
tail_read at n (next j x t) h = (atom_sound x.atom h.1.0, tail_read n (n + 1) t h.2)
tail_read at n (branch j x i t) h = (
  atom_sound x.atom h.1.0,
  both_read (placed_from n (n + 1) i) (placed_from at (n + 1 + size_of i) t)
      (tail_read n (n + 1) i h.2) (tail_read at (n + 1 + size_of i) t h.3),
)

pub tree_read : (tree : Tree) → IsTree smiles_words tree → AllByRecursion IsRead (atoms_of smiles_words tree)
tree_read tree h = (atom_sound tree.first.atom h.0.0, tail_read 0 1 tree.tail h.1)
