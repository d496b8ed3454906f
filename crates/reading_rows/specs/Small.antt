-- Soundness of a sketch of few bonds, as a test that computes: for examples.
use Rattle.std.specs.Prelude.{ℕ, ◌==◌, ◌&&◌, ◌||◌, not, nat_le, nat_lt, Bool, true, List, [], ◌∷◌, length, ℤ, pos, negsuc}
use Rattle.std.specs.List.{list_all}
use Rattle.chem_core.specs.declared.limits.TheConstants.{MOST_ATOMS, MOST_NEIGHBOURS}
use Rattle.chem_core.specs.declared.sketch.SketchAtom.{SketchAtom}
use Rattle.chem_core.specs.declared.sketch.SketchBond.{SketchBond}
use Rattle.chem_core.specs.declared.sketch.Fill.{Fill}
use Rattle.chem_core.specs.declared.sketch.Fill.TheVariants.{Given, Organic, Table, Fixed}

-- -15 to 15
abbrev pub is_small_charge : ℤ → Bool
is_small_charge (pos n) = nat_le n 15
is_small_charge (negsuc n) = nat_lt n 15

-- at most 2 radical electrons, and a written valence of at most 15
abbrev pub is_small_fill : Fill → Bool
is_small_fill Given = true
is_small_fill Organic = true
is_small_fill (Table radicals) = nat_le radicals 2
is_small_fill (Fixed valence) = nat_le valence 15

-- each number within its limit, and at most 9 hydrogens
abbrev pub is_small_atom : SketchAtom → Bool
is_small_atom x = nat_le x.number 103
    && (nat_le x.isotope 999 && (is_small_charge x.charge && (is_small_fill x.fill && nat_le x.hydrogens 9)))

-- the bonds join the same atoms
abbrev pub joins_same : SketchBond → SketchBond → Bool
joins_same b c = ((b.a == c.a) && (b.b == c.b)) || ((b.a == c.b) && (b.b == c.a))

-- each bond joins two of the atoms, which no later one joins
abbrev pub are_small_bonds : ℕ → List SketchBond → Bool
are_small_bonds atoms [] = true
are_small_bonds atoms (b ∷ bs) = nat_lt b.a atoms
    && (nat_lt b.b atoms && (not (b.a == b.b) && (list_all (λ c. not (joins_same b c)) bs && are_small_bonds atoms bs)))

-- no more atoms than a structure may have, and no more bonds than an atom may have
abbrev pub is_small : List SketchAtom → List SketchBond → Bool
is_small atoms bonds = nat_le (length atoms) MOST_ATOMS && (nat_le (length bonds) MOST_NEIGHBOURS
    && (list_all is_small_atom atoms && are_small_bonds (length atoms) bonds))
