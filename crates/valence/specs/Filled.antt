-- A sketch with its hydrogens counted. For callers.
use Rattle.std.specs.Prelude.{ℕ, ◌+◌, ◌-◌, true, false, List, [], ◌∷◌, map, find, nat_le, option_map, unwrap_or}
use Rattle.std.specs.List.{enumerate_from}
use Rattle.chem_core.specs.declared.sketch.SketchAtom.{SketchAtom}
use Rattle.chem_core.specs.declared.sketch.Fill.{Fill}
use Rattle.chem_core.specs.declared.sketch.Fill.TheVariants.{Given, Organic, Table, Fixed}
use Rattle.chem_core.specs.Sketch.{SketchTerm}
use Rattle.valence.specs.Valence.{organic_valences, table_valences, bond_sum}

-- the least of these valences that is not below the sum, less the sum; 0 if there is none
abbrev pub missing : List ℕ → ℕ → ℕ
missing valences total = unwrap_or (option_map (λ v. v - total) (find (λ v. nat_le total v) valences)) 0

-- an aromatic atom of the organic subset has one bond more: the first valence, less the sum, less 1
abbrev pub missing_aromatic : List ℕ → ℕ → ℕ
missing_aromatic [] total = 0
missing_aromatic (v ∷ vs) total = v - total - 1

-- the hydrogens of an atom whose bonds sum to the total
abbrev pub hydrogens_of : Fill → SketchAtom → ℕ → ℕ
hydrogens_of Given atom total = atom.hydrogens
hydrogens_of Organic atom total =
    elim atom.lower [
      | true ↦ missing_aromatic (organic_valences atom.number) total
      | false ↦
          missing (organic_valences atom.number) total
    ]
hydrogens_of (Table radicals) atom total = missing (table_valences atom.number atom.charge) (total + radicals)
hydrogens_of (Fixed valence) atom total = valence - total

-- the atom with its hydrogens, if its bonds have this sum
abbrev pub filled_atom : ℕ → SketchAtom → SketchAtom
filled_atom total atom = record atom { hydrogens = hydrogens_of atom.fill atom total }

-- each atom with its hydrogens, and the bonds as they were
abbrev pub filled : SketchTerm → SketchTerm
filled s = record { atoms = map (λ p. filled_atom (bond_sum s p.0) p.1) (enumerate_from 0 s.atoms); bonds = s.bonds }
