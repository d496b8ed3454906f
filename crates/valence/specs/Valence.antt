-- The normal valences, and the sum of an atom's bonds. For callers.
use Rattle.std.specs.Prelude.{ℕ, zero, suc, ◌==◌, ◌||◌, List, [], ◌∷◌, sum_by, if◌then◌else◌, ℤ, pos, negsuc}
use Rattle.chem_core.specs.declared.sketch.SketchBond.{SketchBond}
use Rattle.chem_core.specs.Sketch.{SketchTerm, ends_at, order_of}

-- the valences of the organic subset, ascending (OpenSMILES 1.0, section 3.1.5); empty for every other element
abbrev pub organic_valences : ℕ → List ℕ
organic_valences number =
    if number == 5 then 3 ∷ [] else
    (if number == 6 then 4 ∷ [] else
    (if (number == 7) || (number == 15) then 3 ∷ 5 ∷ [] else
    (if number == 8 then 2 ∷ [] else
    (if number == 16 then 2 ∷ 4 ∷ 6 ∷ [] else
    (if (number == 9) || ((number == 17) || ((number == 35) || (number == 53))) then 1 ∷ [] else [])))))

-- The valences of molfile atoms. Without a charge they are those of the organic subset. With one they are in two tables
-- of this program, since the CTfile formats have none. With the charge -1:
abbrev pub anion_valences : ℕ → List ℕ
anion_valences number =
    if number == 5 then 4 ∷ [] else
    (if number == 6 then 3 ∷ [] else
    (if (number == 7) || (number == 15) then 2 ∷ [] else
    (if (number == 8) || (number == 16) then 1 ∷ [] else [])))

-- with the charge +1
abbrev pub cation_valences : ℕ → List ℕ
cation_valences number =
    if number == 5 then 2 ∷ [] else
    (if number == 6 then 3 ∷ [] else
    (if (number == 7) || (number == 15) then 4 ∷ [] else
    (if number == 8 then 3 ∷ [] else
    (if number == 16 then 3 ∷ 5 ∷ [] else []))))

-- by element and charge; empty for every other charge
abbrev pub table_valences : ℕ → ℤ → List ℕ
table_valences number (pos zero) = organic_valences number
table_valences number (pos (suc zero)) = cation_valences number
table_valences number (negsuc zero) = anion_valences number
table_valences number _ = []

-- the share of a bond at an atom: its order, if it ends there
abbrev pub adds : ℕ → SketchBond → ℕ
adds a b = if ends_at a b then order_of b.kind else 0

-- the sum of the bonds that end at an atom
abbrev pub bond_sum : SketchTerm → ℕ → ℕ
bond_sum s a = sum_by (adds a) s.bonds
