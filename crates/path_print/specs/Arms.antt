-- Paths through an atom: two arms, each read inward to the atom or outward from it. For private clauses alone.
use Rattle.std.specs.Prelude.{◌≡◌, ◌≢◌, ◌⊎◌, ℕ, zero, suc, ◌+◌, ◌*◌, ◌<◌, ◌≤◌, List, [], ◌∷◌, ◌++◌, length, reverse, fold, All, AllPairs, Contains, Some}
use Rattle.path_print.specs.declared.arm.TheConstants.{LONGEST}
use Rattle.path_print.specs.declared.arm.Half.{Half}
use Rattle.path_print.specs.declared.arms.Arm.{Arm}
use Rattle.path_print.specs.declared.arms.Labels.{Labels}
use Rattle.path_print.specs.declared.arms.Middle.{Middle}
use Rattle.chem_core.specs.Molecule.{IsMolecule}
use Rattle.path_print.specs.Prints.{molecule_view}
use Rattle.path_print.specs.Path.{Family, exact, plain, View, bit_of, IsPath}
use Rattle.path_print.specs.Texts.{last_of}

-- an atom of an arm: its label, and the byte of the bond from it towards the middle
abbrev pub Joint : Type 0
Joint = (ℕ × ℕ) × ℕ

-- the bytes of an arm, from its end to the middle
abbrev pub inward : List Joint → List ℕ
inward [] = []
inward (j ∷ js) = j.0.0 ∷ j.0.1 ∷ j.1 ∷ inward js

-- and from the middle to its end
abbrev pub outward : List Joint → List ℕ
outward [] = []
outward (j ∷ js) = outward js ++ j.1 ∷ j.0.0 ∷ j.0.1 ∷ []

-- the string of a path from the end of one arm to that of another, with this label in the middle
abbrev pub through : List Joint → ℕ × ℕ → List Joint → List ℕ
through js l ks = inward js ++ l.0 ∷ l.1 ∷ outward ks

-- bytes as a number, the first one highest
abbrev pub number_of : List ℕ → ℕ
number_of bytes = fold (λ n byte. 256 * n + byte) 0 bytes

-- a number whose remainder is the hash that starts so
abbrev pub sum_from : ℕ → List ℕ → ℕ
sum_from start bytes = fold (λ n byte. 131 * n + byte) start bytes

-- labels and bytes of bonds are bytes
abbrev pub AreBytes : List Joint → Type 0
AreBytes [] = Unit {0}
AreBytes (j ∷ js) = (j.0.0 < 256) × (j.0.1 < 256) × (j.1 < 256) × AreBytes js

-- the numbers and sums of an arm with these labels and bonds
pub record IsHalf (js : List Joint) (half : Half) : Type 0 where
  pub bytes : AreBytes js
  pub number : half.number ≡ number_of (inward js)
  pub head : half.head ≡ sum_from 7 (inward js)
  pub tail : half.tail ≡ sum_from 0 (outward js)

-- an arm of n atoms
abbrev pub IsHalfOf : ℕ → Half → Type 0
IsHalfOf n half = (js : List Joint) × (length js ≡ n) × IsHalf js half

-- the atom after these towards the middle c
abbrev pub next_to : ℕ → List ℕ → ℕ
next_to c [] = c
next_to c (x ∷ xs) = x

-- the arm to c of these atoms, the farthest first
abbrev pub AreJoints : View → ℕ → List ℕ → List Joint → Type 0
AreJoints v c [] [] = Unit {0}
AreJoints v c (x ∷ xs) [] = ⊥
AreJoints v c [] (j ∷ js) = ⊥
AreJoints v c (x ∷ xs) (j ∷ js) = (v.label x ≡ Some j.0) × (v.byte x (next_to c xs) ≡ Some j.1) × AreJoints v c xs js

-- the numbers and sums of an arm in a family of labels
abbrev pub half_in : Arm → Family → Half
half_in arm exact = arm.exact
half_in arm plain = arm.plain

-- the atoms of an arm of n atoms, the farthest first
abbrev pub atoms_in : ℕ → Arm → List ℕ
atoms_in zero arm = []
atoms_in (suc zero) arm = arm.near ∷ []
atoms_in (suc (suc n)) arm = arm.far ∷ arm.near ∷ []

-- the atoms that an arm of less than two names
abbrev pub IsShaped : ℕ → ℕ → Arm → Type 0
IsShaped zero c arm = (arm.near ≡ c) × (arm.far ≡ c)
IsShaped (suc zero) c arm = arm.far ≡ arm.near
IsShaped (suc (suc n)) c arm = Unit {0}

-- an arm to c of n atoms
pub record IsArm (views : Family → View) (c n : ℕ) (arm : Arm) : Type 0 where
  pub distinct : AllPairs ◌≢◌ (atoms_in n arm ++ c ∷ [])
  pub shape : IsShaped n c arm
  pub halves : (family : Family) → (js : List Joint) × AreJoints (views family) c (atoms_in n arm) js
      × IsHalf js (half_in arm family)

-- one of the arms has these atoms
abbrev pub HasArm : ℕ → List Arm → List ℕ → Type 0
HasArm n arms xs = (arm : Arm) × Contains arms arm × (atoms_in n arm ≡ xs)

-- each of the arms is one of the others
abbrev pub AreAmong : List Arm → List Arm → Type 0
AreAmong arms others = (arm : Arm) → Contains arms arm → Contains others arm

-- all arms to c of n atoms
pub record AreArms (views : Family → View) (c n : ℕ) (arms : List Arm) : Type 0 where
  pub each : All (IsArm views c n) arms
  pub all : (family : Family) (xs : List ℕ) (js : List Joint) → length xs ≡ n → AllPairs ◌≢◌ (xs ++ c ∷ [])
      → AreJoints (views family) c xs js → HasArm n arms xs

-- the label in a family
abbrev pub label_in : Labels → Family → ℕ × ℕ
label_in labels exact = labels.exact
label_in labels plain = labels.plain

-- the labels of an atom
abbrev pub AreLabels : (Family → View) → ℕ → Labels → Type 0
AreLabels views a labels = (family : Family) → (views family).label a ≡ Some (label_in labels family)

-- the molecule of a middle, as its paths see it
abbrev pub views_around : Middle → Family → View
views_around middle = molecule_view middle.mol.now

-- an atom of its molecule, with its labels
pub record IsMiddle (middle : Middle) : Type 0 where
  pub within : middle.atom < length middle.mol.now.atoms
  pub valid : IsMolecule middle.mol.now
  pub labels : AreLabels (views_around middle) middle.atom middle.labels

-- an arm to a middle, of n atoms
abbrev pub IsArmTo : Middle → ℕ → Arm → Type 0
IsArmTo middle n arm = IsArm (views_around middle) middle.atom n arm

-- all arms to a middle of n atoms
abbrev pub AreArmsTo : Middle → ℕ → List Arm → Type 0
AreArmsTo middle n arms = AreArms (views_around middle) middle.atom n arms

-- the atoms of the path from the end of one arm to that of another
abbrev pub path_of : ℕ → Arm → ℕ → ℕ → Arm → List ℕ
path_of before first c behind last = atoms_in before first ++ c ∷ reverse (atoms_in behind last)

-- no atom that one arm names is named by the other
abbrev pub AreApart : Arm → Arm → Type 0
AreApart first last = (first.near ≢ last.near) × (first.near ≢ last.far) × (first.far ≢ last.near)
    × (first.far ≢ last.far)

-- equally many atoms before and after, or one more before
abbrev pub IsBalanced : ℕ → ℕ → Type 0
IsBalanced before behind = (before ≡ behind) ⊎ (before ≡ behind + 1)

-- a bit of one of these arms
abbrev pub IsBitOfSome : (Arm → ℕ → Type 0) → List Arm → ℕ → Type 0
IsBitOfSome IsBit arms bit = (arm : Arm) × Contains arms arm × IsBit arm bit

-- the bit of a path of these atoms
abbrev pub IsBitAt : (Family → View) → List ℕ → ℕ → Type 0
IsBitAt views atoms bit = (family : Family) × (there back : List ℕ) × IsPath (views family) atoms there back
    × (bit ≡ bit_of there back)

-- the bit of a path through c, with these numbers of atoms before and after it. If there is one more before it, the one
-- next to it is lower.
abbrev pub IsBitThrough : (Family → View) → ℕ → ℕ → ℕ → ℕ → Type 0
IsBitThrough views c before behind bit = (xs ys : List ℕ) × (length xs ≡ before) × (length ys ≡ behind)
    × ((before ≡ behind) ⊎ (last_of xs < c)) × IsBitAt views (xs ++ c ∷ ys) bit

-- the bit of a path whose middle is c, or the higher of its two middle atoms
abbrev pub IsBitAround : (Family → View) → ℕ → ℕ → Type 0
IsBitAround views c bit = (before behind : ℕ) × (before ≤ LONGEST) × IsBalanced before behind
    × IsBitThrough views c before behind bit

-- the bit of a path whose middle is one of the first n atoms
abbrev pub IsBitBelow : (Family → View) → ℕ → ℕ → Type 0
IsBitBelow views n bit = (c : ℕ) × (c < n) × IsBitAround views c bit
