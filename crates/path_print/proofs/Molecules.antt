-- The steps of a molecule's paths are those to neighbours.
use Rattle.std.proofs.Common.{ℕ, ◌<◌, ◌≡◌, inl, inr, Bool, true, false, cond, List, [], ◌∷◌, length, get_or, refl, ap, ◌∙◌, subst}
use Rattle.std.specs.Prelude.{Some, option_map, find, ◌&&◌, ◌||◌, ◌==◌}
use Rattle.std.specs.List.{slice_get}
use Rattle.std.proofs.lemmas.List.{get_or_default, length-map}
use Rattle.std.proofs.lemmas.Option.{slice_get_within, slice_get-get_or, get_or_from_slice_get}
use Rattle.chem_core.specs.declared.mol.Bond.{Bond}
use Rattle.chem_core.specs.Graph.{JoinsAt, AreNeighbours}
use Rattle.chem_core.specs.Molecule.{Molecule, IsMolecule, ends_of}
use Rattle.path_print.specs.Path.{Family}
use Rattle.path_print.specs.Prints.{kind_byte, are_ends, molecule_view}
use Rattle.path_print.proofs.Options.{and_then_some, map_some, find_there}
use Rattle.path_print.proofs.Carries.{joins_from_ends, found_bond}

or-comm : (a b : Bool) → (a || b) ≡ (b || a)
or-comm true true = refl
or-comm true false = refl
or-comm false true = refl
or-comm false false = refl

pub find_same : {A : Type 0} (p q : A → Bool) → ((x : A) → p x ≡ q x) → (xs : List A) → find p xs ≡ find q xs
find_same p q same [] = refl
find_same p q same (x ∷ xs) = ap (λ b. cond b (Some x) (find p xs)) (same x)
    ∙ ap (cond (q x) (Some x)) (find_same p q same xs)

pub ends_swap : (x y a b : ℕ) → are_ends x y a b ≡ are_ends y x a b
ends_swap x y a b = or-comm ((a == x) && (b == y)) ((a == y) && (b == x))

pub molecule_symmetric : (m : Molecule) (family : Family) (x y : ℕ)
    → (molecule_view m family).byte x y ≡ (molecule_view m family).byte y x
molecule_symmetric m family x y =
    ap (option_map (λ bond. kind_byte bond.kind))
    (find_same (λ bond. are_ends x y bond.a bond.b) (λ bond. are_ends y x bond.a bond.b)
    (λ bond. ends_swap x y bond.a bond.b) m.bonds)

-- the two ends of a bond that joins are atoms
pub ends_within : (m : Molecule) (b x y : ℕ) → IsMolecule m → JoinsAt (ends_of m) b x y
    → (b < length m.bonds) × (x < length m.atoms) × (y < length m.atoms)
ends_within m b x y molecule joins =
    elim joins [
      | inl q ↦
          let within : b < length (ends_of m) = slice_get_within (ends_of m) b (x, y) q in
          let ok = molecule.graph.in_range b (x, y) within in
          let ok' : (x < length m.atoms) × (y < length m.atoms) = subst (λ (e : ℕ × ℕ). (e.0 < length m.atoms)
          × (e.1 < length m.atoms)) (get_or_from_slice_get (ends_of m) b (x, y) (x, y) q) ok in
          (rw length-map at within, ok'.0, ok'.1)
      | inr q ↦
          let within : b < length (ends_of m) = slice_get_within (ends_of m) b (y, x) q in
          let ok = molecule.graph.in_range b (y, x) within in
          let ok' : (y < length m.atoms) × (x < length m.atoms) = subst (λ (e : ℕ × ℕ). (e.0 < length m.atoms)
          × (e.1 < length m.atoms)) (get_or_from_slice_get (ends_of m) b (y, x) (y, x) q) ok in
          (rw length-map at within, ok'.1, ok'.0)
    ]

-- a bond that joins gives its byte
pub joined_byte : (m : Molecule) (family : Family) (b x y : ℕ) (d : Bond) → IsMolecule m → JoinsAt (ends_of m) b x y
    → (molecule_view m family).byte x y ≡ Some (kind_byte (get_or m.bonds b d).kind)
joined_byte m family b x y d molecule joins =
    let within = (ends_within m b x y molecule joins).0 in
    ap (option_map (λ z. kind_byte z.kind)) (found_bond (length m.atoms) m.bonds b
    (get_or m.bonds b d) x y molecule.graph (slice_get-get_or m.bonds b d within) joins)

-- a bond with a byte leads to a neighbour
pub byte_neighbour : (m : Molecule) (family : Family) (x y b : ℕ) (pairs : List (ℕ × ℕ))
    → AreNeighbours (ends_of m) x pairs → (molecule_view m family).byte x y ≡ Some b
    → (k : ℕ) × (k < length pairs) × ((get_or pairs k (0, 0)).0 ≡ y)
byte_neighbour m family x y b pairs neighbours h =
    let found = map_some (λ z. kind_byte z.kind) (find (λ z. are_ends x y z.a z.b) m.bonds) b h in
    let there = find_there (λ z. are_ends x y z.a z.b) m.bonds found.0 found.1 in
    let has = neighbours.each y there.0 (joins_from_ends m.bonds there.0 found.0 x y there.1 there.2) in
    (has.0, has.1, ap (λ p. p.0) (get_or_default pairs has.0 (0, 0) (y, there.0) has.1 ∙ has.2))

pub label_within : (m : Molecule) (family : Family) (x : ℕ) (l : ℕ × ℕ) → (molecule_view m family).label x ≡ Some l
    → x < length m.atoms
label_within m family x l h = let q = and_then_some _ (slice_get m.atoms x) l h in slice_get_within m.atoms x q.0 q.1
