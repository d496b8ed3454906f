-- Molecules that are the same have the same paths, and so equal prints.
use Rattle.std.proofs.Common.{ℕ, ◌++◌, ◌<◌, ◌≡◌, ◌∙◌, ap, arith, List, [], ◌∷◌, length, get_or, map, reverse, refl, sym, inl, inr}
use Rattle.std.specs.Prelude.{Some, option_map, find}
use Rattle.std.specs.List.{slice_get}
use Rattle.std.proofs.lemmas.Bool.{cases_lt, cases_eq}
use Rattle.std.proofs.lemmas.List.{get_or-map, length-map, map-append}
use Rattle.std.proofs.lemmas.Grind.{reverse_onto}
use Rattle.std.proofs.lemmas.Option.{slice_get_within}
use Rattle.chem_core.specs.declared.mol.Atom.{Atom}
use Rattle.chem_core.specs.declared.mol.BondKind.{BondKind}
use Rattle.chem_core.specs.Molecule.{Molecule, IsMolecule}
use Rattle.exact_find.specs.Same.{HasBond, IsAlike, IsSame}
use Rattle.exact_find.proofs.Maps.{joins, lies}
use Rattle.exact_find.proofs.Near.{at_place}
use Rattle.store_machine.specs.Structures.{HasPrintBit}
use Rattle.path_print.specs.Path.{Family, exact, plain, label_of, IsPath, string_of}
use Rattle.path_print.specs.Prints.{are_ends, kind_byte, known_of, molecule_view}
use Rattle.path_print.proofs.Options.{and_then_some, map_some, find_there}
use Rattle.path_print.proofs.Carries.{found_bond, joins_from_ends, labels_in, string_carried}

map_reverse : (f : ℕ → ℕ) (xs : List ℕ) → reverse (map f xs) ≡ map f (reverse xs)
map_reverse f [] = refl
map_reverse f (x ∷ xs) =
    reverse_onto (map f xs) (f x) [] ∙ ap (λ ys. ys ++ f x ∷ []) (map_reverse f xs)
    ∙ sym (map-append f (reverse xs) (x ∷ [])) ∙ sym (ap (map f) (reverse_onto xs x []))

-- atoms that are alike have one label
alike_label : (family : Family) (x y : Atom) (l : ℕ × ℕ) → IsAlike x y → label_of family (known_of x) ≡ Some l
    → label_of family (known_of y) ≡ Some l
alike_label exact x y l a h = rw (a.number, a.aromatic) at h
alike_label plain x y l a h = rw a.number at h

module _ (m n : Molecule) (is_m : IsMolecule m) (is_n : IsMolecule n) (same : IsSame m n) (family : Family) where
  abbrev image : List ℕ
  image = same.image

  abbrev f : ℕ → ℕ
  f x = get_or image x 0

  label_carried : (x : ℕ) (l : ℕ × ℕ) → (molecule_view m family).label x ≡ Some l
      → (molecule_view n family).label (f x) ≡ Some l
  label_carried x l h =
      let q = and_then_some _ (slice_get m.atoms x) l h in
      let y = same.is.alike x q.0 q.1 in
      rw y.1 (alike_label family q.0 y.0 l y.2 q.2)

  byte_carried : (x y b : ℕ) → (molecule_view m family).byte x y ≡ Some b
      → (molecule_view n family).byte (f x) (f y) ≡ Some b
  byte_carried x y b h =
      let q = map_some _ (find (λ z. are_ends x y z.a z.b) m.bonds) b h in
      let there = find_there (λ z. are_ends x y z.a z.b) m.bonds q.0 q.1 in
      let bond = at_place m there.0 x y q.0 (joins_from_ends m.bonds there.0 q.0 x y there.1 there.2) there.1 in
      let over = same.is.bonds x y q.0.kind bond in
      byte_at (f x) (f y) q.0.kind over ∙ ap Some q.2
    where
      byte_at : (u v : ℕ) (kind : BondKind) → HasBond n u v kind
          → (molecule_view n family).byte u v ≡ Some (kind_byte kind)
      byte_at u v kind has =
          let at = lies n u v kind has in
          elim at.1 [
            | inl one ↦ ap (option_map (λ bond. kind_byte bond.kind)) (found_bond (length n.atoms) n.bonds at.0
                (record { a = u; b = v; kind = kind }) u v is_n.graph one (joins n at.0 u v kind (inl one)))
            | inr other ↦ ap (option_map (λ bond. kind_byte bond.kind)) (found_bond (length n.atoms) n.bonds at.0
                (record { a = v; b = u; kind = kind }) u v is_n.graph other (joins n at.0 u v kind (inr other)))
          ]

  atom_within : (xs s : List ℕ) → string_of (molecule_view m family) xs ≡ Some s → (i d : ℕ) → i < length xs
      → get_or xs i d < length image
  atom_within xs s h i d lt =
      let l = labels_in (molecule_view m family) xs s h i d lt in
      let q = and_then_some _ (slice_get m.atoms (get_or xs i d)) l.0 l.1 in
      let within = slice_get_within m.atoms (get_or xs i d) q.0 q.1 in
      rw same.is.one_each within

  same_atom : (x y : ℕ) → x < length image → y < length image → f x ≡ f y → x ≡ y
  same_atom x y hx hy e =
      elim (cases_eq x y) [
        | inl q ↦ q
        | inr n ↦ elim (cases_lt x y) [
          | inl l ↦ absurd (same.is.distinct x y 0 l hy e)
          | inr l ↦ absurd (same.is.distinct y x 0 (omega arith) hx (sym e))
        ]
      ]

  path_carried : (xs s t : List ℕ) → IsPath (molecule_view m family) xs s t
      → IsPath (molecule_view n family) (map f xs) s t
  path_carried xs s t path = record {
    short = rw length-map path.short;
    distinct = λ i j d lo hi e.
        let hj : j < length xs = rw length-map at hi in
        let hi' : i < length xs = omega arith in
        let at_i : get_or (map f xs) i d ≡ f (get_or xs i 0) = get_or-map f xs i 0 d hi' in
        let at_j : get_or (map f xs) j d ≡ f (get_or xs j 0) = get_or-map f xs j 0 d hj in
        path.distinct i j 0 lo hj (same_atom (get_or xs i 0) (get_or xs j 0) (atom_within xs s path.reads i 0 hi')
        (atom_within xs s path.reads j 0 hj) (sym at_i ∙ e ∙ at_j));
    reads = string_carried _ _ f label_carried byte_carried xs s path.reads;
    reads_back = rw map_reverse (string_carried _ _ f label_carried byte_carried (reverse xs) t path.reads_back);
  }

-- a bit of the print of one is a bit of the print of the other
pub bit_carried : (m n : Molecule) → IsMolecule m → IsMolecule n → IsSame m n → (bit : ℕ) → HasPrintBit m bit
    → HasPrintBit n bit
bit_carried m n is_m is_n same bit h =
    let family = h.0 in
    let p = h.1 in (
      family,
      (
        map (λ x. get_or same.image x 0) p.0,
        p.1,
        p.2,
        path_carried m n is_m is_n same family p.0 p.1 p.2 p.3,
        p.4,
      ),
    )
