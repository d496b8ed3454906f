-- Lists of images as maps, and maps as lists of images.
use Rattle.std.proofs.Common.{◌≡◌, ℕ, ◌<◌, ◌≤◌, inl, inr, List, length, map, get_or, slice_get, slice_index, refl, sym, ap, ◌∙◌, subst, arith}
use Rattle.std.specs.List.{range_with_len}
use Rattle.std.proofs.lemmas.Bool.{cases_lt, cases_eq}
use Rattle.std.proofs.lemmas.List.{get_or_past}
use Rattle.std.proofs.lemmas.List.FromFn.{length-map-range_with_len, get_or-map-range_with_len}
use Rattle.std.proofs.lemmas.Option.{slice_get-get_or, slice_get_within, slice_get_cases, get_or_from_slice_get}
use Rattle.chem_core.specs.declared.mol.BondKind.{BondKind}
use Rattle.chem_core.specs.Molecule.{Molecule, IsMolecule, ends_of}
use Rattle.exact_find.specs.Same.{HasBond, IsImage, IsSame}
use Rattle.exact_find.specs.Pairs.{IsMap}
use Rattle.exact_find.proofs.Onto.{IsOneToOne, onto}
use Rattle.exact_find.proofs.Maps.{lies, joins, some_one, turned}

-- the image of each atom; what is no atom stays
pub image_map : List ℕ → ℕ → ℕ
image_map image a = get_or image a a

in_list : (image : List ℕ) (a : ℕ) → a < length image → image_map image a ≡ slice_index image a
unfolding image_map
in_list image a within = some_one (get_or image a a) (get_or image a 0)
    (sym (slice_get-get_or image a a within) ∙ slice_get-get_or image a 0 within)

past_list : (image : List ℕ) (a : ℕ) → length image ≤ a → image_map image a ≡ a
unfolding image_map
past_list image a past = get_or_past image a a past

-- bonds join atoms
pub bond_within : (m : Molecule) (x y : ℕ) (kind : BondKind) → IsMolecule m → HasBond m x y kind → x < length m.atoms
bond_within m x y kind is has =
    let at = lies m x y kind has in
    let none : ℕ × ℕ = (0, 0) in
    let range : at.0 < length (ends_of m) → (((get_or (ends_of m) at.0 none).0 < length m.atoms)
    × ((get_or (ends_of m) at.0 none).1 < length m.atoms)) = λ h. is.graph.in_range at.0 none h in
    elim (joins m at.0 x y kind at.1) [
      | inl one ↦
          let read : get_or (ends_of m) at.0 none ≡ (x, y) = get_or_from_slice_get (ends_of m) at.0 (x, y) none one in
          subst (λ (e : ℕ × ℕ). e.0 < length m.atoms) read (range (slice_get_within (ends_of m) at.0 (x, y) one)).0
      | inr other ↦
          let read : get_or (ends_of m) at.0 none ≡ (y, x) = get_or_from_slice_get (ends_of m) at.0 (y, x) none other in
          subst (λ (e : ℕ × ℕ). e.1 < length m.atoms) read (range (slice_get_within (ends_of m) at.0 (y, x) other)).1
    ]

image-one : (m n : Molecule) (image : List ℕ) → IsImage m n image
    → IsOneToOne (length m.atoms) (length n.atoms) (image_map image)
image-one m n image is = record {
  within = λ a h.
      elim ((slice_get_cases m.atoms a).1) [
        | inl found ↦
            let to = is.alike a found.0 found.2 in
            let inside : slice_index image a < length n.atoms = slice_get_within n.atoms (slice_index image a) to.0 to.1 in
            subst (λ k. k < length n.atoms) (sym (in_list image a (omega (arith, is.one_each)))) inside
        | inr past ↦ absurd (omega (arith, past.0))
      ];
  apart = λ a b h l same.
      let equal : slice_index image a ≡ slice_index image b = sym (in_list image a (omega (arith, is.one_each))) ∙ same
      ∙ in_list image b (omega (arith, is.one_each)) in
      elim (cases_eq a b) [
        | inl e ↦ e
        | inr ne ↦ elim (cases_lt a b) [
          | inl lt ↦ absurd (is.distinct a b 0 lt (omega (arith, is.one_each)) equal)
          | inr ge ↦ absurd (is.distinct b a 0 (omega arith) (omega (arith, is.one_each)) (sym equal))
        ]
      ];
}

-- the map back
back_from : (f : ℕ → ℕ) (n : ℕ) → IsOneToOne n n f → (y : ℕ) → (x : ℕ) × ((y < n → (x < n) × (f x ≡ y))
    × (n ≤ y → x ≡ y))
back_from f n one y =
    elim (cases_lt y n) [
      | inl within ↦ let found = onto f n y one within in
          (found.0, ((λ h. (found.1, found.2)), (λ h. absurd (omega arith))))
      | inr past ↦ (y, ((λ h. absurd (omega arith)), (λ h. refl)))
    ]

-- a list of images is a map, with a map back
pub as_map : (m n : Molecule) → IsMolecule m → IsSame m n → (f g : ℕ → ℕ) × IsMap m n f g
as_map m n is same =
    let f : ℕ → ℕ = image_map same.image in
    let size : length same.image ≡ length m.atoms = (same.is).one_each in
    let one : IsOneToOne (length m.atoms) (length m.atoms) f =
    subst (λ k. IsOneToOne (length m.atoms) k f) (sym same.atoms) (image-one m n same.image same.is) in
    let g : ℕ → ℕ = λ y. (back_from f (length m.atoms) one y).0 in
    let listed : (a : ℕ) → a < length m.atoms → f a ≡ slice_index same.image a = λ a h.
    in_list same.image a (omega (arith, size)) in
    let past : (a : ℕ) → length m.atoms ≤ a → f a ≡ a = λ a h. past_list same.image a (omega (arith, size)) in
    let forth : (y : ℕ) → f (g y) ≡ y = λ y. elim (cases_lt y (length m.atoms)) [
      | inl h ↦ ((back_from f (length m.atoms) one y).1.0 h).1
      | inr h ↦ ap f ((back_from f (length m.atoms) one y).1.1 h) ∙ past y h
    ] in (
      f,
      g,
      record {
        atoms = same.atoms;
        bonds = same.bonds;
        within = λ a h. subst (λ k. f a < k) same.atoms (one.within a h);
        within_back = λ y h. ((back_from f (length m.atoms) one y).1.0 (subst (λ k. y < k) (sym same.atoms) h)).0;
        back = λ a. elim (cases_lt a (length m.atoms)) [
          | inl h ↦
              let met = (back_from f (length m.atoms) one (f a)).1.0 (one.within a h) in
              one.apart (g (f a)) a met.0 h met.1
          | inr h ↦ ap g (past a h) ∙ (back_from f (length m.atoms) one a).1.1 h
        ];
        forth = forth;
        alike = λ a x at.
            let to = (same.is).alike a x at in
            (to.0, ap (slice_get n.atoms) (listed a (slice_get_within m.atoms a x at)) ∙ to.1, to.2);
        kept = λ x y kind has.
            let to = (same.is).bonds x y kind has in
            let one' = listed x (bond_within m x y kind is has) in
            let two' = listed y (bond_within m y x kind is (turned m x y kind has)) in
            subst (λ s. HasBond n s (f y) kind) (sym one') (subst (λ s. HasBond n (slice_index same.image x) s kind) (sym two')
            to);
      },
    )

-- a map is a list of images
pub as_list : (m n : Molecule) (f g : ℕ → ℕ) → IsMolecule m → IsMap m n f g → IsSame m n
as_list m n f g is all =
    let image : List ℕ = map f (range_with_len 0 (length m.atoms)) in
    let long : length image ≡ length m.atoms = length-map-range_with_len f 0 (length m.atoms) in
    let read : (a d : ℕ) → a < length m.atoms → get_or image a d ≡ f a = λ a d h.
    get_or-map-range_with_len f 0 (length m.atoms) a a d h (omega arith) in
    record {
      atoms = all.atoms;
      bonds = all.bonds;
      image = image;
      is = record {
        one_each = long;
        distinct = λ i j d less within same.
            let equal : f i ≡ f j = sym (read i d (omega (arith, long))) ∙ same ∙ read j d (omega (arith, long)) in
            let e : i ≡ j = sym (all.back i) ∙ ap g equal ∙ all.back j in
            omega arith;
        alike = λ a x at.
            let to = all.alike a x at in
            (to.0, ap (slice_get n.atoms) (read a 0 (slice_get_within m.atoms a x at)) ∙ to.1, to.2);
        bonds = λ x y kind has.
            let to = all.kept x y kind has in
            let one = read x 0 (bond_within m x y kind is has) in
            let two = read y 0 (bond_within m y x kind is (turned m x y kind has)) in
            subst (λ s. HasBond n s (get_or image y 0) kind) (sym one) (subst (λ s. HasBond n (f x) s kind) (sym two) to);
      };
    }
