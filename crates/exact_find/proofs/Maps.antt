-- Maps of atoms that show that molecules are the same: the list of images as a map, and the map back.
use Rattle.std.proofs.Common.{◌≡◌, ℕ, ◌<◌, ◌⊎◌, inl, inr, List, length, get_or, slice_get, Contains, Option, Some, option_map, refl, sym, ap, ◌∙◌, subst, arith}
use Rattle.std.proofs.lemmas.Bool.{cases_lt}
use Rattle.std.proofs.lemmas.Option.{slice_get-get_or, slice_get_within, slice_get-map, get_or_from_slice_get}
use Rattle.chem_core.specs.declared.mol.Atom.{Atom}
use Rattle.chem_core.specs.declared.mol.Bond.{Bond}
use Rattle.chem_core.specs.declared.mol.BondKind.{BondKind}
use Rattle.chem_core.specs.declared.mol.BondKind.TheVariants.{Single}
use Rattle.chem_core.specs.Graph.{Ends, JoinsAt}
use Rattle.chem_core.specs.Molecule.{Molecule, IsMolecule, ends_of}
use Rattle.exact_find.specs.Same.{HasBond, IsAlike}
use Rattle.exact_find.specs.Pairs.{IsMap}
use Rattle.exact_find.proofs.Onto.{IsOneToOne, onto}

-- the bond at a place
abbrev pub Lies : Molecule → ℕ → ℕ → ℕ → BondKind → Type 0
Lies m b x y kind = (slice_get m.bonds b ≡ Some (record { a = x; b = y; kind = kind }))
    ⊎ (slice_get m.bonds b ≡ Some (record { a = y; b = x; kind = kind }))

contained : {X : Type 0} (xs : List X) (x : X) (at : Contains xs x) → slice_get xs at.0 ≡ Some x
contained xs x at = slice_get-get_or xs at.0 x at.1 ∙ ap Some at.2

contains : {X : Type 0} (xs : List X) (k : ℕ) (x : X) → slice_get xs k ≡ Some x → Contains xs x
contains xs k x at = (k, slice_get_within xs k x at, get_or_from_slice_get xs k x x at)

pub lies : (m : Molecule) (x y : ℕ) (kind : BondKind) → HasBond m x y kind → (b : ℕ) × Lies m b x y kind
lies m x y kind has =
    elim has [
      | inl at ↦ (at.0, inl (contained m.bonds (record { a = x; b = y; kind = kind }) at))
      | inr at ↦ (at.0, inr (contained m.bonds (record { a = y; b = x; kind = kind }) at))
    ]

pub has_bond : (m : Molecule) (b x y : ℕ) (kind : BondKind) → Lies m b x y kind → HasBond m x y kind
has_bond m b x y kind at =
    elim at [
      | inl one ↦ inl (contains m.bonds b (record { a = x; b = y; kind = kind }) one)
      | inr other ↦ inr (contains m.bonds b (record { a = y; b = x; kind = kind }) other)
    ]

pub turned : (m : Molecule) (x y : ℕ) (kind : BondKind) → HasBond m x y kind → HasBond m y x kind
turned m x y kind has = elim has [ inl at ↦ inr at | inr at ↦ inl at ]

pub joins : (m : Molecule) (b x y : ℕ) (kind : BondKind) → Lies m b x y kind → JoinsAt (ends_of m) b x y
joins m b x y kind at =
    let ends : Bond → ℕ × ℕ = λ e. (e.a, e.b) in
    elim at [
      | inl one ↦ inl (slice_get-map ends m.bonds b ∙ ap (option_map ends) one)
      | inr other ↦ inr (slice_get-map ends m.bonds b ∙ ap (option_map ends) other)
    ]

one_of : (o : Option (ℕ × ℕ)) (p q r s : ℕ) → o ≡ Some (p, q) → o ≡ Some (r, s) → (p ≡ r) × (q ≡ s)
one_of o p q r s one other =
    let first : ℕ × ℕ = (p, q) in
    let second : ℕ × ℕ = (r, s) in
    let same : first ≡ second = cc in
    (ap (λ (e : ℕ × ℕ). e.0) same, ap (λ (e : ℕ × ℕ). e.1) same)

-- the ends of the bond at a place
pub same_ends : (ends : Ends) (b p q r s : ℕ) → JoinsAt ends b p q → JoinsAt ends b r s
    → ((p ≡ r) × (q ≡ s)) ⊎ ((p ≡ s) × (q ≡ r))
same_ends ends b p q r s one other =
    elim one [
      | inl x ↦ elim other [
        | inl y ↦ inl (one_of (slice_get ends b) p q r s x y)
        | inr y ↦ inr (one_of (slice_get ends b) p q s r x y)
      ]
      | inr x ↦ elim other [
        | inl y ↦ let e = one_of (slice_get ends b) q p r s x y in inr (e.1, e.0)
        | inr y ↦ let e = one_of (slice_get ends b) q p s r x y in inl (e.1, e.0)
      ]
    ]

-- where the bond at a place is taken to
pub record Taken (m n : Molecule) (f : ℕ → ℕ) (b : ℕ) : Type 0 where
  pub to : ℕ
  pub is : (x : Bond) → slice_get m.bonds b ≡ Some x → Lies n to (f x.a) (f x.b) x.kind

pub some_one : {X : Type 0} (x y : X) → Some x ≡ Some y → x ≡ y
some_one x y same = cc

pub taken : (m n : Molecule) (f : ℕ → ℕ)
    → ((x y : ℕ) (kind : BondKind) → HasBond m x y kind → HasBond n (f x) (f y) kind) → (b : ℕ) → Taken m n f b
taken m n f kept b =
    elim (cases_lt b (length m.bonds)) [
      | inl within ↦
          let none : Bond = record { a = 0; b = 0; kind = Single } in
          let bond : Bond = get_or m.bonds b none in
          let read : slice_get m.bonds b ≡ Some bond = slice_get-get_or m.bonds b none within in
          let at = lies n (f bond.a) (f bond.b) bond.kind
          (kept bond.a bond.b bond.kind (inl (contains m.bonds b bond read))) in
          record {
            to = at.0;
            is = λ x h. subst (λ (y : Bond). Lies n at.0 (f y.a) (f y.b) y.kind)
                (some_one bond x (sym read ∙ h)) at.1;
          }
      | inr past ↦ record { to = 0; is = λ x h. absurd (omega (arith, slice_get_within m.bonds b x h)) }
    ]

pub bond_at : (m : Molecule) (b : ℕ) → b < length m.bonds → (x : Bond) × (slice_get m.bonds b ≡ Some x)
bond_at m b within =
    let none : Bond = record { a = 0; b = 0; kind = Single } in
    (get_or m.bonds b none, slice_get-get_or m.bonds b none within)

lies-within : (m : Molecule) (b x y : ℕ) (kind : BondKind) → Lies m b x y kind → b < length m.bonds
lies-within m b x y kind at =
    elim at [ inl one ↦ slice_get_within m.bonds b _ one | inr other ↦ slice_get_within m.bonds b _ other ]

-- bonds are told apart by their ends
bonds-apart : (m n : Molecule) (f g : ℕ → ℕ) (i j c : ℕ) (x y : Bond) → IsMolecule m → ((a : ℕ) → g (f a) ≡ a)
    → slice_get m.bonds i ≡ Some x → slice_get m.bonds j ≡ Some y → Lies n c (f x.a) (f x.b) x.kind
    → Lies n c (f y.a) (f y.b) y.kind → i ≡ j
bonds-apart m n f g i j c x y is back one other here there =
    let equal : (a b : ℕ) → f a ≡ f b → a ≡ b = λ a b same. sym (back a) ∙ ap g same ∙ back b in
    let first : JoinsAt (ends_of m) i x.a x.b = joins m i x.a x.b x.kind (inl one) in
    let second : JoinsAt (ends_of m) j y.a y.b = joins m j y.a y.b y.kind (inl other) in
    let once : (p q : ℕ) → JoinsAt (ends_of m) i p q → JoinsAt (ends_of m) j p q → i ≡ j =
    λ p q s t. is.graph.once i j p q s t in
    elim (same_ends (ends_of n) c (f x.a) (f x.b) (f y.a) (f y.b) (joins n c (f x.a) (f x.b) x.kind here)
    (joins n c (f y.a) (f y.b) y.kind there)) [
      | inl e ↦ once y.a y.b (subst (λ p. JoinsAt (ends_of m) i p y.b) (equal x.a y.a e.0)
          (subst (λ q. JoinsAt (ends_of m) i x.a q) (equal x.b y.b e.1) first)) second
      | inr e ↦ once y.b y.a (subst (λ p. JoinsAt (ends_of m) i p y.a) (equal x.a y.b e.0)
          (subst (λ q. JoinsAt (ends_of m) i x.a q) (equal x.b y.a e.1) first))
          (elim second [ inl s ↦ inr s | inr s ↦ inl s ])
    ]

-- different bonds are taken to different bonds
pub bonds-one : (m n : Molecule) (f g : ℕ → ℕ) → IsMolecule m → ((a : ℕ) → g (f a) ≡ a)
    → (kept : (x y : ℕ) (kind : BondKind) → HasBond m x y kind → HasBond n (f x) (f y) kind)
    → IsOneToOne (length m.bonds) (length n.bonds) (λ b. (taken m n f kept b).to)
bonds-one m n f g is back kept = record {
  within = λ i h.
      let x = bond_at m i h in
      lies-within n (taken m n f kept i).to (f x.0.a) (f x.0.b) x.0.kind ((taken m n f kept i).is x.0 x.1);
  apart = λ i j h l same.
      let x = bond_at m i h in
      let y = bond_at m j l in
      bonds-apart m n f g i j (taken m n f kept j).to x.0 y.0 is back x.1 y.1
      (subst (λ c. Lies n c (f x.0.a) (f x.0.b) x.0.kind) same ((taken m n f kept i).is x.0 x.1))
      ((taken m n f kept j).is y.0 y.1);
}

pub same_kind : (n : Molecule) (c x y p q : ℕ) (k l : BondKind) → Lies n c x y k → Lies n c p q l → k ≡ l
same_kind n c x y p q k l one other =
    let kinds : (s t : Bond) → slice_get n.bonds c ≡ Some s → slice_get n.bonds c ≡ Some t → s.kind ≡ t.kind =
    λ s t e h. ap (λ (z : Bond). z.kind) (some_one s t (sym e ∙ h)) in
    elim one [
      | inl s ↦ elim other [ inl t ↦ kinds _ _ s t | inr t ↦ kinds _ _ s t ]
      | inr s ↦ elim other [ inl t ↦ kinds _ _ s t | inr t ↦ kinds _ _ s t ]
    ]

pub moved : (m : Molecule) (x y p q : ℕ) (k l : BondKind) → x ≡ p → y ≡ q → k ≡ l → HasBond m x y k → HasBond m p q l
moved m x y p q k l one two three has =
    subst (λ s. HasBond m s q l) one (subst (λ s. HasBond m x s l) two (subst (λ s. HasBond m x y s) three has))

-- each bond of n is one that some bond of m is taken to
pub kept-back : (m n : Molecule) (f g : ℕ → ℕ) → IsMolecule m → length m.bonds ≡ length n.bonds
    → ((a : ℕ) → g (f a) ≡ a) → ((x y : ℕ) (kind : BondKind) → HasBond m x y kind → HasBond n (f x) (f y) kind)
    → (x y : ℕ) (kind : BondKind) → HasBond n x y kind → HasBond m (g x) (g y) kind
kept-back m n f g is count back kept u v kind has =
    let at = lies n u v kind has in
    let c : ℕ = at.0 in
    let there : Lies n c u v kind = at.1 in
    let one : IsOneToOne (length m.bonds) (length m.bonds) (λ b. (taken m n f kept b).to) =
    subst (λ k. IsOneToOne (length m.bonds) k (λ b. (taken m n f kept b).to)) (sym count)
    (bonds-one m n f g is back kept) in
    let found = onto (λ b. (taken m n f kept b).to) (length m.bonds) c one
    (subst (λ k. c < k) (sym count) (lies-within n c u v kind there)) in
    let x = bond_at m found.0 found.1 in
    let here : Lies n c (f x.0.a) (f x.0.b) x.0.kind = subst (λ d. Lies n d (f x.0.a) (f x.0.b) x.0.kind) found.2
    ((taken m n f kept found.0).is x.0 x.1) in
    let bond : HasBond m x.0.a x.0.b x.0.kind = has_bond m found.0 x.0.a x.0.b x.0.kind (inl x.1) in
    let same : x.0.kind ≡ kind = same_kind n c (f x.0.a) (f x.0.b) u v x.0.kind kind here there in
    elim (same_ends (ends_of n) c (f x.0.a) (f x.0.b) u v (joins n c (f x.0.a) (f x.0.b) x.0.kind here)
    (joins n c u v kind there)) [
      | inl e ↦ moved m x.0.a x.0.b (g u) (g v) x.0.kind kind (sym (back x.0.a) ∙ ap g e.0)
          (sym (back x.0.b) ∙ ap g e.1) same bond
      | inr e ↦ moved m x.0.b x.0.a (g u) (g v) x.0.kind kind (sym (back x.0.b) ∙ ap g e.1)
          (sym (back x.0.a) ∙ ap g e.0) same (turned m x.0.a x.0.b x.0.kind bond)
    ]

pub alike-back : (x y : Atom) → IsAlike x y → IsAlike y x
alike-back x y like = record {
  number = sym like.number;
  isotope = sym like.isotope;
  charge = sym like.charge;
  hydrogens = sym like.hydrogens;
  aromatic = sym like.aromatic;
}

-- the map back is a map of the same sort
pub map-back : (m n : Molecule) (f g : ℕ → ℕ) → IsMolecule m → IsMap m n f g → IsMap n m g f
map-back m n f g is all = record {
  atoms = sym all.atoms;
  bonds = sym all.bonds;
  within = all.within_back;
  within_back = all.within;
  back = all.forth;
  forth = all.back;
  alike = λ b y at.
      let inside : g b < length m.atoms = all.within_back b (slice_get_within n.atoms b y at) in
      let x : Atom = get_or m.atoms (g b) y in
      let read : slice_get m.atoms (g b) ≡ Some x = slice_get-get_or m.atoms (g b) y inside in
      let found = all.alike (g b) x read in
      let same : found.0 ≡ y = some_one found.0 y (sym found.1 ∙ ap (slice_get n.atoms) (all.forth b) ∙ at) in
      (x, read, alike-back x y (subst (IsAlike x) same found.2));
  kept = kept-back m n f g is all.bonds all.back all.kept;
}

pub map-self : (m : Molecule) → IsMap m m (λ a. a) (λ a. a)
map-self m = record {
  atoms = refl;
  bonds = refl;
  within = λ a h. h;
  within_back = λ a h. h;
  back = λ a. refl;
  forth = λ a. refl;
  alike = λ a x at. (x, at, record { number = refl; isotope = refl; charge = refl; hydrogens = refl; aromatic = refl });
  kept = λ x y kind has. has;
}

pub alike-along : (x y z : Atom) → IsAlike x y → IsAlike y z → IsAlike x z
alike-along x y z one two = record {
  number = one.number ∙ two.number;
  isotope = one.isotope ∙ two.isotope;
  charge = one.charge ∙ two.charge;
  hydrogens = one.hydrogens ∙ two.hydrogens;
  aromatic = one.aromatic ∙ two.aromatic;
}

-- one map after the other
pub map-along : (m n p : Molecule) (f g h k : ℕ → ℕ) → IsMap m n f g → IsMap n p h k
    → IsMap m p (λ a. h (f a)) (λ a. g (k a))
map-along m n p f g h k one two = record {
  atoms = one.atoms ∙ two.atoms;
  bonds = one.bonds ∙ two.bonds;
  within = λ a l. two.within (f a) (one.within a l);
  within_back = λ a l. one.within_back (k a) (two.within_back a l);
  back = λ a. ap g (two.back (f a)) ∙ one.back a;
  forth = λ a. ap h (one.forth (k a)) ∙ two.forth a;
  alike = λ a x at.
      let first = one.alike a x at in
      let second = two.alike (f a) first.0 first.1 in
      (second.0, second.1, alike-along x first.0 second.0 first.2 second.2);
  kept = λ x y kind has. two.kept (f x) (f y) kind (one.kept x y kind has);
}
