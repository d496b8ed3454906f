-- The bonds of an atom, by its list of neighbours.
use Rattle.std.proofs.Common.{◌≡◌, ℕ, ◌+◌, ◌<◌, inl, inr, List, length, get_or, slice_get, Some, sym, ap, ◌∙◌, subst, arith}
use Rattle.std.proofs.lemmas.Bool.{cases_eq}
use Rattle.std.proofs.lemmas.List.{length-map}
use Rattle.std.proofs.lemmas.Option.{slice_get-get_or, slice_get_within}
use Rattle.chem_core.specs.declared.mol.Bond.{Bond}
use Rattle.chem_core.specs.declared.mol.BondKind.{BondKind}
use Rattle.chem_core.specs.Graph.{JoinsAt, AreNeighbours}
use Rattle.chem_core.specs.Molecule.{Molecule, IsMolecule, ends_of}
use Rattle.exact_find.specs.Same.{HasBond}
use Rattle.exact_find.specs.Pairs.{Has, IsPaired, Carries, IsCarried}
use Rattle.exact_find.proofs.Maps.{Lies, lies, has_bond, joins, same_kind, same_ends, bond_at, some_one}

-- bonds between the same atoms are one, so their kind is one
pub one_kind : (m : Molecule) (x y : ℕ) (k l : BondKind) → IsMolecule m → HasBond m x y k → HasBond m x y l → k ≡ l
one_kind m x y k l is one two =
    let s = lies m x y k one in
    let t = lies m x y l two in
    let same : s.0 ≡ t.0 = is.graph.once s.0 t.0 x y (joins m s.0 x y k s.1) (joins m t.0 x y l t.1) in
    same_kind m t.0 x y x y k l (subst (λ b. Lies m b x y k) same s.1) t.1

-- the bond at a place that joins two atoms
pub at_place : (m : Molecule) (b x y : ℕ) (bond : Bond) → JoinsAt (ends_of m) b x y → slice_get m.bonds b ≡ Some bond
    → HasBond m x y bond.kind
at_place m b x y bond at read =
    has_bond m b x y bond.kind
    (elim (same_ends (ends_of m) b x y bond.a bond.b at (joins m b bond.a bond.b bond.kind (inl read))) [
      | inl e ↦ inl (subst (λ p. slice_get m.bonds b ≡ Some (record { a = p; b = y; kind = bond.kind })) (sym e.0)
          (subst (λ q. slice_get m.bonds b ≡ Some (record { a = bond.a; b = q; kind = bond.kind })) (sym e.1) read))
      | inr e ↦ inr (subst (λ q. slice_get m.bonds b ≡ Some (record { a = y; b = q; kind = bond.kind })) (sym e.0)
          (subst (λ p. slice_get m.bonds b ≡ Some (record { a = p; b = bond.b; kind = bond.kind })) (sym e.1) read))
    ])

-- the neighbour at a place of the list, by the bond beside it
pub near : (m : Molecule) (a : ℕ) (ns : List (ℕ × ℕ)) (k : ℕ) → AreNeighbours (ends_of m) a ns → k < length ns
    → JoinsAt (ends_of m) (get_or ns k (0, 0)).1 a (get_or ns k (0, 0)).0
near m a ns k are within =
    let pair : ℕ × ℕ = get_or ns k (0, 0) in
    are.joined pair.0 pair.1 (
      k,
      within,
      some_one (get_or ns k pair) pair
          (sym (slice_get-get_or ns k pair within) ∙ slice_get-get_or ns k (0, 0) within),
    )

-- each neighbour is in the list
pub near_each : (m : Molecule) (a c : ℕ) (kind : BondKind) (ns : List (ℕ × ℕ)) → AreNeighbours (ends_of m) a ns
    → HasBond m a c kind → (k : ℕ) × (k < length ns) × ((get_or ns k (0, 0)).0 ≡ c)
near_each m a c kind ns are has =
    let at = lies m a c kind has in
    let pair : ℕ × ℕ = (c, at.0) in
    let in' = are.each c at.0 (joins m at.0 a c kind at.1) in
    let read : get_or ns in'.0 (0, 0) ≡ pair = some_one (get_or ns in'.0 (0, 0)) pair
    (sym (slice_get-get_or ns in'.0 (0, 0) in'.1) ∙ slice_get-get_or ns in'.0 pair in'.1 ∙ ap Some in'.2) in
    (in'.0, in'.1, ap (λ (p : ℕ × ℕ). p.0) read)

-- the same of the neighbours below a place of the list
abbrev pub IsCarriedBelow : Molecule → Molecule → List (ℕ × ℕ) → ℕ → ℕ → List (ℕ × ℕ) → ℕ → Type 0
IsCarriedBelow m n ps a b ns place = (k : ℕ) → k < place → (d : ℕ) (kind : BondKind) → Has ps (get_or ns k (0, 0)).0 d
    → HasBond m a (get_or ns k (0, 0)).0 kind → HasBond n b d kind

pub carried_all : (m n : Molecule) (ps : List (ℕ × ℕ)) (a b : ℕ) (ns : List (ℕ × ℕ)) → AreNeighbours (ends_of m) a ns
    → IsCarriedBelow m n ps a b ns (length ns) → IsCarried m n ps a b
carried_all m n ps a b ns are below = λ c d kind has bond.
    let at = near_each m a c kind ns are bond in
    below at.0 at.1 d kind (subst (λ x. Has ps x d) (sym at.2) has) (subst (λ x. HasBond m a x kind) (sym at.2) bond)

pub carried_none : (m n : Molecule) (ps : List (ℕ × ℕ)) (a b : ℕ) (ns : List (ℕ × ℕ)) (i : ℕ)
    → (IsPaired ps (get_or ns i (0, 0)).0 → ⊥) → IsCarriedBelow m n ps a b ns i → IsCarriedBelow m n ps a b ns (i + 1)
carried_none m n ps a b ns i none below = λ k h d kind has bond.
    elim (cases_eq k i) [
      | inl same ↦ absurd (none (subst (λ j. IsPaired ps (get_or ns j (0, 0)).0) same (d, has)))
      | inr other ↦ below k (omega arith) d kind has bond
    ]

pub carried_one : (m n : Molecule) (ps : List (ℕ × ℕ)) (a b : ℕ) (ns : List (ℕ × ℕ)) (i d : ℕ) (kind : BondKind)
    → IsMolecule m → Carries m n ps → Has ps (get_or ns i (0, 0)).0 d → HasBond m a (get_or ns i (0, 0)).0 kind
    → HasBond n b d kind → IsCarriedBelow m n ps a b ns i → IsCarriedBelow m n ps a b ns (i + 1)
carried_one m n ps a b ns i d kind is carries has bond there below = λ k h e l has' bond'.
    elim (cases_eq k i) [
      | inl same ↦
          let x : ℕ = (get_or ns i (0, 0)).0 in
          let here : HasBond m a x l = subst (λ j. HasBond m a (get_or ns j (0, 0)).0 l) same bond' in
          let pair : Has ps x e = subst (λ j. Has ps (get_or ns j (0, 0)).0 e) same has' in
          subst (λ y. HasBond n b y l) (carries.one x d e has pair)
          (subst (λ z. HasBond n b d z) (one_kind m a x kind l is bond here) there)
      | inr other ↦ below k (omega arith) e l has' bond'
    ]

-- the bond beside a neighbour is one of the molecule's
pub near_within : (m : Molecule) (a : ℕ) (ns : List (ℕ × ℕ)) (k : ℕ) → AreNeighbours (ends_of m) a ns → k < length ns
    → (get_or ns k (0, 0)).1 < length m.bonds
near_within m a ns k are within =
    let ends : Bond → ℕ × ℕ = λ e. (e.a, e.b) in
    let long : length (ends_of m) ≡ length m.bonds = length-map m.bonds ends in
    let inside : (e : ℕ × ℕ) → slice_get (ends_of m) (get_or ns k (0, 0)).1 ≡ Some e
    → (get_or ns k (0, 0)).1 < length m.bonds = λ e read.
    subst (λ n. (get_or ns k (0, 0)).1 < n) long (slice_get_within (ends_of m) (get_or ns k (0, 0)).1 e read) in
    elim (near m a ns k are within) [ inl one ↦ inside _ one | inr other ↦ inside _ other ]

-- the kind of the bond beside a neighbour
pub near_kind : (m : Molecule) (a c : ℕ) (ns : List (ℕ × ℕ)) (k : ℕ) (bonds : List Bond) (b : ℕ) (none : Bond)
    → AreNeighbours (ends_of m) a ns → k < length ns → bonds ≡ m.bonds → b ≡ (get_or ns k (0, 0)).1
    → (get_or ns k (0, 0)).0 ≡ c → HasBond m a c (get_or bonds b none).kind
near_kind m a c ns k bonds b none are within same at to =
    let read : slice_get m.bonds b ≡ Some (get_or bonds b none) =
    slice_get-get_or m.bonds b none (subst (λ n. n < length m.bonds) (sym at) (near_within m a ns k are within))
    ∙ ap (λ (xs : List Bond). Some (get_or xs b none)) (sym same) in
    let joined : JoinsAt (ends_of m) b a c = subst (λ n. JoinsAt (ends_of m) n a c) (sym at)
    (subst (λ n. JoinsAt (ends_of m) (get_or ns k (0, 0)).1 a n) to (near m a ns k are within)) in
    at_place m b a c (get_or bonds b none) joined read

-- some bond joins an atom to its neighbour
pub near_bond : (m : Molecule) (a : ℕ) (ns : List (ℕ × ℕ)) (k : ℕ) → AreNeighbours (ends_of m) a ns → k < length ns
    → (kind : BondKind) × HasBond m a (get_or ns k (0, 0)).0 kind
near_bond m a ns k are within =
    let x = bond_at m (get_or ns k (0, 0)).1 (near_within m a ns k are within) in
    (x.0.kind, at_place m (get_or ns k (0, 0)).1 a (get_or ns k (0, 0)).0 x.0 (near m a ns k are within) x.1)
