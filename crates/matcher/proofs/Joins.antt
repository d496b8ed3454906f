-- Bonds and neighbours of an atom.
use Rattle.std.proofs.Common.{◌≡◌, ℕ, ◌<◌, ◌≤◌, List, length, map, get_or, All, Contains, sym, ap, ◌∙◌, subst, ⊎_elim, arith, inl, inr}
use Rattle.std.proofs.lemmas.Bool.{cases_lt}
use Rattle.std.proofs.lemmas.List.{get_or-map, get_or_default, length-map}
use Rattle.std.proofs.lemmas.List.Elements.{Contains-get_or}
use Rattle.std.proofs.lemmas.List.Kept.{AllPairs-from_increasing}
use Rattle.std.proofs.lemmas.Option.{get_or_from_slice_get, slice_get_within}
use Rattle.chem_core.specs.declared.mol.Bond.{Bond}
use Rattle.chem_core.specs.Graph.{AreNeighbours, Ends, JoinsAt}
use Rattle.chem_core.specs.Molecule.{IsMolecule, Molecule, ends_of}

-- a bond joins its ends either way
pub joined_back : (ends : Ends) (b x y : ℕ) → JoinsAt ends b x y → JoinsAt ends b y x
joined_back ends b x y (inl e) = inr e
joined_back ends b x y (inr e) = inl e

pub joined_at : (ends : Ends) (from to : ℕ) (pairs : List (ℕ × ℕ)) (k : ℕ) (d : ℕ × ℕ) → AreNeighbours ends from pairs
    → k < length pairs → (get_or pairs k d).0 ≡ to → JoinsAt ends (get_or pairs k d).1 from to
joined_at ends from to pairs k d h l e = subst (λ n. JoinsAt ends (get_or pairs k d).1 from n) e
    (h.joined (get_or pairs k d).0 (get_or pairs k d).1 (Contains-get_or pairs k d l))

-- an atom that no neighbour's pair names is no neighbour
pub not_joined : (ends : Ends) (from to : ℕ) (pairs : List (ℕ × ℕ)) → AreNeighbours ends from pairs
    → ((k : ℕ) (d : ℕ × ℕ) → k < length pairs → (get_or pairs k d).0 ≡ to → ⊥) → (b : ℕ) → JoinsAt ends b from to → ⊥
not_joined ends from to pairs h none b j = let w = h.each to b j in none w.0 (to, b) w.1 (ap (λ p. p.0) w.2)

-- two atoms are joined by one bond at most, since the list of neighbours ascends
pub one_bond : (ends : Ends) (from to : ℕ) (pairs : List (ℕ × ℕ)) → AreNeighbours ends from pairs → (b c : ℕ)
    → JoinsAt ends b from to → JoinsAt ends c from to → b ≡ c
one_bond ends from to pairs h b c p q = same_place (h.each to b p) (h.each to c q)
  where
    read : (x : ℕ) (w : Contains pairs (to, x)) → get_or (map (λ (e : ℕ × ℕ). e.0) pairs) w.0 0 ≡ to
    read x w = get_or-map (λ (e : ℕ × ℕ). e.0) pairs w.0 (to, x) 0 w.1 ∙ ap (λ (e : ℕ × ℕ). e.0) w.2

    within : (x : ℕ) (w : Contains pairs (to, x)) → w.0 < length (map (λ (e : ℕ × ℕ). e.0) pairs)
    within x w = subst (λ n. w.0 < n) (sym (length-map pairs (λ (e : ℕ × ℕ). e.0))) w.1

    apart : (x y : ℕ) (v : Contains pairs (to, x)) (w : Contains pairs (to, y)) → v.0 < w.0 → ⊥
    apart x y v w lt = let low = AllPairs-from_increasing (map (λ (e : ℕ × ℕ). e.0) pairs) h.ascending v.0 w.0 0 lt
        (within y w) in omega (arith, low, read x v, read y w)

    same_place : Contains pairs (to, b) → Contains pairs (to, c) → b ≡ c
    same_place v w = ⊎_elim (λ lt. absurd (apart b c v w lt)) (λ le. ⊎_elim (λ lt. absurd (apart c b w v lt))
        (λ ge. let places : v.0 ≡ w.0 = omega arith
        in ap (λ (e : ℕ × ℕ). e.1) (sym v.2 ∙ ap (λ k. get_or pairs k (to, b)) places
        ∙ get_or_default pairs w.0 (to, b) (to, c) w.1 ∙ w.2))
        (cases_lt w.0 v.0)) (cases_lt v.0 w.0)

-- what holds of each image holds of an element's image
pub All-image : {X Y : Type 0} (P : X → Type 0) (f : Y → X) (ys : List Y) (k : ℕ) (y : Y) → k < length ys
    → y ≡ get_or ys k y → All P (map f ys) → P (f y)
All-image P f ys k y l e h = subst P (get_or-map f ys k y (f y) l ∙ ap f (sym e))
    (h k (f y) (subst (λ n. k < n) (sym (length-map ys f)) l))

-- a bond is one of the molecule's, and its ends are atoms
pub joins_in_range : (m : Molecule) (b x y : ℕ) → IsMolecule m → JoinsAt (ends_of m) b x y
    → (b < length m.bonds) × (y < length m.atoms)
joins_in_range m b x y valid (inl e) = (
  subst (λ n. b < n) (length-map m.bonds (λ (z : Bond). (z.a, z.b))) (slice_get_within (ends_of m) b (x, y) e),
  (subst (λ (z : ℕ × ℕ). (z.0 < length m.atoms) × (z.1 < length m.atoms))
      (get_or_from_slice_get (ends_of m) b (x, y) (x, y) e)
      (valid.graph.in_range b (x, y) (slice_get_within (ends_of m) b (x, y) e))).1,
)
joins_in_range m b x y valid (inr e) = (
  subst (λ n. b < n) (length-map m.bonds (λ (z : Bond). (z.a, z.b))) (slice_get_within (ends_of m) b (y, x) e),
  (subst (λ (z : ℕ × ℕ). (z.0 < length m.atoms) × (z.1 < length m.atoms))
      (get_or_from_slice_get (ends_of m) b (y, x) (y, x) e)
      (valid.graph.in_range b (y, x) (slice_get_within (ends_of m) b (y, x) e))).0,
)

-- the bond to a neighbour
pub neighbour_joined : (ends : Ends) (from : ℕ) (pairs : List (ℕ × ℕ)) (k : ℕ) (d : ℕ × ℕ)
    → AreNeighbours ends from pairs → k < length pairs → JoinsAt ends (get_or pairs k d).1 from (get_or pairs k d).0
neighbour_joined ends from pairs k d h l = h.joined (get_or pairs k d).0 (get_or pairs k d).1
    (Contains-get_or pairs k d l)

-- what a bond joins to an atom stands among its neighbours, with the bond
pub among_neighbours : (ends : Ends) (from a b : ℕ) (pairs : List (ℕ × ℕ)) → AreNeighbours ends from pairs
    → JoinsAt ends b from a → (k : ℕ) × (k < length pairs) × (get_or pairs k (0, 0) ≡ (a, b))
among_neighbours ends from a b pairs h joined = let w = h.each a b joined
    in (w.0, w.1, get_or_default pairs w.0 (0, 0) (a, b) w.1 ∙ w.2)

-- neighbours ascend
pub neighbours_rise : (ends : Ends) (from : ℕ) (pairs : List (ℕ × ℕ)) (i j : ℕ) → AreNeighbours ends from pairs
    → i < length pairs → j < length pairs → (get_or pairs i (0, 0)).0 < (get_or pairs j (0, 0)).0 → i < j
neighbours_rise ends from pairs i j h li lj lt = ⊎_elim (λ before. before) (λ after. absurd (no after)) (cases_lt i j)
  where
    no : j ≤ i → ⊥
    no after = ⊎_elim
        (λ below.
        let rise = AllPairs-from_increasing (map (λ (p : ℕ × ℕ). p.0) pairs) h.ascending j i 0 below
        (subst (λ n. i < n) (sym (length-map pairs (λ (p : ℕ × ℕ). p.0))) li) in
        let low = get_or-map (λ (p : ℕ × ℕ). p.0) pairs j (0, 0) 0 lj in
        let high = get_or-map (λ (p : ℕ × ℕ). p.0) pairs i (0, 0) 0 li in
        omega arith)
        (λ le. let same : i ≡ j = omega arith in let equal = ap (λ k. (get_or pairs k (0, 0)).0) same in omega arith)
        (cases_lt j i)
