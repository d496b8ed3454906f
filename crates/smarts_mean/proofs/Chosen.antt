-- The bonds to some of an atom's neighbours, each once: as the neighbours are passed in turn, and when all are.
use Rattle.std.proofs.Common.{refl, zero, suc, [], ◌⊎◌, ◌||◌, ◌&&◌, eqb, Bool, true, false, ℕ, ◌+◌, ◌<◌, ◌≤◌, ◌≡◌, inl, inr, Some, List, length, map, slice_get, get_or, take, Contains, count_by, sym, ap, subst, ◌∙◌, arith, option_map, unwrap_or, pos}
use Rattle.std.proofs.Math.Seq.{take-length}
use Rattle.std.proofs.lemmas.Bool.{cases_eq, cases_Bool, false≢true, eq-eqb, eqb-true, and_from, and_parts, or_cases, or_left, or_right}
use Rattle.std.proofs.lemmas.List.{get_or-map, get_or_default, length-map}
use Rattle.std.proofs.lemmas.List.Elements.{Contains-get_or}
use Rattle.std.proofs.lemmas.List.Kept.{AllPairs-from_increasing}
use Rattle.std.proofs.lemmas.List.Sums.{count_by_more_no, count_by_more_yes}
use Rattle.std.proofs.lemmas.Option.{get_or_from_slice_get, slice_get-get_or, slice_get_within, same_Some}
use Rattle.chem_core.specs.declared.mol.Atom.{Atom}
use Rattle.chem_core.specs.declared.mol.Bond.{Bond}
use Rattle.chem_core.specs.Graph.{AreNeighbours, Ends, IsRingBond, IsRingBondCount, JoinsAt}
use Rattle.chem_core.specs.Molecule.{IsMolecule, Molecule, ends_of}
use Rattle.smarts_parse.specs.Truth.{is_hydrogen}
use Rattle.smarts_mean.proofs.Ascending.{Ascends, With, ascends_from, increasing_from, same_length, with_new}

-- the bonds of those of the first k neighbours that have Q
pub record Chosen (Q : ℕ × ℕ → Type 0) (pairs : List (ℕ × ℕ)) (k n : ℕ) : Type 0 where
  pub bonds : List ℕ
  pub ascends : Ascends bonds
  pub count : length bonds ≡ n
  pub few : n ≤ k
  pub from : (b : ℕ) → Contains bonds b → (j : ℕ) × (j < k) × ((get_or pairs j (0, 0)).1 ≡ b)
      × Q (get_or pairs j (0, 0))
  pub each : (j : ℕ) → j < k → Q (get_or pairs j (0, 0)) → Contains bonds (get_or pairs j (0, 0)).1

abbrev pair : ℕ → ℕ → ℕ × ℕ
pair x y = (x, y)

-- two ends of a bond: the other end is one atom
other_end : (ends : Ends) (b a x y : ℕ) → JoinsAt ends b a x → JoinsAt ends b a y → x ≡ y
other_end ends b a x y (inl p) (inl q) = ap (λ (e : ℕ × ℕ). e.1) (same_Some (pair a x) (pair a y) (sym p ∙ q))
other_end ends b a x y (inl p) (inr q) = let e = same_Some (pair a x) (pair y a) (sym p ∙ q)
    in ap (λ (e : ℕ × ℕ). e.1) e ∙ ap (λ (e : ℕ × ℕ). e.0) e
other_end ends b a x y (inr p) (inl q) = let e = same_Some (pair x a) (pair a y) (sym p ∙ q)
    in ap (λ (e : ℕ × ℕ). e.0) e ∙ ap (λ (e : ℕ × ℕ). e.1) e
other_end ends b a x y (inr p) (inr q) = ap (λ (e : ℕ × ℕ). e.0) (same_Some (pair x a) (pair y a) (sym p ∙ q))

-- an end of a bond is one of its two ends
pub shares_end : (ends : Ends) (b a n x y : ℕ) → JoinsAt ends b a n → JoinsAt ends b x y → (a ≡ x) ⊎ (a ≡ y)
shares_end ends b a n x y (inl p) (inl q) = inl (ap (λ (e : ℕ × ℕ). e.0) (same_Some (pair a n) (pair x y) (sym p ∙ q)))
shares_end ends b a n x y (inl p) (inr q) = inr (ap (λ (e : ℕ × ℕ). e.0) (same_Some (pair a n) (pair y x) (sym p ∙ q)))
shares_end ends b a n x y (inr p) (inl q) = inr (ap (λ (e : ℕ × ℕ). e.1) (same_Some (pair n a) (pair x y) (sym p ∙ q)))
shares_end ends b a n x y (inr p) (inr q) = inl (ap (λ (e : ℕ × ℕ). e.1) (same_Some (pair n a) (pair y x) (sym p ∙ q)))

pub joined_at : (ends : Ends) (a : ℕ) (pairs : List (ℕ × ℕ)) (k : ℕ) → AreNeighbours ends a pairs → k < length pairs
    → JoinsAt ends (get_or pairs k (0, 0)).1 a (get_or pairs k (0, 0)).0
joined_at ends a pairs k h l = h.joined (get_or pairs k (0, 0)).0 (get_or pairs k (0, 0)).1
    (Contains-get_or pairs k (0, 0) l)

-- a neighbour is an atom, and the bond to it a bond
pub neighbour_in_range : (m : Molecule) (a : ℕ) (pairs : List (ℕ × ℕ)) (k : ℕ) (d : ℕ × ℕ) → IsMolecule m
    → AreNeighbours (ends_of m) a pairs → k < length pairs
    → ((get_or pairs k d).0 < length m.atoms) × ((get_or pairs k d).1 < length m.bonds)
neighbour_in_range m a pairs k d valid h l = at (get_or pairs k d).1 (get_or pairs k d).0
    (h.joined (get_or pairs k d).0 (get_or pairs k d).1 (Contains-get_or pairs k d l))
  where
    place : (b : ℕ) (e : ℕ × ℕ) → slice_get (ends_of m) b ≡ Some e → b < length m.bonds
    place b e get = subst (λ n. b < n) (length-map m.bonds (λ (x : Bond). (x.a, x.b)))
        (slice_get_within (ends_of m) b e get)

    at : (b n : ℕ) → JoinsAt (ends_of m) b a n → (n < length m.atoms) × (b < length m.bonds)
    at b n (inl e) = (
      (subst (λ (x : ℕ × ℕ). (x.0 < length m.atoms) × (x.1 < length m.atoms))
          (get_or_from_slice_get (ends_of m) b (a, n) (a, n) e)
          (valid.graph.in_range b (a, n) (slice_get_within (ends_of m) b (a, n) e))).1,
      place b (a, n) e,
    )
    at b n (inr e) = (
      (subst (λ (x : ℕ × ℕ). (x.0 < length m.atoms) × (x.1 < length m.atoms))
          (get_or_from_slice_get (ends_of m) b (n, a) (n, a) e)
          (valid.graph.in_range b (n, a) (slice_get_within (ends_of m) b (n, a) e))).0,
      place b (n, a) e,
    )

-- whether the atom that is read at the place is hydrogen
pub hydrogen_read : (m : Molecule) (a : ℕ) (d : Atom) → a < length m.atoms
    → is_hydrogen m a ≡ eqb (get_or m.atoms a d).number 1
hydrogen_read m a d l = ap (λ o. unwrap_or (option_map (λ (y : Atom). eqb y.number 1) o) false)
    (slice_get-get_or m.atoms a d l)

abbrev pub no_atom : Atom
no_atom = record { number = 0; isotope = 0; charge = pos 0; hydrogens = 0; aromatic = false; valence = 0 }

-- no two neighbours are joined by one bond
bonds_apart : (ends : Ends) (a : ℕ) (pairs : List (ℕ × ℕ)) (j k : ℕ) → AreNeighbours ends a pairs → j < k
    → k < length pairs → (get_or pairs j (0, 0)).1 ≡ (get_or pairs k (0, 0)).1 → ⊥
bonds_apart ends a pairs j k h l m same =
    let firsts : List ℕ = map (λ (p : ℕ × ℕ). p.0) pairs in
    let rise : get_or firsts j 0 < get_or firsts k 0 = AllPairs-from_increasing firsts h.ascending j k 0 l
    (subst (λ n. k < n) (sym (length-map pairs (λ (p : ℕ × ℕ). p.0))) m) in
    let low : get_or firsts j 0 ≡ (get_or pairs j (0, 0)).0 = get_or-map (λ (p : ℕ × ℕ). p.0) pairs j (0, 0) 0
    (omega arith) in
    let high : get_or firsts k 0 ≡ (get_or pairs k (0, 0)).0 = get_or-map (λ (p : ℕ × ℕ). p.0) pairs k (0, 0) 0 m in
    let one = joined_at ends a pairs j h (omega arith) in
    let other = subst (λ b. JoinsAt ends b a (get_or pairs k (0, 0)).0) (sym same) (joined_at ends a pairs k h m) in
    let both : (get_or pairs j (0, 0)).0 ≡ (get_or pairs k (0, 0)).0 = other_end ends _ a _ _ one other in
    omega arith

pub chosen_yes : (Q : ℕ × ℕ → Type 0) (ends : Ends) (a : ℕ) (pairs : List (ℕ × ℕ)) (k n : ℕ)
    → AreNeighbours ends a pairs → k < length pairs → Q (get_or pairs k (0, 0)) → Chosen Q pairs k n
    → Chosen Q pairs (k + 1) (n + 1)
chosen_yes Q ends a pairs k n h l has before =
    let b : ℕ = (get_or pairs k (0, 0)).1 in
    let more : With before.bonds b = with_new before.bonds b before.ascends (λ old. let w = before.from b old
    in bonds_apart ends a pairs w.0 k h w.1 l w.2) in
    record {
      bonds = more.list;
      ascends = more.ascends;
      count = more.longer ∙ ap (λ m. m + 1) before.count;
      few = let f = before.few in omega arith;
      from = λ c old. elim (more.from c old) [
        | inl e ↦ (k, omega arith, e, has)
        | inr q ↦ let w = before.from c q
            in (w.0, omega (arith, w.1), w.2, w.3)
      ];
      each = λ j m q. elim (cases_eq j k) [
        | inl e ↦ subst (λ i. Contains more.list (get_or pairs i (0, 0)).1) (sym e) more.new
        | inr apart ↦ more.kept _ (before.each j (omega arith) q)
      ];
    }

pub chosen_no : (Q : ℕ × ℕ → Type 0) (pairs : List (ℕ × ℕ)) (k n : ℕ) → (Q (get_or pairs k (0, 0)) → ⊥)
    → Chosen Q pairs k n → Chosen Q pairs (k + 1) n
chosen_no Q pairs k n lacks before = record {
  bonds = before.bonds;
  ascends = before.ascends;
  count = before.count;
  few = let f = before.few in omega arith;
  from = λ c old. let w = before.from c old in (w.0, omega (arith, w.1), w.2, w.3);
  each = λ j m q. elim (cases_eq j k) [
    | inl e ↦ absurd (lacks (subst (λ i. Q (get_or pairs i (0, 0))) e q))
    | inr apart ↦ before.each j (omega arith) q
  ];
}

-- the place of a neighbour, by its bond
place_among : (ends : Ends) (a : ℕ) (pairs : List (ℕ × ℕ)) (b x : ℕ) → AreNeighbours ends a pairs → JoinsAt ends b a x
    → (j : ℕ) × (j < length pairs) × (get_or pairs j (0, 0) ≡ (x, b))
place_among ends a pairs b x h j = let w = h.each x b j in (w.0, w.1, get_or_default pairs w.0 (0, 0) (x, b) w.1 ∙ w.2)

-- all ring bonds of the atom are counted
pub ring_bonds_counted : (ends : Ends) (a : ℕ) (pairs : List (ℕ × ℕ)) (n : ℕ) → AreNeighbours ends a pairs
    → Chosen (λ p. IsRingBond ends p.1) pairs (length pairs) n → IsRingBondCount ends a n
ring_bonds_counted ends a pairs n h all = (
  all.bonds,
  increasing_from all.bonds all.ascends,
  all.count,
  λ b in'. let w = all.from b in' in (
    (
      (get_or pairs w.0 (0, 0)).0,
      subst (λ c. JoinsAt ends c a (get_or pairs w.0 (0, 0)).0) w.2
          (joined_at ends a pairs w.0 h w.1),
    ),
    subst (λ c. IsRingBond ends c) w.2 w.3,
  ),
  λ b x joins ring.
      let w = place_among ends a pairs b x h joins in
      let bond : (get_or pairs w.0 (0, 0)).1 ≡ b = ap (λ (e : ℕ × ℕ). e.1) w.2 in
      subst (λ c. Contains all.bonds c) bond (all.each w.0 w.1 (subst (λ c. IsRingBond ends c) (sym bond) ring)),
)

-- there is one such count
pub ring_bond_count_one : (ends : Ends) (a n m : ℕ) → IsRingBondCount ends a n → IsRingBondCount ends a m → n ≡ m
ring_bond_count_one ends a n m f g = sym f.2 ∙ same_length f.0 g.0 (ascends_from f.0 f.1) (ascends_from g.0 g.1)
    (λ b in'. let w = f.3 b in' in g.4 b w.0.0 w.0.1 w.1) (λ b in'. let w = g.3 b in' in f.4 b w.0.0 w.0.1 w.1) ∙ g.2

-- ---- how many bonds pass a test, by a list of these

record Passing (test : ℕ × ℕ → Bool) (ends : Ends) (k : ℕ) : Type 0 where
  bonds : List ℕ
  ascends : Ascends bonds
  count : length bonds ≡ count_by test (take k ends)
  from : (b : ℕ) → Contains bonds b → (b < k) × (test (get_or ends b (0, 0)) ≡ true)
  each : (b : ℕ) → b < k → test (get_or ends b (0, 0)) ≡ true → Contains bonds b

passing : (test : ℕ × ℕ → Bool) (ends : Ends) (k : ℕ) → k ≤ length ends → Passing test ends k
passing test ends zero h = record {
  bonds = [];
  ascends = tt;
  count = refl;
  from = λ b q. absurd (omega (arith, q.1));
  each = λ b l. absurd (omega arith);
}
passing test ends (suc k) h =
    let before : Passing test ends k = passing test ends k (omega arith) in
    let next : k + 1 ≡ suc k = omega arith in
    elim (cases_Bool (test (get_or ends k (0, 0)))) [
      | inl passes ↦
          let more : With before.bonds k = with_new before.bonds k before.ascends (λ old. let w = before.from k old
          in omega (arith, w.0)) in record {
            bonds = more.list;
            ascends = more.ascends;
            count = more.longer ∙ ap (λ m. m + 1) before.count
                ∙ sym (count_by_more_yes test ends k (0, 0) (omega arith) passes)
                ∙ ap (λ m. count_by test (take m ends)) next;
            from = λ b old. elim (more.from b old) [
              | inl e ↦ (omega arith, subst (λ c. test (get_or ends c (0, 0)) ≡ true) e passes)
              | inr q ↦ let w = before.from b q in (omega (arith, w.0), w.1)
            ];
            each = λ b l t. elim (cases_eq b k) [
              | inl e ↦ subst (λ c. Contains more.list c) (sym e) more.new
              | inr apart ↦ more.kept b (before.each b (omega arith) t)
            ];
          }
      | inr fails ↦ record {
        bonds = before.bonds;
        ascends = before.ascends;
        count = before.count ∙ sym (count_by_more_no test ends k (0, 0) (omega arith) fails)
            ∙ ap (λ m. count_by test (take m ends)) next;
        from = λ b old. let w = before.from b old in (omega (arith, w.0), w.1);
        each = λ b l t. elim (cases_eq b k) [
          | inl e ↦ absurd (false≢true (sym fails ∙ subst (λ c. test (get_or ends c (0, 0)) ≡ true) e t))
          | inr apart ↦ before.each b (omega arith) t
        ];
      }
    ]

-- all neighbours that have a property are counted, as the ends of bonds are
pub neighbours_counted : (f : ℕ → Bool) (ends : Ends) (a : ℕ) (pairs : List (ℕ × ℕ)) (n : ℕ)
    → AreNeighbours ends a pairs → Chosen (λ p. f p.0 ≡ true) pairs (length pairs) n
    → n ≡ count_by (λ e. (eqb e.0 a && f e.1) || (eqb e.1 a && f e.0)) ends
neighbours_counted f ends a pairs n h all =
    let test : ℕ × ℕ → Bool = λ e. (eqb e.0 a && f e.1) || (eqb e.1 a && f e.0) in
    let whole : Passing test ends (length ends) = passing test ends (length ends) (omega arith) in
    let passes : (b x : ℕ) → JoinsAt ends b a x → f x ≡ true → (b < length ends)
    × (test (get_or ends b (0, 0)) ≡ true) = λ b x joins has. elim joins [
      | inl e ↦
          let is : get_or ends b (0, 0) ≡ (a, x) = get_or_from_slice_get ends b (a, x) (0, 0) e in (
            slice_get_within ends b (a, x) e,
            rw is
                (or_left (eqb a a && f x) (eqb x a && f a) (and_from _ _ (eq-eqb a a refl) has)),
          )
      | inr e ↦
          let is : get_or ends b (0, 0) ≡ (x, a) = get_or_from_slice_get ends b (x, a) (0, 0) e in (
            slice_get_within ends b (x, a) e,
            rw is
                (or_right (eqb x a && f a) (eqb a a && f x) (and_from _ _ (eq-eqb a a refl) has)),
          )
    ] in
    let found : (b : ℕ) → b < length ends → test (get_or ends b (0, 0)) ≡ true
    → (x : ℕ) × JoinsAt ends b a x × (f x ≡ true) = λ b l t.
    let e : ℕ × ℕ = get_or ends b (0, 0) in
    let read : slice_get ends b ≡ Some e = slice_get-get_or ends b (0, 0) l in
    elim (or_cases (eqb e.0 a && f e.1) (eqb e.1 a && f e.0) t) [
      | inl q ↦ let w = and_parts (eqb e.0 a) (f e.1) q
          in (e.1, inl (read ∙ ap (λ y. Some (pair y e.1)) (eqb-true e.0 a w.0)), w.1)
      | inr q ↦ let w = and_parts (eqb e.1 a) (f e.0) q
          in (e.0, inr (read ∙ ap (λ y. Some (pair e.0 y)) (eqb-true e.1 a w.0)), w.1)
    ] in
    sym all.count ∙ same_length all.bonds whole.bonds all.ascends whole.ascends
    (λ b old.
    let w = all.from b old in
    let p = passes b (get_or pairs w.0 (0, 0)).0
    (subst (λ c. JoinsAt ends c a (get_or pairs w.0 (0, 0)).0) w.2 (joined_at ends a pairs w.0 h w.1)) w.3 in
    whole.each b p.0 p.1)
    (λ b old.
    let t = whole.from b old in
    let w = found b t.0 t.1 in
    let place = place_among ends a pairs b w.0 h w.1 in
    let bond : (get_or pairs place.0 (0, 0)).1 ≡ b = ap (λ (e : ℕ × ℕ). e.1) place.2 in
    let atom : (get_or pairs place.0 (0, 0)).0 ≡ w.0 = ap (λ (e : ℕ × ℕ). e.0) place.2 in
    subst (λ c. Contains all.bonds c) bond (all.each place.0 place.1 (ap f atom ∙ w.2))) ∙ whole.count
    ∙ ap (count_by test) (take-length ends)
