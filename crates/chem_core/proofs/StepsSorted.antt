-- The steps from an atom as pairs in ascending order: they are its neighbours.
use Rattle.std.proofs.Common.{◌≡◌, ◌==◌, ℕ, ◌+◌, ◌-◌, ◌<◌, ◌≤◌, Bool, false, true, cond, eqb, nat_lt, inl, inr, List, [], ◌++◌, length, get_or, map, take, drop, Contains, IsPermutation, sym, ap, subst, ◌∙◌, arith}
use borrow.Rule.Slice.PartMut.{mid_of, put_mid}
use Rattle.std.specs.List.{IsDistinct}
use Rattle.std.specs.List.Sorted.{IsNonDecreasing, IsSortedBy}
use Rattle.std.specs.Ordering.{is_lt, nat_cmp, ordering_then}
use Rattle.std.specs.declared.cmp.Ordering.TheVariants.{Less, Equal, Greater}
use Rattle.std.proofs.lemmas.Bool.{cases_lt, false≢true, lt-ltb, ne_eqb}
use Rattle.std.proofs.lemmas.Bool.Decides.{nat_tests}
use Rattle.std.proofs.lemmas.List.{append-nil, drop_all, drop_at, get_or-map, length-append, length-map, take_all, take_at}
use Rattle.std.proofs.lemmas.List.Elements.{Contains-get_or}
use Rattle.std.proofs.lemmas.List.Sorted.{Contains-permutation, IsNonDecreasingBy-from_all_adjacent, IsPermutation-map, IsPermutation-sym, length_permutation}
use Rattle.std.proofs.lemmas.Map.Keys.{IsDistinct-IsPermutation, IsDistinct-from_apart, IsStrictlyIncreasing-from_distinct}
use Rattle.chem_core.specs.Graph.{Ends, JoinsAt, AreNeighbours, IsSimpleGraph, degree}
use Rattle.chem_core.specs.Inside.{AreSortedBehind}
use Rattle.chem_core.specs.Steps.{steps_among}
use Rattle.chem_core.specs.declared.adjacency.Step.{Step}
use Rattle.chem_core.proofs.Steps.{are_steps_from, length-steps_among, step_by}

abbrev pub pair_of : Step → ℕ × ℕ
pair_of s = (s.to, s.bond)

abbrev pub first_of : ℕ × ℕ → ℕ
first_of p = p.0

abbrev pub pairs_among : Ends → ℕ → List (ℕ × ℕ)
pairs_among ends a = map pair_of (steps_among ends a)

-- a pair is there exactly where its bond joins the atom to its neighbour
pair_joins : (ends : Ends) (a : ℕ) (p : ℕ × ℕ) → Contains (pairs_among ends a) p → JoinsAt ends p.1 a p.0
pair_joins ends a p (k, within, is) =
    let steps : List Step = steps_among ends a in
    let here : k < length steps = omega (arith, within, length-map steps pair_of) in
    let s : Step = get_or steps k (step_by 0 0) in
    let one : pair_of s ≡ p = sym (get_or-map pair_of steps k (step_by 0 0) p here) ∙ is in
    subst (λ (q : ℕ × ℕ). JoinsAt ends q.1 a q.0) one
    ((are_steps_from ends a).joins s (Contains-get_or steps k (step_by 0 0) here))

pair_there : (ends : Ends) (a y b : ℕ) → JoinsAt ends b a y → Contains (pairs_among ends a) (y, b)
pair_there ends a y b joins =
    let steps : List Step = steps_among ends a in
    let at = (are_steps_from ends a).each b y joins in (
      at.0,
      omega (arith, at.1, length-map steps pair_of),
      get_or-map pair_of steps at.0 (step_by y b) (y, b) at.1 ∙ ap pair_of at.2,
    )

-- no two steps go to one atom
apart : (ends : Ends) (n a : ℕ) → IsSimpleGraph n ends → IsDistinct eqb (map first_of (pairs_among ends a))
apart ends n a graph = IsDistinct-from_apart eqb (map first_of (pairs_among ends a)) (λ i j d before within.
    let steps : List Step = steps_among ends a in
    let none : Step = step_by 0 0 in
    let long : length (map first_of (pairs_among ends a)) ≡ length steps =
    length-map (pairs_among ends a) first_of ∙ length-map steps pair_of in
    let far : j < length steps = omega arith in
    let near : i < length steps = omega arith in
    let read : (k : ℕ) → k < length steps → get_or (map first_of (pairs_among ends a)) k d ≡ (get_or steps k none).to =
    λ k h. get_or-map first_of (pairs_among ends a) k (0, 0) d (omega (arith, h, length-map steps pair_of))
    ∙ ap first_of (get_or-map pair_of steps k none (0, 0) h) in
    let joins : (k : ℕ) → k < length steps → JoinsAt ends (get_or steps k none).bond a (get_or steps k none).to =
    λ k h. (are_steps_from ends a).joins (get_or steps k none) (Contains-get_or steps k none h) in
    rw (read i near, read j far) (ne_eqb _ _ (λ same. (are_steps_from ends a).once i j none before far
    (graph.once _ _ a (get_or steps j none).to
    (subst (λ y. JoinsAt ends (get_or steps i none).bond a y) same (joins i near)) (joins j far)))))

-- as pairs that do not descend, the steps are the neighbours
pub sorted_neighbours : (ends : Ends) (n a : ℕ) (added : List (ℕ × ℕ)) → IsSimpleGraph n ends
    → IsPermutation (pairs_among ends a) added → IsNonDecreasing (map first_of added) → AreNeighbours ends a added
sorted_neighbours ends n a added graph same up = record {
  ascending = IsStrictlyIncreasing-from_distinct (map first_of added) up (IsDistinct-IsPermutation eqb flips
      (map first_of (pairs_among ends a)) (map first_of added)
      (IsPermutation-map first_of (pairs_among ends a) added same) (apart ends n a graph));
  joined = λ y b q. pair_joins ends a (y, b) (Contains-permutation added (pairs_among ends a) (y, b)
      (IsPermutation-sym (pairs_among ends a) added same) q);
  each = λ y b joins. Contains-permutation (pairs_among ends a) added (y, b) same (pair_there ends a y b joins);
}
  where
    flips : (x y : ℕ) → eqb x y ≡ eqb y x
    flips x y = grind (arith, nat_tests)

pub sorted_count : (ends : Ends) (a : ℕ) (added : List (ℕ × ℕ)) → IsPermutation (pairs_among ends a) added
    → length added ≡ degree ends a
sorted_count ends a added same = length_permutation (pairs_among ends a) added same
    ∙ length-map (steps_among ends a) pair_of ∙ length-steps_among ends a

-- what a sort of pairs says of their first parts
first_le : (p q : ℕ × ℕ) → is_lt (ordering_then (nat_cmp q.0 p.0) (nat_cmp q.1 p.1)) ≡ false → p.0 ≤ q.0
first_le p q h = elim (cases_lt q.0 p.0) [
  | inl low ↦
      let less : nat_lt q.0 p.0 ≡ true = lt-ltb q.0 p.0 low in
      let same : true ≡ is_lt (ordering_then (nat_cmp q.0 p.0) (nat_cmp q.1 p.1)) =
      ap (λ (b : Bool). is_lt (ordering_then (cond b Less (cond (q.0 == p.0) Equal Greater)) (nat_cmp q.1 p.1)))
      (sym less) in
      absurd (false≢true (sym (same ∙ h)))
  | inr high ↦ high
]

pub firsts-from_sort : (xs : List (ℕ × ℕ))
    → IsSortedBy (λ p q. is_lt (ordering_then (nat_cmp p.0 q.0) (nat_cmp p.1 q.1))) xs
    → IsNonDecreasing (map first_of xs)
firsts-from_sort xs sorted = IsNonDecreasingBy-from_all_adjacent (λ x. x) (map first_of xs) (λ k d within.
    let more : k + 1 < length xs = omega (arith, within, length-map xs first_of) in
    let here : k < length xs = omega arith in
    let a = get_or-map first_of xs k (0, 0) d here in
    let b = get_or-map first_of xs (k + 1) (0, 0) d more in
    rw (a, b) (first_le (get_or xs k (0, 0)) (get_or xs (k + 1) (0, 0)) (sorted k (0, 0) (omega arith) more)))

-- what stands behind the pairs of before is sorted
pub sorted_behind : (before xs ys : List (ℕ × ℕ)) (steps : List Step) (start k : ℕ) → start ≡ length before
    → xs ≡ before ++ map pair_of steps → k ≡ length xs - start → IsPermutation (mid_of start k xs) ys
    → IsSortedBy (λ p q. is_lt (ordering_then (nat_cmp p.0 q.0) (nat_cmp p.1 q.1))) ys
    → AreSortedBehind before steps (put_mid start k xs ys)
sorted_behind before xs ys steps start k begins is ends same sorted =
    let pairs : List (ℕ × ℕ) = map pair_of steps in
    let long : length xs ≡ length before + length pairs = ap length is ∙ length-append before pairs in
    let many : length pairs ≤ k = omega arith in
    let front : take start xs ≡ before = ap (take start) is ∙ take_at before pairs start (sym begins) in
    let rest : drop start xs ≡ pairs = ap (drop start) is ∙ drop_at before pairs start (sym begins) in
    let none : drop k (drop start xs) ≡ [] = ap (drop k) rest ∙ drop_all k pairs many in
    let all : take k (drop start xs) ≡ pairs = ap (take k) rest ∙ take_all k pairs many in
    record {
      added = ys;
      behind = ap (λ l. l ++ (ys ++ drop k (drop start xs))) front ∙ ap (λ l. before ++ (ys ++ l)) none
          ∙ ap (λ l. before ++ l) (append-nil ys);
      same = subst (λ l. IsPermutation l ys) all same;
      ascending = firsts-from_sort ys sorted;
    }
