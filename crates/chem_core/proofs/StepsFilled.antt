-- The lists of steps of all atoms, as the bonds come in.
use Rattle.std.proofs.Common.{◌≡◌, ◌≢◌, ◌==◌, ◌||◌, ℕ, ◌+◌, ◌<◌, ◌≤◌, Bool, cond, true, inl, inr, Some, List, [], ◌∷◌, ◌++◌, length, get_or, map, replicate, set, take, refl, sym, ap, subst, ◌∙◌, arith}
use Rattle.std.specs.List.{slice_get}
use Rattle.std.proofs.lemmas.Bool.{cases_eq, eq-eqb, or_left, or_right}
use Rattle.std.proofs.lemmas.List.{get_or-map, get_or-replicate, get_or-set_same, get_or-set_other, length-map, length-replicate, length-set, length-take-le, map-set, take_more}
use Rattle.std.proofs.lemmas.List.Sums.{sum_by_more_le}
use Rattle.std.proofs.lemmas.Option.{get_or_from_slice_get, slice_get_within}
use Rattle.chem_core.specs.Graph.{Ends, IsSimpleGraph, degree}
use Rattle.chem_core.specs.Steps.{IsAdjacentInside, steps_among}
use Rattle.chem_core.specs.declared.adjacency.Step.{Step}
use Rattle.chem_core.proofs.Steps.{length-steps_among, step_by, steps_among-first, steps_among-second, steps_among-other}

-- a write to a list, seen as a write to what it holds
pub map-put : {V X : Type 0} (items : V → List X) (lists : List V) (i : ℕ) (d w : V) (x : X) → i < length lists
    → items w ≡ items (get_or lists i d) ++ x ∷ []
    → map items (set lists i w) ≡ set (map items lists) i (get_or (map items lists) i [] ++ x ∷ [])
map-put items lists i d w x within more =
    map-set items lists i w
    ∙ ap (set (map items lists) i) (more ∙ ap (λ l. l ++ x ∷ []) (sym (get_or-map items lists i d [] within)))

-- the lists after a step is put to that of an atom
abbrev pub put : List (List Step) → ℕ → Step → List (List Step)
put lists a s = set lists a (get_or lists a [] ++ s ∷ [])

-- so many lists hold the steps by these bonds
pub record AreFilled (n : ℕ) (ends : Ends) (lists : List (List Step)) : Type 0 where
  pub count : length lists ≡ n
  pub each : (a : ℕ) → a < n → get_or lists a [] ≡ steps_among ends a

pub filled-none : (n : ℕ) (lists : List (List Step)) → lists ≡ replicate n [] → AreFilled n [] lists
filled-none n lists is =
    subst (AreFilled n []) (sym is) (record {
      count = length-replicate n [];
      each = λ a within. get_or-replicate n a [] [] within;
    })

pub filled-all : (ends : Ends) (n : ℕ) (lists : List (List Step)) → IsSimpleGraph n ends → AreFilled n ends lists
    → IsAdjacentInside ends lists
filled-all ends n lists graph filled = record {
  graph = subst (λ k. IsSimpleGraph k ends) (sym filled.count) graph;
  each = λ a within. filled.each a (omega (arith, within, filled.count));
}

-- one bond more, put to the lists of both of its ends
filled-more : (ends : Ends) (x y : ℕ) (lists : List (List Step)) (n p : ℕ) → length ends ≡ p → x < n → y < n → x ≢ y
    → AreFilled n ends lists → AreFilled n (ends ++ (x, y) ∷ []) (put (put lists x (step_by y p)) y (step_by x p))
filled-more ends x y lists n p count in_x in_y apart before = record {
  count = length-set one y _ ∙ length-set lists x _ ∙ before.count;
  each = each;
}
  where
    one : List (List Step)
    one = put lists x (step_by y p)

    long : length one ≡ n
    long = length-set lists x _ ∙ before.count

    at_y : get_or (put one y (step_by x p)) y [] ≡ steps_among (ends ++ (x, y) ∷ []) y
    at_y =
        let kept : get_or one y [] ≡ get_or lists y [] =
        get_or-set_other lists x y (get_or lists x [] ++ step_by y p ∷ []) [] (λ q. apart (sym q)) in
        let there : y < length one = omega (arith, in_y, long) in
        get_or-set_same one y (get_or one y [] ++ step_by x p ∷ []) [] there
        ∙ ap (λ l. l ++ step_by x p ∷ []) (kept ∙ before.each y in_y)
        ∙ ap (λ k. steps_among ends y ++ step_by x k ∷ []) (sym count)
        ∙ sym (steps_among-second ends (x, y) y apart refl)

    at_x : get_or one x [] ≡ steps_among (ends ++ (x, y) ∷ []) x
    at_x =
        let there : x < length lists = omega (arith, in_x, before.count) in
        get_or-set_same lists x (get_or lists x [] ++ step_by y p ∷ []) [] there
        ∙ ap (λ l. l ++ step_by y p ∷ []) (before.each x in_x)
        ∙ ap (λ k. steps_among ends x ++ step_by y k ∷ []) (sym count)
        ∙ sym (steps_among-first ends (x, y) x refl)

    each : (a : ℕ) → a < n → get_or (put one y (step_by x p)) a [] ≡ steps_among (ends ++ (x, y) ∷ []) a
    each a within = elim (cases_eq a y) [
      | inl is ↦ subst (λ k. get_or (put one y (step_by x p)) k [] ≡ steps_among (ends ++ (x, y) ∷ []) k) (sym is) at_y
      | inr off ↦
          get_or-set_other one y a (get_or one y [] ++ step_by x p ∷ []) [] off
          ∙ elim (cases_eq a x) [
            | inl is ↦ subst (λ k. get_or one k [] ≡ steps_among (ends ++ (x, y) ∷ []) k) (sym is) at_x
            | inr nor ↦
                get_or-set_other lists x a (get_or lists x [] ++ step_by y p ∷ []) [] nor ∙ before.each a within
                ∙ sym (steps_among-other ends (x, y) a (λ q. nor (sym q)) (λ q. off (sym q)))
          ]
    ]

-- the bond at a place has two ends, each with fewer steps before it than there is room for
pub both_room : (n : ℕ) (ends : Ends) (p x y : ℕ) (lists : List (List Step)) → IsSimpleGraph n ends
    → slice_get ends p ≡ Some (x, y) → AreFilled n (take p ends) lists → (x < n) × (y < n) × (x ≢ y)
    × (length (get_or lists x []) < 12) × (length (get_or lists y []) < 12)
both_room n ends p x y lists graph at filled =
    let within : p < length ends = slice_get_within ends p _ at in
    let is : get_or ends p (0, 0) ≡ (x, y) = get_or_from_slice_get ends p (x, y) (0, 0) at in
    let range : (x < n) × (y < n) = subst (λ e. (e.0 < n) × (e.1 < n)) is (graph.in_range p (0, 0) within) in
    let apart : x ≢ y = subst (λ e. e.0 ≢ e.1) is (graph.distinct p (0, 0) within) in (
      range.0,
      range.1,
      apart,
      room x range.0 (or_left _ _ (eq-eqb _ _ (ap (λ e. e.0) is))) within,
      room y range.1
          (or_right _ _ (eq-eqb _ _ (ap (λ e. e.1) is))) within,
    )
  where
    room : (a : ℕ) → a < n → (((get_or ends p (0, 0)).0 == a) || ((get_or ends p (0, 0)).1 == a)) ≡ true → p < length ends
        → length (get_or lists a []) < 12
    room a in' ends_here within =
        let steps : length (get_or lists a []) ≡ degree (take p ends) a =
        ap length (filled.each a in') ∙ length-steps_among (take p ends) a in
        let more : degree (take p ends) a + cond (((get_or ends p (0, 0)).0 == a) || ((get_or ends p (0, 0)).1 == a)) 1 0
        ≤ degree ends a = sum_by_more_le (λ e. cond ((e.0 == a) || (e.1 == a)) 1 0) ends p (0, 0) within in
        let one : cond {A = ℕ} (((get_or ends p (0, 0)).0 == a) || ((get_or ends p (0, 0)).1 == a)) 1 0 ≡ 1 =
        ap (λ (b : Bool). cond {A = ℕ} b 1 0) ends_here in
        let few : degree ends a ≤ 12 = graph.few_neighbours a in
        omega arith

-- the bond at a place
pub filled-step : (n : ℕ) (ends : Ends) (p x y : ℕ) (lists : List (List Step)) → IsSimpleGraph n ends
    → slice_get ends p ≡ Some (x, y) → AreFilled n (take p ends) lists
    → AreFilled n (take (p + 1) ends) (put (put lists x (step_by y p)) y (step_by x p))
filled-step n ends p x y lists graph at filled =
    let both = both_room n ends p x y lists graph at filled in
    let within : p < length ends = slice_get_within ends p _ at in
    let is : get_or ends p (0, 0) ≡ (x, y) = get_or_from_slice_get ends p (x, y) (0, 0) at in
    let more : take (p + 1) ends ≡ take p ends ++ (x, y) ∷ [] =
    take_more ends p (0, 0) within ∙ ap (λ e. take p ends ++ e ∷ []) is in
    let count : length (take p ends) ≡ p = length-take-le p ends (omega arith) in
    rw more (filled-more (take p ends) x y lists n p count both.0 both.1 both.2 filled)

-- ---- read back

pub list_inside : {V : Type 0} (items : V → List Step) (lists : List V) (ends : Ends) (a : ℕ) (v : V)
    → IsAdjacentInside ends (map items lists) → a < length lists → v ≡ get_or lists a v → items v ≡ steps_among ends a
list_inside items lists ends a v h within is =
    let there : a < length (map items lists) = omega (arith, within, length-map lists items) in
    ap items is ∙ sym (get_or-map items lists a v [] within) ∙ h.each a there

pub length_none : {V : Type 0} (items : V → List Step) (lists : List V) (n : ℕ) → map items lists ≡ replicate n []
    → length lists ≡ n
length_none items lists n is = sym (length-map lists items) ∙ ap length is ∙ length-replicate n []
