-- Simple cycles through a bond, and shortest walks without it.
use Rattle.std.proofs.Common.{ℕ, suc, zero, ◌+◌, ◌-◌, ◌%◌, ◌<◌, ◌≤◌, ◌≡◌, ◌≢◌, ◌⊎◌, inl, inr, Bool, Some, List, length, get_or, Contains, sym, ap, ◌∙◌, arith}
use Rattle.std.specs.List.{slice_get}
use Rattle.std.proofs.Math.Nat.{mod-eq_of_lt, mod_self}
use Rattle.std.proofs.lemmas.Bool.{cases_lt, cases_eq}
use Rattle.std.proofs.lemmas.Option.{same_Some}
use Rattle.std.proofs.lemmas.List.{get_or_default}
use Rattle.chem_core.specs.Graph.{Ends, JoinsAt, IsSimpleGraph, IsSimpleCycle, LiesOn, IsRingBond, next_place}
use Rattle.chem_core.proofs.Neighbours.{joins_back}
use Rattle.ring_find.specs.Walk.{StepBut, Walk, IsDistance}
use Rattle.ring_find.specs.BondRings.{IsSmallestThrough, KeepsRings}
use Rattle.ring_find.proofs.Walks.{walk_join, walk_back, walk_along, IsPath, path_of, path_distinct, IsMark}

-- ---- what a bond joins

pub same_pair : (a b x y : ℕ) → ◌≡◌ {A = ℕ × ℕ} (a, b) (x, y) → (a ≡ x) × (b ≡ y)
same_pair a b x y e = (ap (λ p. p.0) e, ap (λ p. p.1) e)

-- a bond joins one pair of atoms, either way round
pub joins_one : (ends : Ends) (b x y u v : ℕ) → JoinsAt ends b x y → JoinsAt ends b u v → ((x ≡ u) × (y ≡ v))
    ⊎ ((x ≡ v) × (y ≡ u))
joins_one ends b x y u v h k =
    elim h [
      | inl p ↦ elim k [
        | inl q ↦ inl (same_pair x y u v (same_Some {A = ℕ × ℕ} (x, y) (u, v) (sym p ∙ q)))
        | inr q ↦ inr (same_pair x y v u (same_Some {A = ℕ × ℕ} (x, y) (v, u) (sym p ∙ q)))
      ]
      | inr p ↦ elim k [
        | inl q ↦ let r = same_pair y x u v (same_Some {A = ℕ × ℕ} (y, x) (u, v) (sym p ∙ q)) in inr (r.1, r.0)
        | inr q ↦ let r = same_pair y x v u (same_Some {A = ℕ × ℕ} (y, x) (v, u) (sym p ∙ q)) in inl (r.1, r.0)
      ]
    ]

pub step_back : (ends : Ends) (kept : List Bool) (b u v : ℕ) → StepBut ends kept b u v → StepBut ends kept b v u
step_back ends kept b u v s = (s.0, s.1, s.2, joins_back ends s.0 u v s.3)

-- ---- the places of a cycle

pub next_cases : (xs : List ℕ) (i : ℕ) → i < length xs → ((i + 1 < length xs) × (next_place xs i ≡ i + 1))
    ⊎ ((i + 1 ≡ length xs) × (next_place xs i ≡ 0))
next_cases xs i h =
    elim (cases_lt (i + 1) (length xs)) [
      | inl l ↦ inl (l, mod-eq_of_lt l)
      | inr l ↦
          let e : i + 1 ≡ length xs = omega arith in
          inr (e, ap (λ m. m % length xs) e ∙ mod_self (length xs))
    ]

pub next_within : (xs : List ℕ) (i : ℕ) → i < length xs → next_place xs i < length xs
next_within xs i h = elim (next_cases xs i h) [ inl q ↦ rw (q.1) (q.0) | inr q ↦ rw (q.1) (omega arith) ]

pub same_place : (ends : Ends) (xs : List ℕ) → IsSimpleCycle ends xs → (i j : ℕ) → i < length xs → j < length xs
    → get_or xs i 0 ≡ get_or xs j 0 → i ≡ j
same_place ends xs c i j hi hj e =
    elim (cases_eq i j) [
      | inl q ↦ q
      | inr n ↦ elim (cases_lt i j) [
        | inl l ↦ absurd (c.distinct i j 0 l hj e)
        | inr l ↦ absurd (c.distinct j i 0 (omega arith) hi (sym e))
      ]
    ]

-- two bonds of a cycle at different places are different
pub other_bond : (ends : Ends) (xs : List ℕ) → IsSimpleCycle ends xs → (b c i k : ℕ) → i < length xs → k < length xs
    → k ≢ i → JoinsAt ends b (get_or xs i 0) (get_or xs (next_place xs i) 0)
    → JoinsAt ends c (get_or xs k 0) (get_or xs (next_place xs k) 0) → c ≢ b
other_bond ends xs cycle b c i k hi hk ne jb jc same =
    let jb' : JoinsAt ends c (get_or xs i 0) (get_or xs (next_place xs i) 0) = rw same jb in
    let three = cycle.three in
    elim (joins_one ends c _ _ _ _ jc jb') [
      | inl q ↦ ne (same_place ends xs cycle k i hk hi q.0)
      | inr q ↦
          let one : k ≡ next_place xs i = same_place ends xs cycle k (next_place xs i) hk (next_within xs i hi) q.0 in
          let two : next_place xs k ≡ i = same_place ends xs cycle (next_place xs k) i (next_within xs k hk) hi q.1 in
          elim (next_cases xs i hi) [
            | inl r ↦ elim (next_cases xs k hk) [
              | inl s ↦ absurd (omega (arith, one, two, r.1, s.1))
              | inr s ↦
                  absurd (omega (arith, one, two, r.1, s.1, s.0, r.0))
            ]
            | inr r ↦ elim (next_cases xs k hk) [
              | inl s ↦ absurd (omega (arith, one, two, r.1, s.1, s.0, r.0))
              | inr s ↦
                  absurd (omega (arith, one, two, r.1, s.1, s.0, r.0))
            ]
          ]
    ]

-- a step of a cycle at a place other than the bond's
cycle_step : (ends : Ends) (kept : List Bool) (b : ℕ) (xs : List ℕ) → KeepsRings ends kept → IsSimpleCycle ends xs
    → (i k : ℕ) → i < length xs → k < length xs → k ≢ i → JoinsAt ends b (get_or xs i 0) (get_or xs (next_place xs i) 0)
    → StepBut ends kept b (get_or xs k 0) (get_or xs (next_place xs k) 0)
cycle_step ends kept b xs keeps cycle i k hi hk ne j =
    let here = cycle.joined k hk in (
      here.0,
      other_bond ends xs cycle b here.0 i k hi hk ne j here.1,
      keeps.each here.0 (xs, cycle, (k, hk, here.1)),
      here.1,
    )

-- the rest of a cycle is a walk without the bond
rest_walk : (ends : Ends) (kept : List Bool) (b : ℕ) (xs : List ℕ) → KeepsRings ends kept → IsSimpleCycle ends xs
    → (i : ℕ) → i < length xs → JoinsAt ends b (get_or xs i 0) (get_or xs (next_place xs i) 0)
    → Walk (StepBut ends kept b) (get_or xs (next_place xs i) 0) (get_or xs i 0) (length xs - 1)
rest_walk ends kept b xs keeps cycle i hi j =
    let three = cycle.three in
    let step : (k : ℕ) → k + 1 < length xs → k ≢ i → StepBut ends kept b (get_or xs k 0) (get_or xs (k + 1) 0) =
    λ k hk ne.
    elim (next_cases xs k (omega arith)) [
      | inl q ↦ rw (q.1) at (cycle_step ends kept b xs keeps cycle i k hi (omega arith) ne j)
      | inr q ↦ absurd (omega (arith, q.0))
    ] in
    elim (next_cases xs i hi) [
      | inl q ↦
          let low : i + 1 < length xs = q.0 in
          let up : Walk (StepBut ends kept b) (get_or xs (i + 1) 0) (get_or xs (i + 1 + (length xs - 2 - i)) 0)
          (length xs - 2 - i) = walk_along _ xs (i + 1) (length xs - 2 - i) (λ k a l.
          step k (omega arith) (omega arith)) in
          let end : i + 1 + (length xs - 2 - i) ≡ length xs - 1 = omega arith in
          let up' : Walk (StepBut ends kept b) (get_or xs (i + 1) 0) (get_or xs (length xs - 1) 0) (length xs - 2 - i) =
          rw end at up in
          let turn : StepBut ends kept b (get_or xs (length xs - 1) 0) (get_or xs 0 0) =
          elim (next_cases xs (length xs - 1) (omega arith)) [
            | inl s ↦ absurd (omega (arith, s.0))
            | inr s ↦ rw (s.1) at (cycle_step ends kept b xs keeps cycle i (length xs - 1) hi (omega arith)
                (omega arith) j)
          ] in
          let start : Walk (StepBut ends kept b) (get_or xs 0 0) (get_or xs (0 + i) 0) i =
          walk_along _ xs 0 i (λ k a l. step k (omega arith) (omega arith)) in
          let zero_i : 0 + i ≡ i = omega arith in
          let start' : Walk (StepBut ends kept b) (get_or xs 0 0) (get_or xs i 0) i = rw zero_i at start in
          let whole = walk_join _ _ _ _ (suc (length xs - 2 - i)) i (get_or xs (length xs - 1) 0, up', turn) start' in
          let count : suc (length xs - 2 - i) + i ≡ length xs - 1 = omega arith in
          rw (q.1) (rw count at whole)
      | inr q ↦
          let last : i + 1 ≡ length xs = q.0 in
          let whole : Walk (StepBut ends kept b) (get_or xs 0 0) (get_or xs (0 + (length xs - 1)) 0) (length xs - 1) =
          walk_along _ xs 0 (length xs - 1) (λ k a l. step k (omega arith) (omega arith)) in
          let is : 0 + (length xs - 1) ≡ i = omega arith in
          rw (q.1) (rw is at whole)
    ]

-- a cycle through a bond leaves a walk from its one end to the other, one step shorter
pub walk_from_cycle : (ends : Ends) (kept : List Bool) (b x y : ℕ) (xs : List ℕ) → KeepsRings ends kept
    → slice_get ends b ≡ Some (x, y) → IsSimpleCycle ends xs → LiesOn ends b xs
    → Walk (StepBut ends kept b) x y (length xs - 1)
walk_from_cycle ends kept b x y xs keeps at cycle lies =
    let i : ℕ = lies.0 in
    let w = rest_walk ends kept b xs keeps cycle i lies.1 lies.2 in
    let j : JoinsAt ends b x y = inl at in
    elim (joins_one ends b _ _ _ _ lies.2 j) [
      | inl q ↦ walk_back (StepBut ends kept b) (step_back ends kept b) _ _ _ (rw (q.0, q.1) at w)
      | inr q ↦ rw (q.0, q.1) at w
    ]

-- ---- a shortest walk and the bond are a cycle

pub cycle_from_path : (n : ℕ) (ends : Ends) (kept : List Bool) (b x y d : ℕ) (xs : List ℕ) → IsSimpleGraph n ends
    → slice_get ends b ≡ Some (x, y) → 2 ≤ d → IsPath (StepBut ends kept b) x y d xs → IsSimpleCycle ends xs
    × LiesOn ends b xs
cycle_from_path n ends kept b x y d xs graph at two p =
    let long = p.long in
    let turn : JoinsAt ends b (get_or xs d 0) (get_or xs 0 0) = rw (p.last, p.first) (inr at) in
    let last : next_place xs d ≡ 0 = elim (next_cases xs d (omega arith)) [
      | inl q ↦
          absurd (omega (arith, q.0))
      | inr q ↦ q.1
    ] in (
      record {
        three = omega arith;
        distinct = λ i j e low high same. path_distinct _ x y d xs p i j low (omega arith)
            (get_or_default xs i 0 e (omega arith) ∙ same ∙ get_or_default xs j e 0 high);
        joined = λ i h. elim (cases_lt i d) [
          | inl l ↦
              let s = p.steps i l in
              elim (next_cases xs i h) [ inl q ↦ rw (q.1) (s.0, s.3) | inr q ↦ absurd (omega (arith, q.0)) ]
          | inr l ↦
              let is : i ≡ d = omega arith in
              rw (is, last) (b, turn)
        ];
      },
      (d, omega arith, rw last turn),
    )

-- no other bond joins the same atoms, so a walk that leaves the bond out has two steps or more
two_steps : (n : ℕ) (ends : Ends) (kept : List Bool) (b x y d : ℕ) → IsSimpleGraph n ends → slice_get ends b
    ≡ Some (x, y) → x ≢ y → Walk (StepBut ends kept b) x y d → 2 ≤ d
two_steps n ends kept b x y zero graph at ne w = absurd (ne w)
two_steps n ends kept b x y (suc zero) graph at ne w =
    let s = w.2 in
    let j : JoinsAt ends s.0 x y = rw (w.1) s.3 in
    absurd (s.1 (graph.once s.0 b x y j (inl at)))
two_steps n ends kept b x y (suc (suc d)) graph at ne w = omega arith

pub smallest_from_mark : (n : ℕ) (ends : Ends) (kept : List Bool) (b x y r : ℕ) → IsSimpleGraph n ends
    → KeepsRings ends kept → slice_get ends b ≡ Some (x, y) → x ≢ y → IsMark (StepBut ends kept b) x y r
    → IsSmallestThrough ends b r
smallest_from_mark n ends kept b x y r graph keeps at ne h =
    elim h [
      | inl q ↦ inl (q.0, λ xs cycle lies. q.1 _ (walk_from_cycle ends kept b x y xs keeps at cycle lies))
      | inr q ↦
          let d : ℕ = q.0 in
          let far : IsDistance (StepBut ends kept b) x y d = q.2 in
          let two = two_steps n ends kept b x y d graph at ne far.walk in
          let path = path_of (StepBut ends kept b) x y d far in
          let ring = cycle_from_path n ends kept b x y d path.0 graph at two path.1 in
          let long = path.1.long in
          inr (
            path.0,
            ring.0,
            ring.1,
            omega (arith, q.1, long),
            λ xs cycle lies.
                let more = far.least _ (walk_from_cycle ends kept b x y xs keeps at cycle lies) in
                let three = cycle.three in
                omega (arith, q.1),
          )
    ]

-- ---- the ring bonds at an atom

-- two bonds of a cycle end at each of its atoms
pub two_bonds_on : (ends : Ends) (xs : List ℕ) (b a t : ℕ) → IsSimpleCycle ends xs → LiesOn ends b xs
    → JoinsAt ends b a t → (c u : ℕ) × (c ≢ b) × JoinsAt ends c a u × LiesOn ends c xs
two_bonds_on ends xs b a t cycle lies j =
    let i : ℕ = lies.0 in
    let hi : i < length xs = lies.1 in
    let three = cycle.three in
    let jb : JoinsAt ends b (get_or xs i 0) (get_or xs (next_place xs i) 0) = lies.2 in
    elim (joins_one ends b _ _ _ _ jb j) [
      | inl q ↦
          let before : (p : ℕ) × (p < length xs) × (p ≢ i) × (next_place xs p ≡ i) =
          elim (cases_eq i 0) [
            | inl z ↦ (
              length xs - 1,
              omega arith,
              omega arith,
              elim (next_cases xs (length xs - 1) (omega arith))
                  [ inl s ↦ absurd (omega (arith, s.0)) | inr s ↦ s.1 ∙ sym z ],
            )
            | inr z ↦ (
              i - 1,
              omega arith,
              omega arith,
              elim (next_cases xs (i - 1) (omega arith)) [
                | inl s ↦
                    omega (arith, s.1)
                | inr s ↦ absurd (omega (arith, s.0))
              ],
            )
          ] in
          let p : ℕ = before.0 in
          let here = cycle.joined p before.1 in
          let there : JoinsAt ends here.0 a (get_or xs p 0) =
          joins_back ends here.0 _ _ (rw (before.3, q.0) at here.1) in (
            here.0,
            get_or xs p 0,
            other_bond ends xs cycle b here.0 i p hi before.1 before.2 jb here.1,
            there,
            (p, before.1, here.1),
          )
      | inr q ↦
          let k : ℕ = next_place xs i in
          let hk : k < length xs = next_within xs i hi in
          let ne : k ≢ i = elim (next_cases xs i hi) [ inl s ↦ omega (arith, s.1) | inr s ↦ omega (arith, s.1, s.0) ] in
          let here = cycle.joined k hk in
          let there : JoinsAt ends here.0 a (get_or xs (next_place xs k) 0) = rw (q.1) at here.1 in (
            here.0,
            get_or xs (next_place xs k) 0,
            other_bond ends xs cycle b here.0 i k hi hk ne jb here.1,
            there,
            (k, hk, here.1),
          )
    ]

-- a ring bond at an atom is not the only one there
pub two_ring_bonds : (ends : Ends) (b a t : ℕ) → IsRingBond ends b → JoinsAt ends b a t → (c u : ℕ) × (c ≢ b)
    × JoinsAt ends c a u × IsRingBond ends c
two_ring_bonds ends b a t ring j =
    let two = two_bonds_on ends ring.0 b a t ring.1 ring.2 j in
    (two.0, two.1, two.2, two.3, (ring.0, ring.1, two.4))

-- an atom of a cycle has a bond that lies on it
pub bond_of_atom : (ends : Ends) (xs : List ℕ) (a : ℕ) → IsSimpleCycle ends xs → Contains xs a → (b u : ℕ)
    × JoinsAt ends b a u × LiesOn ends b xs
bond_of_atom ends xs a cycle has =
    let here = cycle.joined has.0 has.1 in
    let is : get_or xs has.0 0 ≡ a = get_or_default xs has.0 0 a has.1 ∙ has.2 in
    let there : JoinsAt ends here.0 a (get_or xs (next_place xs has.0) 0) = rw is at here.1 in
    (here.0, get_or xs (next_place xs has.0) 0, there, (has.0, has.1, here.1))

-- the ends of a bond that lies on a cycle are on it
pub atom_of_bond : (ends : Ends) (xs : List ℕ) (b a u : ℕ) → JoinsAt ends b a u → LiesOn ends b xs → Contains xs a
atom_of_bond ends xs b a u j lies =
    let i : ℕ = lies.0 in
    let hi : i < length xs = lies.1 in
    let hn = next_within xs i hi in
    elim (joins_one ends b _ _ _ _ j lies.2) [
      | inl q ↦ (i, hi, get_or_default xs i a 0 hi ∙ sym q.0)
      | inr q ↦ (next_place xs i, hn, get_or_default xs (next_place xs i) a 0 hn ∙ sym q.0)
    ]
