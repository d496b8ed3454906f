-- A ring atom lies on a cycle, and the length of an atom's smallest ring is one number.
use Rattle.std.proofs.Common.{eqb, not, true, ℕ, ◌<◌, ◌≡◌, ◌↔◌, inl, inr, List, length, get_or, Contains, sym, ap, subst, ◌∙◌, arith}
use Rattle.std.proofs.lemmas.Bool.{false≢true, eq-eqb, ne_eqb}
use Rattle.std.proofs.lemmas.List.{get_or_default}
use Rattle.std.proofs.lemmas.List.Elements.{Contains-get_or}
use Rattle.chem_core.specs.Graph.{Ends, IsRingAtom, IsSimpleCycle, IsSmallestRing, JoinsAt, next_place}
use Rattle.smarts_mean.proofs.Chosen.{shares_end}

-- an atom of a cycle is a ring atom
ring_atom_from_cycle : (ends : Ends) (a : ℕ) (atoms : List ℕ) → IsSimpleCycle ends atoms → Contains atoms a
    → IsRingAtom ends a
ring_atom_from_cycle ends a atoms cycle at =
    let next = cycle.joined at.0 at.1 in
    let is : get_or atoms at.0 0 ≡ a = get_or_default atoms at.0 0 a at.1 ∙ at.2 in (
      next.0,
      get_or atoms (next_place atoms at.0) 0,
      subst
          (λ x. JoinsAt ends next.0 x (get_or atoms (next_place atoms at.0) 0)) is next.1,
      (atoms, cycle, (at.0, at.1, next.1)),
    )

-- a ring atom is an atom of a cycle
cycle_of_ring_atom : (ends : Ends) (a : ℕ) → IsRingAtom ends a → (atoms : List ℕ) × IsSimpleCycle ends atoms
    × Contains atoms a
cycle_of_ring_atom ends a ring =
    let b : ℕ = ring.0 in
    let cycle = ring.3.1 in
    let atoms : List ℕ = ring.3.0 in
    let lies = ring.3.2 in
    let three = cycle.three in
    let place = lies.0 in
    let here : Contains atoms (get_or atoms place 0) = Contains-get_or atoms place 0 lies.1 in
    let within : next_place atoms place < length atoms = omega arith in
    let there : Contains atoms (get_or atoms (next_place atoms place) 0) = Contains-get_or atoms
    (next_place atoms place) 0 within in
    elim (shares_end ends b a ring.1 (get_or atoms place 0) (get_or atoms (next_place atoms place) 0) ring.2 lies.2) [
      | inl e ↦ (atoms, cycle, subst (λ x. Contains atoms x) (sym e) here)
      | inr e ↦ (atoms, cycle, subst (λ x. Contains atoms x) (sym e) there)
    ]

pub small_some : (ends : Ends) (a n : ℕ) → IsSmallestRing ends a n → (not (eqb n 0) ≡ true) ↔ IsRingAtom ends a
small_some ends a n h =
    elim h [
      | inl q ↦ (
        λ yes. absurd (false≢true (ap not (sym (eq-eqb n 0 q.0)) ∙ yes)),
        λ ring.
            let w = cycle_of_ring_atom ends a ring in absurd (q.1 w.0 w.1 w.2),
      )
      | inr q ↦
          let three = (q.1).three in
          (λ yes. ring_atom_from_cycle ends a q.0 q.1 q.2, λ ring. ap not (ne_eqb n 0 (λ z. omega (arith, q.3))))
    ]
