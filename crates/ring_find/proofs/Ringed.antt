-- Ring bonds from the rings through them, and that the answers are the only ones.
use Rattle.std.proofs.Common.{ℕ, ◌<◌, ◌≡◌, ◌↔◌, inl, inr, Bool, true, false, not, eqb, List, length, map, sym, ap, ◌∙◌, arith}
use Rattle.std.proofs.lemmas.Bool.{cases_Bool, false≢true, eq-eqb, ne_eqb}
use Rattle.std.proofs.lemmas.List.{length-map, get_or-map, ext_get_or}
use Rattle.chem_core.specs.Graph.{Ends, IsRingBond, IsSmallestRing}
use Rattle.chem_core.specs.RingFacts.{AreRingBonds, AreSmallestRings}
use Rattle.ring_find.specs.BondRings.{AreBondRings, IsSmallestThrough}

through_some : (ends : Ends) (b n : ℕ) → IsSmallestThrough ends b n → (not (eqb n 0) ≡ true) ↔ IsRingBond ends b
through_some ends b n h =
    elim h [
      | inl q ↦ (
        λ yes. absurd (false≢true (ap not (sym (eq-eqb n 0 q.0)) ∙ yes)),
        λ ring. absurd (q.1 ring.0 ring.1 ring.2),
      )
      | inr q ↦
          let three = (q.1).three in
          (λ yes. (q.0, q.1, q.2), λ ring. ap not (ne_eqb n 0 (λ z. omega (arith, q.3))))
    ]

pub ring_bonds_from : (ends : Ends) (lengths : List ℕ) → AreBondRings ends lengths
    → AreRingBonds ends (map (λ n. not (eqb n 0)) lengths)
ring_bonds_from ends lengths h = record {
  one_each = length-map lengths (λ n. not (eqb n 0)) ∙ h.one_each;
  each = λ b within.
      let there : b < length lengths = omega (arith, h.one_each) in
      rw (get_or-map (λ n. not (eqb n 0)) lengths b 0 false there) (through_some ends b _ (h.each b within));
}

same_flags : (x y : Bool) (P : Type 0) → (x ≡ true) ↔ P → (y ≡ true) ↔ P → x ≡ y
same_flags x y P f g =
    elim (cases_Bool x) [
      | inl a ↦ a ∙ sym (g.1 (f.0 a))
      | inr a ↦ elim (cases_Bool y) [
        | inl b ↦ f.1 (g.0 b) ∙ sym b
        | inr b ↦ a ∙ sym b
      ]
    ]

pub ring_bonds_one : (ends : Ends) (xs ys : List Bool) → AreRingBonds ends xs → AreRingBonds ends ys → xs ≡ ys
ring_bonds_one ends xs ys f g =
    ext_get_or false xs ys (f.one_each ∙ sym g.one_each) (λ b l.
    let within : b < length ends = omega (arith, f.one_each) in
    same_flags _ _ (IsRingBond ends b) (f.each b within) (g.each b within))

same_smallest : (ends : Ends) (a n m : ℕ) → IsSmallestRing ends a n → IsSmallestRing ends a m → n ≡ m
same_smallest ends a n m f g =
    elim f [
      | inl p ↦ elim g [
        | inl q ↦ p.0 ∙ sym q.0
        | inr q ↦ absurd (p.1 q.0 q.1 q.2)
      ]
      | inr p ↦ elim g [
        | inl q ↦ absurd (q.1 p.0 p.1 p.2)
        | inr q ↦
            let low = p.4 q.0 q.1 q.2 in
            let high = q.4 p.0 p.1 p.2 in
            omega (arith, p.3, q.3)
      ]
    ]

pub smallest_rings_one : (atoms : ℕ) (ends : Ends) (xs ys : List ℕ) → AreSmallestRings atoms ends xs
    → AreSmallestRings atoms ends ys → xs ≡ ys
smallest_rings_one atoms ends xs ys f g =
    ext_get_or 0 xs ys (f.one_each ∙ sym g.one_each) (λ a l.
    let within : a < atoms = omega (arith, f.one_each) in
    same_smallest ends a _ _ (f.each a within) (g.each a within))
