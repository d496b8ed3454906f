-- The least length of the bonds of an atom, bond after bond, and what it is in the end.
use Rattle.std.proofs.Common.{ℕ, ◌+◌, ◌%◌, ◌<◌, ◌≤◌, ◌≡◌, ◌≢◌, inl, inr, Some, List, length, get_or, sym, ◌∙◌, arith}
use Rattle.std.specs.List.{slice_get}
use Rattle.std.proofs.lemmas.Bool.{cases_lt, cases_eq}
use Rattle.std.proofs.lemmas.Option.{slice_get_within}
use Rattle.chem_core.specs.Graph.{Ends, JoinsAt, IsSimpleCycle, IsSmallestRing}
use Rattle.ring_find.specs.BondRings.{AreBondRings, IsSmallestThrough}
use Rattle.ring_find.specs.Least.{IsLesser}
use Rattle.ring_find.proofs.Cycles.{joins_one, bond_of_atom, atom_of_bond}

-- n is the least length of the atom's bonds before the place i, and 0 where all are 0
pub record IsLeastBefore (ends : Ends) (lengths : List ℕ) (i v n : ℕ) : Type 0 where
  pub none : n ≡ 0 → (c u : ℕ) → c < i → JoinsAt ends c v u → get_or lengths c 0 ≡ 0
  pub some : n ≢ 0 → (c u : ℕ) × (c < i) × JoinsAt ends c v u × (get_or lengths c 0 ≡ n)
  pub least : (c u : ℕ) → c < i → JoinsAt ends c v u → get_or lengths c 0 ≢ 0 → n ≤ get_or lengths c 0

pub least_more : (ends : Ends) (lengths : List ℕ) (i v u n r : ℕ) → IsLeastBefore ends lengths i v n
    → JoinsAt ends i v u → IsLesser n (get_or lengths i 0) r → IsLeastBefore ends lengths (i + 1) v r
least_more ends lengths i v u n r h joins lesser = record {
  none = λ z c w l j. elim (cases_lt c i) [
    | inl low ↦ elim (cases_eq n 0) [ inl e ↦ h.none e c w low j | inr ne ↦ absurd ((lesser.first ne).0 z) ]
    | inr high ↦
        let e : c ≡ i = omega arith in
        elim (cases_eq (get_or lengths i 0) 0) [ inl e' ↦ rw e e' | inr ne ↦ absurd ((lesser.second ne).0 z) ]
  ];
  some = λ ne. elim (lesser.from) [
    | inl e ↦
        let before = h.some (λ z. ne (e ∙ z)) in
        (before.0, before.1, omega (arith, before.2), before.3, before.4 ∙ sym e)
    | inr e ↦ (i, u, omega arith, joins, sym e)
  ];
  least = λ c w l j ne. elim (cases_lt c i) [
    | inl low ↦ elim (cases_eq n 0) [
      | inl e ↦ absurd (ne (h.none e c w low j))
      | inr some ↦
          let a = h.least c w low j ne in
          let b = lesser.first some in
          omega (arith, b.1)
    ]
    | inr high ↦
        let e : c ≡ i = omega arith in
        rw e (lesser.second (rw e at ne)).1
  ];
}

-- an atom that the bond does not end at
pub least_same : (ends : Ends) (lengths : List ℕ) (i v n : ℕ) (d : ℕ × ℕ) → IsLeastBefore ends lengths i v n
    → slice_get ends i ≡ Some d → v ≢ d.0 → v ≢ d.1 → IsLeastBefore ends lengths (i + 1) v n
least_same ends lengths i v n d h at ne0 ne1 =
    let low : (c u : ℕ) → c < i + 1 → JoinsAt ends c v u → c < i = λ c u l j. elim (cases_lt c i) [
      | inl a ↦ a
      | inr a ↦
          let e : c ≡ i = omega arith in
          let j' : JoinsAt ends i v u = rw e at j in
          absurd (elim (joins_one ends i v u d.0 d.1 j' (inl at)) [ inl q ↦ ne0 q.0 | inr q ↦ ne1 q.0 ])
    ] in
    record {
      none = λ e c u l j. h.none e c u (low c u l j) j;
      some = λ ne. let before = h.some ne in (before.0, before.1, omega (arith, before.2), before.3, before.4);
      least = λ c u l j ne. h.least c u (low c u l j) j ne;
    }

-- all atoms, with one bond more
pub leasts_more : (n : ℕ) (ends : Ends) (lengths : List ℕ) (i ring : ℕ) (d : ℕ × ℕ) (small after : List ℕ)
    → ring ≡ get_or lengths i 0 → slice_get ends i ≡ Some d
    → ((v : ℕ) → v < n → IsLeastBefore ends lengths i v (get_or small v 0))
    → IsLesser (get_or small d.0 0) ring (get_or after d.0 0) → IsLesser (get_or small d.1 0) ring (get_or after d.1 0)
    → ((v : ℕ) → v ≢ d.0 → v ≢ d.1 → get_or after v 0 ≡ get_or small v 0) → (v : ℕ) → v < n
    → IsLeastBefore ends lengths (i + 1) v (get_or after v 0)
leasts_more n ends lengths i ring d small after is at h one other others v within =
    elim (cases_eq v d.0) [
      | inl e ↦
          let joins : JoinsAt ends i v d.1 = rw e (inl at) in
          let lesser : IsLesser (get_or small v 0) (get_or lengths i 0) (get_or after v 0) = rw (e, ← is) one in
          least_more ends lengths i v d.1 _ _ (h v within) joins lesser
      | inr ne0 ↦ elim (cases_eq v d.1) [
        | inl e ↦
            let joins : JoinsAt ends i v d.0 = rw e (inr at) in
            let lesser : IsLesser (get_or small v 0) (get_or lengths i 0) (get_or after v 0) = rw (e, ← is) other in
            least_more ends lengths i v d.0 _ _ (h v within) joins lesser
        | inr ne1 ↦ rw (others v ne0 ne1) (least_same ends lengths i v _ d (h v within) at ne0 ne1)
      ]
    ]

joined_below : (ends : Ends) (b x y : ℕ) → JoinsAt ends b x y → b < length ends
joined_below ends b x y j = elim j [ inl q ↦ slice_get_within ends b _ q | inr q ↦ slice_get_within ends b _ q ]

-- a bond that lies on a ring has a length, which is no more than the ring's
bond_least : (ends : Ends) (b n : ℕ) (xs : List ℕ) → IsSmallestThrough ends b n → IsSimpleCycle ends xs
    → ((i : ℕ) × (i < length xs) × JoinsAt ends b (get_or xs i 0) (get_or xs ((i + 1) % length xs) 0))
    → (n ≢ 0) × (n ≤ length xs)
bond_least ends b n xs h cycle lies =
    elim h [
      | inl q ↦ absurd (q.1 xs cycle lies)
      | inr q ↦
          let three = (q.1).three in
          (omega (arith, q.3), q.4 xs cycle lies)
    ]

pub smallest_from_least : (ends : Ends) (lengths : List ℕ) (v n : ℕ) → AreBondRings ends lengths
    → IsLeastBefore ends lengths (length ends) v n → IsSmallestRing ends v n
smallest_from_least ends lengths v n rings h =
    elim (cases_eq n 0) [
      | inl z ↦ inl (
        z,
        λ xs cycle has.
            let b = bond_of_atom ends xs v cycle has in
            let within = joined_below ends b.0 v b.1 b.2 in
            let least = bond_least ends b.0 _ xs (rings.each b.0 within) cycle b.3 in
            least.0 (h.none z b.0 b.1 within b.2),
      )
      | inr ne ↦
          let c = h.some ne in
          let at : IsSmallestThrough ends c.0 n = rw (c.4) at (rings.each c.0 c.2) in
          elim at [
            | inl q ↦ absurd (ne q.0)
            | inr q ↦ inr (
              q.0,
              q.1,
              atom_of_bond ends q.0 c.0 v c.1 c.3 q.2,
              q.3,
              λ xs cycle has.
                  let b = bond_of_atom ends xs v cycle has in
                  let within = joined_below ends b.0 v b.1 b.2 in
                  let least = bond_least ends b.0 _ xs (rings.each b.0 within) cycle b.3 in
                  let low = h.least b.0 b.1 within b.2 least.0 in
                  omega (arith, least.1),
            )
          ]
    ]
