-- What a bond joins, and that an atom has one list of neighbours.
use Rattle.std.proofs.Common.{ℕ, ◌<◌, ◌≡◌, inl, inr, List, length, get_or, subst}
use Rattle.std.proofs.lemmas.Option.{get_or_from_slice_get, slice_get_within}
use Rattle.chem_core.proofs.Ascending.{same_pairs}
use Rattle.chem_core.specs.Graph.{Ends, JoinsAt, AreNeighbours, IsSimpleGraph}

-- a bond joins its ends in either order
pub joins_back : (ends : Ends) (b x y : ℕ) → JoinsAt ends b x y → JoinsAt ends b y x
joins_back ends b x y h = elim h [ inl q ↦ inr q | inr q ↦ inl q ]

-- what joins atoms of a graph is a bond of it, and leads to an atom of it
pub joined_within : (n : ℕ) (ends : Ends) (b x y : ℕ) → IsSimpleGraph n ends → JoinsAt ends b x y
    → (b < length ends) × (y < n)
joined_within n ends b x y graph j =
    elim j [
      | inl q ↦
          let within = slice_get_within ends b _ q in
          let range = graph.in_range b (0, 0) within in
          let is : get_or ends b (0, 0) ≡ (x, y) = get_or_from_slice_get ends b (x, y) (0, 0) q in
          (within, subst (λ e. e.1 < n) is range.1)
      | inr q ↦
          let within = slice_get_within ends b _ q in
          let range = graph.in_range b (0, 0) within in
          let is : get_or ends b (0, 0) ≡ (y, x) = get_or_from_slice_get ends b (y, x) (0, 0) q in
          (within, subst (λ e. e.0 < n) is range.0)
    ]

-- an atom has one list of neighbours
pub AreNeighbours-one : (ends : Ends) (a : ℕ) (xs ys : List (ℕ × ℕ)) → AreNeighbours ends a xs → AreNeighbours ends a ys
    → xs ≡ ys
AreNeighbours-one ends a xs ys f g =
    same_pairs xs ys f.ascending g.ascending (λ p q. g.each p.0 p.1 (f.joined p.0 p.1 q)) (λ p q.
    f.each p.0 p.1 (g.joined p.0 p.1 q))
