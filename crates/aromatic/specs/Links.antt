-- The links of atoms: ring bonds from candidate to candidate. For private clauses alone.
use Rattle.std.specs.Prelude.{◌≡◌, ℕ, ◌<◌, ◌⊎◌, ◌↔◌, List, [], length, map, slice_index_or, Contains, Option, None, IsSome, Bool, true, false}
use Rattle.smallvec.specs.SmallVec.{SmallVec}
use Rattle.chem_core.specs.Graph.{Ends, JoinsAt}
use Rattle.aromatic.specs.declared.links.Link.{Link}

-- the links of each atom
abbrev pub links_in : List (SmallVec Link) → List (List Link)
links_in links = map (λ v. v.items) links

abbrev pub links_at : List (List Link) → ℕ → List Link
links_at links a = slice_index_or links a []

-- a link of a leads to n
abbrev pub IsLinked : List (List Link) → ℕ → ℕ → Type 0
IsLinked links a n = (b : ℕ) × Contains (links_at links a) (record { to = n; bond = b })

-- Each link leads to an atom.
abbrev pub AreClosed : List (List Link) → Type 0
AreClosed links = (a n : ℕ) → IsLinked links a n → n < length links

-- If a link leads from a to n, a link leads from n to a.
abbrev pub AreMutual : List (List Link) → Type 0
AreMutual links = (a n : ℕ) → IsLinked links a n → IsLinked links n a

-- the atom gives electrons: it is a candidate
abbrev pub IsCandidateAt : List (Option ℕ) → ℕ → Type 0
IsCandidateAt gives a = IsSome (slice_index_or gives a None)

-- the bond b below place k is a ring bond that joins a and n, and both are candidates
abbrev pub IsLinkBelow : Ends → List Bool → List (Option ℕ) → ℕ → ℕ → ℕ → ℕ → Type 0
IsLinkBelow ends rings gives k a n b = (b < k) × JoinsAt ends b a n × (slice_index_or rings b false ≡ true)
    × IsCandidateAt gives a × IsCandidateAt gives n

-- each atom has exactly the links by the bonds below place k
pub record AreLinks (ends : Ends) (rings : List Bool) (gives : List (Option ℕ)) (k : ℕ)
    (links : List (List Link)) : Type 0 where
  pub count : length links ≡ length gives
  pub each : (a n b : ℕ) → Contains (links_at links a) (record { to = n; bond = b })
      ↔ IsLinkBelow ends rings gives k a n b

-- the bond c between x and y is a ring bond between candidates; it is b, and links a to n
abbrev pub IsNewLink : List (Option ℕ) → ℕ → ℕ → ℕ → Bool → ℕ → ℕ → ℕ → Type 0
IsNewLink gives c x y ring a n b = (ring ≡ true) × IsCandidateAt gives x × IsCandidateAt gives y × (b ≡ c)
    × (((a ≡ x) × (n ≡ y)) ⊎ ((a ≡ y) × (n ≡ x)))
