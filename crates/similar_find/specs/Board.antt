-- The best of the offers. For callers.
use Rattle.std.specs.Prelude.{◌≡◌, ◌≢◌, ◌↔◌, ℕ, ◌*◌, ◌<◌, ◌==◌, ◌&&◌, ◌||◌, nat_le, nat_lt, Bool, true, List, [], ◌∷◌, count_by, slice_get, Some, Contains}
use Rattle.std.specs.List.{AllByRecursion}

-- an identifier, the number of bits in both prints, and the number in at least one
abbrev pub Offer : Type 0
Offer = ℕ × ℕ × ℕ

-- the request, a fraction of at least p / q and at most `most` hits, and the hits so far
pub record Board : Type 0 where
  pub p : ℕ
  pub q : ℕ
  pub most : ℕ
  pub hits : List Offer

-- the fraction is at least the requested one
abbrev pub passes : Board → Offer → Bool
passes board x = nat_le (board.p * x.2) (x.1 * board.q)

-- the greater fraction is better, and of equal ones the smaller identifier
abbrev pub is_better : Offer → Offer → Bool
is_better x y = nat_lt (y.1 * x.2) (x.1 * y.2) || ((x.1 * y.2 == y.1 * x.2) && nat_lt x.0 y.0)

-- the number of offers that pass and are better
abbrev pub betters : Board → List Offer → Offer → ℕ
betters board offered x = count_by (λ y. passes board y && is_better y x) offered

-- a structure has a bit, and each is offered once
abbrev pub AreOffers : List Offer → Type 0
AreOffers [] = Unit {0}
AreOffers (x ∷ xs) = (0 < x.2) × AllByRecursion (λ y. y.0 ≢ x.0) xs × AreOffers xs

-- The hits are the best of the offers, in whatever order these came. At each place k is the one that passes and has k
-- better ones.
pub record IsBest (offered : List Offer) (board : Board) : Type 0 where
  pub each : (place : ℕ) (x : Offer) → (slice_get board.hits place ≡ Some x)
      ↔ (Contains offered x × (passes board x ≡ true) × (betters board offered x ≡ place) × (place < board.most))
