-- The least of several lengths; 0 is no length. For private clauses alone.
use Rattle.std.specs.Prelude.{◌≡◌, ◌≢◌, ◌≤◌, ◌⊎◌, ℕ}

-- the lesser of two lengths: one of them, no more than either, and 0 only if both are
pub record IsLesser (one other lesser : ℕ) : Type 0 where
  pub from : (lesser ≡ one) ⊎ (lesser ≡ other)
  pub first : one ≢ 0 → (lesser ≢ 0) × (lesser ≤ one)
  pub second : other ≢ 0 → (lesser ≢ 0) × (lesser ≤ other)
