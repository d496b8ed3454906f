-- Pins along calls that follow each other.
use Rattle.std.proofs.Common.{◌≡◌, ◌⊎◌, ◌↔◌, inl, inr, subst, sym, ℕ}
use Rattle.store_core.specs.Calls.{SameHeld}
use Rattle.lookup.specs.Fetches.{HeldBesides}

-- nothing was taken
pub none_taken : (a b : ℕ → ℕ → Type 0) → ((s v : ℕ) → b s v ↔ (a s v ⊎ ⊥)) → SameHeld a b
none_taken a b held s v = (λ x. elim ((held s v).0 x) [ inl h ↦ h | inr n ↦ absurd n ], λ x. (held s v).1 (inl x))

-- a pin was taken and is held while others stay
pub held_on : (a b c : ℕ → ℕ → Type 0) (slot version : ℕ) → HeldBesides a slot version b → SameHeld b c
    → HeldBesides a slot version c
held_on a b c slot version h k s v = (λ x. (h s v).0 ((k s v).0 x), λ x. (k s v).1 ((h s v).1 x))

-- nothing was returned
pub kept_on : (a b c : ℕ → ℕ → Type 0) (slot version : ℕ) → HeldBesides a slot version b
    → ((s v : ℕ) → c s v ↔ (b s v × ¬ ⊥)) → HeldBesides a slot version c
kept_on a b c slot version h k s v =
    (λ x. (h s v).0 ((k s v).0 x).0, λ x. (k s v).1 ((h s v).1 x, λ n. n))

-- a pin that was taken in a slot that held none was given back
pub returned : (a b c : ℕ → ℕ → Type 0) (slot version : ℕ) → ((other : ℕ) → a slot other → ⊥)
    → HeldBesides a slot version b → ((s v : ℕ) → c s v ↔ (b s v × ¬ (slot ≡ s))) → SameHeld a c
returned a b c slot version free h k s v = (
  λ x. let y = (k s v).0 x in elim ((h s v).0 y.0) [ inl old ↦ old | inr e ↦ absurd (y.1 (sym e.0)) ],
  λ x. (k s v).1 ((h s v).1 (inl x), λ e. free v (subst (λ (n : ℕ). a n v) (sym e) x)),
)
