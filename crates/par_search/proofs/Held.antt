-- Pins and bounds along calls that follow each other.
use Rattle.std.proofs.Common.{arith, None, Option, Some, ℕ}
use Rattle.store_core.specs.Calls.{NotAbove, NotRaised, SameHeld}

not_above-same : (a : Option ℕ) → NotAbove a a
not_above-same None = tt
not_above-same (Some n) = omega arith

pub not_raised-same : (a : Option ℕ × Option ℕ) → NotRaised a a
not_raised-same a = (not_above-same a.0, not_above-same a.1)

not_above-more : (a b c : Option ℕ) → NotAbove a b → NotAbove b c → NotAbove a c
not_above-more None b c h k = tt
not_above-more (Some n) None c h k = absurd h
not_above-more (Some n) (Some m) None h k = absurd k
not_above-more (Some n) (Some m) (Some l) h k = omega (arith, h, k)

pub not_raised-more : (a b c : Option ℕ × Option ℕ) → NotRaised a b → NotRaised b c → NotRaised a c
not_raised-more a b c h k = (not_above-more a.0 b.0 c.0 h.0 k.0, not_above-more a.1 b.1 c.1 h.1 k.1)

pub held-same : (a : ℕ → ℕ → Type 0) → SameHeld a a
held-same a s v = (λ h. h, λ h. h)

pub held-more : (a b c : ℕ → ℕ → Type 0) → SameHeld a b → SameHeld b c → SameHeld a c
held-more a b c h k s v = (λ x. (h s v).0 ((k s v).0 x), λ x. (k s v).1 ((h s v).1 x))
