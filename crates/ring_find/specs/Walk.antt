-- Walks over kept bonds that leave out one bond. For private clauses alone.
use Rattle.std.specs.Prelude.{◌≡◌, ◌≢◌, ◌≤◌, ℕ, zero, suc, Bool, true, false, List, slice_index_or}
use Rattle.chem_core.specs.Graph.{Ends, JoinsAt}

-- a kept bond other than b joins the atoms x and y
abbrev pub StepBut : Ends → List Bool → ℕ → ℕ → ℕ → Type 0
StepBut ends kept b x y = (c : ℕ) × (c ≢ b) × (slice_index_or kept c false ≡ true) × JoinsAt ends c x y

-- a walk of n steps from x to y
abbrev pub Walk : (ℕ → ℕ → Type 0) → ℕ → ℕ → ℕ → Type 0
Walk Step x y zero = x ≡ y
Walk Step x y (suc n) = (z : ℕ) × Walk Step x z n × Step z y

-- n is the least number of steps of a walk from x to y
pub record IsDistance (Step : ℕ → ℕ → Type 0) (x y n : ℕ) : Type 0 where
  pub walk : Walk Step x y n
  pub least : (m : ℕ) → Walk Step x y m → n ≤ m
