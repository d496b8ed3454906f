use Rattle.std.proofs.Common.{◌≡◌, ℕ, ◌<◌, get_or}
use Rattle.std.specs.Int.{bit_at}
use Rattle.smarts_parse.specs.Pattern.{term_of}
use Rattle.smarts_parse.specs.Truth.{BondTrue}
use Rattle.matcher.proofs.Pairs.{IsLed}
use Rattle.matcher.proofs.Refusals.{no_bond}
use Rattle.matcher.proofs.second.leading_to.Given as goal

-- each end of a bond so far is found, if the other is in the word, and nothing else
abbrev pub invariant-loop-place : goal.invariant-loop-place
invariant-loop-place l = record {
  all : (k : ℕ) → k < l.place → BondTrue (term_of l.bond.expr) l.mol k
      → (bit_at l.second (get_or l.bonds k no_bond).b ≡ 1 → bit_at l.found (get_or l.bonds k no_bond).a ≡ 1)
      × (bit_at l.second (get_or l.bonds k no_bond).a ≡ 1 → bit_at l.found (get_or l.bonds k no_bond).b ≡ 1);
  only : (x : ℕ) → bit_at l.found x ≡ 1 → IsLed (term_of l.bond.expr) l.mol l.bonds l.second l.place x;
}
