use Rattle.std.proofs.Common.{◌≡◌, ℕ}
use Rattle.aromatic.specs.Tallies.{tally_at}
use Rattle.aromatic.proofs.Tallies.{tally_below}
use Rattle.aromatic.proofs.bond_tallies.add_bonds.Given as goal

abbrev pub invariant-loop-place : goal.invariant-loop-place
invariant-loop-place l = (a : ℕ) → tally_at l.tallies a ≡ tally_below l.bonds l.aromatic l.place a
