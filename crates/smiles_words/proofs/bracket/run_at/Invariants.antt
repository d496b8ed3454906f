use Rattle.std.proofs.Common.{◌≡◌, ◌-◌, ◌≤◌, ◌++◌, replicate}
use Rattle.smiles_words.proofs.bracket.run_at.Given as goal

abbrev pub invariant-loop-count : goal.invariant-loop-count
invariant-loop-count l = record { few : l.count ≤ 15; so_far : l.bytes ≡ replicate l.count l.sign ++ l.rest }

abbrev pub decreases-loop-count : goal.decreases-loop-count
decreases-loop-count l = 15 - l.count
