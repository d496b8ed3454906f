use Rattle.std.proofs.Common.{ℕ, ◌<◌, get_or}
use Rattle.smiles_words.specs.Atom.{IsDigit}
use Rattle.smiles_words.proofs.digit.digits_at.Given as goal

abbrev pub invariant-loop-count : goal.invariant-loop-count
invariant-loop-count l = (k : ℕ) → k < l.count → IsDigit (get_or l.bytes k 0)
