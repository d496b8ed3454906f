use Rattle.std.proofs.Common.{◌≢◌, ◌<◌, List, [], slice_index_or, ℕ}
use Rattle.chem_shell.specs.Words.{texts}
use Rattle.chem_shell.proofs.words.are_scripts.Given as goal

-- no word before has no bytes
abbrev pub invariant-loop-word : goal.invariant-loop-word
invariant-loop-word l = (k : ℕ) (d : List ℕ) → k < l.word-index → slice_index_or (texts l.words) k d ≢ []
