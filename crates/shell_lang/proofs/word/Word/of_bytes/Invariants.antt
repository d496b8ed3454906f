use Rattle.std.proofs.Common.{ℕ, ◌<◌, ◌≢◌, slice_index_or}
use Rattle.shell_lang.specs.declared.word.Word.{Word}
use Rattle.shell_lang.specs.Word.{word_text}
use Rattle.shell_lang.proofs.word.Word.of_bytes.Given as goal

-- the words so far are others
abbrev pub invariant-loop-word : goal.invariant-loop-word
invariant-loop-word l = (k : ℕ) (d : Word) → k < l.word-index → word_text (slice_index_or l.word-items k d) ≢ l.fn.bytes
