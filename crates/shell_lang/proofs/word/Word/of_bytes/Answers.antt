use Rattle.std.proofs.Common.{◌≡◌, arith}
use Rattle.shell_lang.specs.declared.word.Word.TheVariants as words
use Rattle.shell_lang.specs.Word.{word_text}
use Rattle.shell_lang.proofs.word.Word.of_bytes.Goals as goal

pub returns : goal.returns
returns c w = elim w as (λ v. word_text v ≡ c.args.bytes.now → ⊥) [
  | words.Register ↦ c.loop-word.invariant 0 words.Register (omega arith)
  | words.RegisterNew ↦ c.loop-word.invariant 1 words.RegisterNew (omega arith)
  | words.Revise ↦ c.loop-word.invariant 2 words.Revise (omega arith)
  | words.RegisterMol ↦ c.loop-word.invariant 3 words.RegisterMol (omega arith)
  | words.ReviseMol ↦ c.loop-word.invariant 4 words.ReviseMol (omega arith)
  | words.RegisterSd ↦ c.loop-word.invariant 5 words.RegisterSd (omega arith)
  | words.Withdraw ↦ c.loop-word.invariant 6 words.Withdraw (omega arith)
  | words.Show ↦ c.loop-word.invariant 7 words.Show (omega arith)
  | words.Data ↦ c.loop-word.invariant 8 words.Data (omega arith)
  | words.Search ↦ c.loop-word.invariant 9 words.Search (omega arith)
  | words.Same ↦ c.loop-word.invariant 10 words.Same (omega arith)
  | words.Similar ↦ c.loop-word.invariant 11 words.Similar (omega arith)
  | words.Open ↦ c.loop-word.invariant 12 words.Open (omega arith)
  | words.Next ↦ c.loop-word.invariant 13 words.Next (omega arith)
  | words.Close ↦ c.loop-word.invariant 14 words.Close (omega arith)
  | words.Watch ↦ c.loop-word.invariant 15 words.Watch (omega arith)
  | words.Hits ↦ c.loop-word.invariant 16 words.Hits (omega arith)
  | words.Unwatch ↦ c.loop-word.invariant 17 words.Unwatch (omega arith)
]
