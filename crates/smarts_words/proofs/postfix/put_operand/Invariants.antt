use Rattle.std.proofs.Common.{◌≡◌, ◌++◌, replicate}
use Rattle.smarts_words.specs.declared.word.Step.TheVariants as steps
use Rattle.smarts_words.proofs.postfix.put_operand.Given as goal

abbrev pub invariant-loop : goal.invariant-loop
invariant-loop g l = record { so_far : l.steps.items ≡ l.initial.steps.items ++ replicate l.counter steps.Not }
