use Rattle.std.proofs.Common.{rules, inl, inr}
use Rattle.chem_shell.proofs.words.matches.Goals as goal

pub returns-in-Err-clause-err : goal.returns-in-Err-clause-err
returns-in-Err-clause-err c = elim c.refused.ensures [
  | inl none ↦ inl none
  | inr kind ↦ inr (λ taken. kind (search rules))
]
