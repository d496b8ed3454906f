use Rattle.std.proofs.Common.{arith, ◌∙◌, sym}
use Rattle.chem_shell.proofs.Asked.{below_is_none}
use Rattle.chem_shell.proofs.words.number.Goals.{in_default-via-in-Some+else-number-from, in_default-via-in_default}
use Rattle.chem_shell.proofs.words.number.Goals as goal

pub returns-in_default-clause-err : goal.returns-in_default-clause-err
returns-in_default-clause-err c = λ n is. elim c.in_default.branch [
  | in_default-via-in-Some+else-number-from w ↦
      below_is_none c.args.word.now w.in-Some.number c.args.least c.args.most n (omega arith)
      (omega (arith, w.in-Some.ensures.limit)) (omega arith) (sym c.as_bytes.ensures.value ∙ w.in-Some.ensures.some) is
  | in_default-via-in_default w ↦ w.in_default.ensures.none n (omega (arith, is.2)) (c.as_bytes.ensures.value ∙ is.0)
]
