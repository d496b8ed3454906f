use Rattle.std.proofs.Common.{refl}
use Rattle.shell_lang.proofs.Cuts.{no_name, other_name}
use Rattle.shell_lang.proofs.command.name_and_text.Goals as goal

pub returns-in_default-clause-err : goal.returns-in_default-clause-err
returns-in_default-clause-err c = (refl, no_name _ c.in_default.ensures.none)

pub returns-else-is_name-clause-err : goal.returns-else-is_name-clause-err
returns-else-is_name-clause-err c = (
  refl,
  other_name _ _ _ c.in-Some.ensures.parts c.in-Some.ensures.first
      (λ is. let t = c.if-is_name.ensures.1 is in cc),
)
