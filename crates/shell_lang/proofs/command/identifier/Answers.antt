use Rattle.std.proofs.Common.{◌≡◌, sym, ◌∙◌, arith}
use Rattle.std.proofs.lemmas.Fmt.{decimal_injective}
use Rattle.shell_lang.proofs.command.identifier.Goals as goal

-- a number that is read is no other, and this one is 0
pub returns-in_default-clause-none : goal.returns-in_default-clause-none
returns-in_default-clause-none c id is e =
    let same : c.in-Some.id ≡ id =
    decimal_injective c.in-Some.id id (omega arith) (omega arith) (sym c.in-Some.ensures.some ∙ e) in
    omega arith
