use Rattle.std.proofs.Common.{Err, ap, sym, ◌∙◌}
use Rattle.std.proofs.lemmas.Result.{err_from_is_err_and}
use Rattle.shell_lang.proofs.Refused.{register_mol_refused}
use Rattle.shell_lang.proofs.command.registration.Goals as goal

pub returns-in_err-id : goal.returns-in_err-id
returns-in_err-id c =
    let found = c.in_err-id.ensures in
    let p = err_from_is_err_and c.from_residual.result c.from_residual.ensures.1 in
    rw p.1 (register_mol_refused _ p.0 (λ e. found.id (ap (λ x. Err x) (sym p.2 ∙ e)))
    (λ e. found.syntax (ap (λ x. Err x) (sym p.2 ∙ e))))
