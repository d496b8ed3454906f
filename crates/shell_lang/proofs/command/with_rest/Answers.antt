use Rattle.std.proofs.Common.{Err, ap, sym, ◌∙◌}
use Rattle.std.proofs.lemmas.Result.{err_from_is_err_and}
use Rattle.shell_lang.proofs.Refused.{registration_refused, new_refused, revision_refused, register_mol_refused, revise_mol_refused, register_sd_refused, withdraw_refused, show_refused, data_refused}
use Rattle.shell_lang.proofs.command.with_rest.Goals as goal

pub returns-in_err-id-in-Register : goal.returns-in_err-id-in-Register
returns-in_err-id-in-Register c =
    let found = c.in_err-id-in-Register.ensures in
    let p = err_from_is_err_and c.from_residual.result c.from_residual.ensures.1 in
    rw (c.in-Register.is, p.1)
    (registration_refused _ p.0 (λ e. found.id (ap (λ x. Err x) (sym p.2 ∙ e)))
    (λ e. found.syntax (ap (λ x. Err x) (sym p.2 ∙ e))))

pub returns-in_err-id-in-RegisterNew : goal.returns-in_err-id-in-RegisterNew
returns-in_err-id-in-RegisterNew c =
    let found = c.in_err-id-in-RegisterNew.ensures in
    let p = err_from_is_err_and c.from_residual-in_err-id-in-RegisterNew.result
    c.from_residual-in_err-id-in-RegisterNew.ensures.1 in
    rw (c.in-RegisterNew.is, p.1)
    (new_refused _ p.0 (λ e. found.id (ap (λ x. Err x) (sym p.2 ∙ e)))
    (λ e. found.syntax (ap (λ x. Err x) (sym p.2 ∙ e))))

pub returns-in_err-id-in-Revise : goal.returns-in_err-id-in-Revise
returns-in_err-id-in-Revise c =
    let found = c.in_err-id-in-Revise.ensures in
    let p = err_from_is_err_and c.from_residual-in_err-id-in-Revise.result
    c.from_residual-in_err-id-in-Revise.ensures.1 in
    rw (c.in-Revise.is, p.1)
    (revision_refused _ p.0 (λ e. found.id (ap (λ x. Err x) (sym p.2 ∙ e)))
    (λ e. found.syntax (ap (λ x. Err x) (sym p.2 ∙ e))))

pub returns-in_err-identifier_alone-in-RegisterMol : goal.returns-in_err-identifier_alone-in-RegisterMol
returns-in_err-identifier_alone-in-RegisterMol c =
    let found = c.in_err-identifier_alone-in-RegisterMol.ensures in
    let p = err_from_is_err_and c.from_residual-in_err-identifier_alone-in-RegisterMol.result
    c.from_residual-in_err-identifier_alone-in-RegisterMol.ensures.1 in
    rw (c.in-RegisterMol.is, p.1)
    (register_mol_refused _ p.0 (λ e. found.id (ap (λ x. Err x) (sym p.2 ∙ e)))
    (λ e. found.syntax (ap (λ x. Err x) (sym p.2 ∙ e))))

pub returns-in_err-identifier_alone-in-ReviseMol : goal.returns-in_err-identifier_alone-in-ReviseMol
returns-in_err-identifier_alone-in-ReviseMol c =
    let found = c.in_err-identifier_alone-in-ReviseMol.ensures in
    let p = err_from_is_err_and c.from_residual-in_err-identifier_alone-in-ReviseMol.result
    c.from_residual-in_err-identifier_alone-in-ReviseMol.ensures.1 in
    rw (c.in-ReviseMol.is, p.1)
    (revise_mol_refused _ p.0 (λ e. found.id (ap (λ x. Err x) (sym p.2 ∙ e)))
    (λ e. found.syntax (ap (λ x. Err x) (sym p.2 ∙ e))))

pub returns-in_err-id-in-RegisterSd : goal.returns-in_err-id-in-RegisterSd
returns-in_err-id-in-RegisterSd c =
    let found = c.in_err-id-in-RegisterSd.ensures in
    let p = err_from_is_err_and c.from_residual-in_err-id-in-RegisterSd.result
    c.from_residual-in_err-id-in-RegisterSd.ensures.1 in
    rw (c.in-RegisterSd.is, p.1)
    (register_sd_refused _ p.0 (λ e. found.id (ap (λ x. Err x) (sym p.2 ∙ e)))
    (λ e. found.syntax (ap (λ x. Err x) (sym p.2 ∙ e))))

pub returns-in_err-identifier_alone-in-Withdraw : goal.returns-in_err-identifier_alone-in-Withdraw
returns-in_err-identifier_alone-in-Withdraw c =
    let found = c.in_err-identifier_alone-in-Withdraw.ensures in
    let p = err_from_is_err_and c.from_residual-in_err-identifier_alone-in-Withdraw.result
    c.from_residual-in_err-identifier_alone-in-Withdraw.ensures.1 in
    rw (c.in-Withdraw.is, p.1)
    (withdraw_refused _ p.0 (λ e. found.id (ap (λ x. Err x) (sym p.2 ∙ e)))
    (λ e. found.syntax (ap (λ x. Err x) (sym p.2 ∙ e))))

pub returns-in_err-identifier_alone-in-Show : goal.returns-in_err-identifier_alone-in-Show
returns-in_err-identifier_alone-in-Show c =
    let found = c.in_err-identifier_alone-in-Show.ensures in
    let p = err_from_is_err_and c.from_residual-in_err-identifier_alone-in-Show.result
    c.from_residual-in_err-identifier_alone-in-Show.ensures.1 in
    rw (c.in-Show.is, p.1)
    (show_refused _ p.0 (λ e. found.id (ap (λ x. Err x) (sym p.2 ∙ e)))
    (λ e. found.syntax (ap (λ x. Err x) (sym p.2 ∙ e))))

pub returns-in_err-id-in-Data : goal.returns-in_err-id-in-Data
returns-in_err-id-in-Data c =
    let found = c.in_err-id-in-Data.ensures in
    let p = err_from_is_err_and c.from_residual-in_err-id-in-Data.result
    c.from_residual-in_err-id-in-Data.ensures.1 in
    rw (c.in-Data.is, p.1)
    (data_refused _ p.0 (λ e. found.id (ap (λ x. Err x) (sym p.2 ∙ e)))
    (λ e. found.syntax (ap (λ x. Err x) (sym p.2 ∙ e))))
