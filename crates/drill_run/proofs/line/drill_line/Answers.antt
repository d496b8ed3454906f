use Rattle.std.proofs.Common.{rules}
use Rattle.drill_run.proofs.Reading.{not_fail, not_reopen, not_session, not_spaced, not_stop}
use Rattle.drill_run.proofs.line.drill_line.Goals as goal

pub returns-in_err-first : goal.returns-in_err-first
returns-in_err-first c = rw c.from_residual.ensures
    (not_spaced c.args.line.now (λ e. search rules) c.in_err-first.ensures.none)

pub returns-in_err-number : goal.returns-in_err-number
returns-in_err-number c = rw c.from_residual-in_err-number.ensures
    (not_stop c.in-Some.disk c.args.line.now c.in_ok-first.first.now c.in_ok-first.rest.now
    c.in_ok-first.ensures.parts c.in_ok-first.ensures.first c.in-Some.ensures.some c.in_err-number.ensures.none)

pub returns-in_err-number_from_1 : goal.returns-in_err-number_from_1
returns-in_err-number_from_1 c = rw c.from_residual-in_err-number_from_1.ensures
    (not_fail c.in-Some-disk_of.disk c.args.line.now c.in_ok-first.first.now c.in_ok-first.rest.now
    c.in_ok-first.ensures.parts c.in_ok-first.ensures.first c.in-Some-disk_of.ensures.some
    c.in_err-number_from_1.ensures.none)

pub returns-in_err-number-2 : goal.returns-in_err-number-2
returns-in_err-number-2 c = rw c.from_residual-in_err-number-2.ensures
    (not_reopen c.args.line.now c.in_ok-first.first.now c.in_ok-first.rest.now c.in_ok-first.ensures.parts
    c.in_ok-first.ensures.first c.if-are_same.ensures.same c.in_err-number-2.ensures.none)

pub returns-in_err-number_from_1-2 : goal.returns-in_err-number_from_1-2
returns-in_err-number_from_1-2 c = rw c.from_residual-in_err-number_from_1-2.ensures
    (not_session c.args.line.now c.in_ok-first.first.now c.in_ok-first.rest.now c.in_ok-first.ensures.parts
    c.in_ok-first.ensures.first c.in_default.ensures.none c.in_default-disk_of.ensures.none
    c.if-are_same.ensures.other c.in_err-number_from_1-2.ensures.none)
