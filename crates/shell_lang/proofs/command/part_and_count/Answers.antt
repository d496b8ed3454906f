use Rattle.std.proofs.Common.{◌≢◌, ℕ, arith, decimal}
use Rattle.shell_lang.specs.Command.{IsCount}
use Rattle.shell_lang.proofs.Taken.{no_count, other_count, count_of_0}
use Rattle.shell_lang.proofs.command.part_and_count.Goals.{in_default-via-in-Some+else-count-ge1, in_default-via-in_default}
use Rattle.shell_lang.proofs.command.part_and_count.Goals as goal

pub returns-in_err-part-clause-none : goal.returns-in_err-part-clause-none
returns-in_err-part-clause-none c = rw c.from_residual.ensures (no_count _ c.in_err-part.ensures.none)

pub returns-in_default-clause-none : goal.returns-in_default-clause-none
returns-in_default-clause-none c =
    other_count _ _ _ c.in_ok-part.ensures.parts c.in_ok-part.ensures.first
    (elim c.in_default.branch as (λ _. (n : ℕ) → IsCount n → c.in_ok-part.digits.now ≢ decimal n) [
      | in_default-via-in-Some+else-count-ge1 w ↦
          count_of_0 _ w.in-Some.count w.in-Some.ensures.some (omega arith)
      | in_default-via-in_default w ↦ λ n few. w.in_default.ensures.none n (omega (arith, few.1))
    ])
