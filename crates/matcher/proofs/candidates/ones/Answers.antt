use Rattle.std.proofs.Common.{◌≡◌, ◌↔◌, ◌-◌, ◌<◌, arith, subst, sym}
use Rattle.std.specs.Int.{bit_at}
use Rattle.matcher.proofs.Truths.{ones_below, shifted}
use Rattle.matcher.proofs.candidates.ones.Goals as goal

pub returns-then-count-lt64 : goal.returns-then-count-lt64
returns-then-count-lt64 c = λ i. subst (λ n. bit_at (n - 1) i ≡ 1 ↔ i < c.args.count)
    (sym (shifted c.args.count c.if-count-lt64.true)) (ones_below c.args.count i)

pub returns-else-count-lt64 : goal.returns-else-count-lt64
returns-else-count-lt64 c = λ i. subst (λ n. bit_at 18446744073709551615 i ≡ 1 ↔ i < n) (omega arith) (ones_below 64 i)
