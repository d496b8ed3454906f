use Rattle.std.proofs.Common.{arith, sym}
use Rattle.std.proofs.Math.Nat.{min-eq_left, min-eq_right}
use Rattle.session_run.proofs.records.with_bytes.Goals as goal

pub returns-then-size-before : goal.returns-then-size-before
returns-then-size-before c = sym (min-eq_left (omega (arith, c.if-size-before.true)))

pub returns-else-size-before : goal.returns-else-size-before
returns-else-size-before c = sym (min-eq_right (omega (arith, c.if-size-before.false)))
