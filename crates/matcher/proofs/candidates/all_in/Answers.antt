use Rattle.std.proofs.Common.{ap, arith, length}
use Rattle.matcher.proofs.candidates.all_in.Goals as goal

pub returns : goal.returns
returns c = λ i l. (
  λ t. omega (arith, (c.ones.ensures i).0 t, ap length c.atoms.ensures.value),
  λ r. (c.ones.ensures i).1 (omega (arith, r, ap length c.atoms.ensures.value)),
)
