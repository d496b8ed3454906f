use Rattle.std.proofs.Common.{arith}
use Rattle.path_print.proofs.arm.bit_between.Goals as goal

pub sum_through-there-requires-clause-first : goal.sum_through-there-requires-clause-first
sum_through-there-requires-clause-first c = (c.args.before, c.requires.short, c.requires.first)

pub sum_through-back-requires-clause-first : goal.sum_through-back-requires-clause-first
sum_through-back-requires-clause-first c = (c.args.behind, omega arith, c.requires.last)
