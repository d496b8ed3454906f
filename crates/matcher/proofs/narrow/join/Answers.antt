use Rattle.std.proofs.Common.{arith}
use Rattle.matcher.proofs.Narrowings.{joined_here, joined_kept}
use Rattle.matcher.proofs.narrow.join.Goals as goal

pub returns-clause-here : goal.returns-clause-here
returns-clause-here c = joined_here c.args.near.now c.args.atom c.from.result c.args.other c.args.bit c.from.ensures
    (omega (arith, c.from.ensures, c.requires.atom)) c.requires.other

pub returns-clause-kept : goal.returns-clause-kept
returns-clause-kept c = joined_kept c.args.near.now c.from.result _ (omega (arith, c.from.ensures, c.requires.atom))
