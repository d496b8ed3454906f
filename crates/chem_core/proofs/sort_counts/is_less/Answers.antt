use Rattle.chem_core.proofs.Sorts.{less-more, less-none}
use Rattle.chem_core.proofs.sort_counts.is_less.Goals as goal

pub loop-k-init : goal.loop-k-init
loop-k-init c = less-none c.args.counts.now c.args.asked.now

pub loop-k-preserved : goal.loop-k-preserved
loop-k-preserved c =
    less-more c.loop-k.less c.args.counts.now c.args.asked.now c.loop-k.k c.loop-k.invariant
