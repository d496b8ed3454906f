use Rattle.store_disk.proofs.Opened.{keeps-none}
use Rattle.store_disk.proofs.replay.thinned.Goals as goal

pub returns : goal.returns
returns c = λ s h none. let p = c.prune_but.ensures.pruned s h (keeps-none s none) in (p.left, p.stands)

pub returns-then-since-saturating_add : goal.returns-then-since-saturating_add
returns-then-since-saturating_add c = λ s h none. (s.kept, h)
