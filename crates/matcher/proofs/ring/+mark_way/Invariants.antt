use Rattle.matcher.proofs.ring.+mark_way.Given as goal

-- a way goes down
abbrev pub decreases-mark_way : goal.decreases-mark_way
decreases-mark_way l = l.from
