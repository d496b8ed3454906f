use Rattle.matcher.proofs.ring.+way_down.Given as goal

-- a way goes down
abbrev pub decreases-way_down : goal.decreases-way_down
decreases-way_down l = l.from
