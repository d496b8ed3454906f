use Rattle.record_versions.proofs.Order.{AreRead}
use Rattle.record_versions.proofs.chain.Chain.unread_from.Given as goal

abbrev pub invariant-loop-place : goal.invariant-loop-place
invariant-loop-place g l = AreRead l.live l.from l.self.entries l.place
