use Rattle.record_versions.specs.Ahead.{Rise}
use Rattle.record_versions.proofs.Walk.{GoesOn}
use Rattle.record_versions.proofs.chains.Chains.dead_from.Given as goal

abbrev pub invariant-loop-id : goal.invariant-loop-id
invariant-loop-id g l = GoesOn l.live l.from l.self l.id-iterator × Rise l.from.0 l.id-iterator
