use Rattle.std.proofs.Common.{subst}
use Rattle.record_versions.specs.Ahead.{AreOwn, IsOwn}
use Rattle.record_versions.proofs.finder.near.Goals as goal

pub returns-then-next-id-2 : goal.returns-then-next-id-2
returns-then-next-id-2 g c = record {
  own = λ all h.
      let are = subst (AreOwn all) c.in_ok-next.ensures.steps (c.loop-turn.invariant all h) in
      (are.1, subst (λ id. IsOwn all (id, c.in_ok-next.chain.now)) c.if-next-id-2.true are.0);
}

pub returns-else-next-id-2 : goal.returns-else-next-id-2
returns-else-next-id-2 g c = record {
  own = λ all h. ((subst (AreOwn all) c.in_ok-next.ensures.steps (c.loop-turn.invariant all h)).1, tt);
}

pub loop-turn-preserved : goal.loop-turn-preserved
loop-turn-preserved g c = λ all h. (subst (AreOwn all) c.in_ok-next.ensures.steps (c.loop-turn.invariant all h)).1

pub returns : goal.returns
returns g c = record { own = λ all h. (c.loop-turn.invariant all h, tt) }
