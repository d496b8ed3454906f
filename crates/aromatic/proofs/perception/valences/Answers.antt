use Rattle.std.proofs.Common.{◌∙◌}
use Rattle.aromatic.specs.Tallies.{valence_at}
use Rattle.aromatic.proofs.Valences.{values-more, values-whole}
use Rattle.aromatic.proofs.perception.valences.Goals as goal

pub loop-place-preserved : goal.loop-place-preserved
loop-place-preserved c =
    values-more (λ p. valence_at c.args.flags.now c.args.tallies.now c.args.rows.now p.0 p.1) c.args.atoms.now
    c.loop-place.values.items _ c.loop-place.place _ _ c.loop-place-test.true c.loop-place.invariant
    c.in_ok-push.ensures.items c.valence.ensures

pub returns : goal.returns
returns c = c.loop-place.invariant ∙ values-whole (λ p. valence_at c.args.flags.now c.args.tallies.now c.args.rows.now
    p.0 p.1) c.args.atoms.now c.loop-place.place c.loop-place-test.false
