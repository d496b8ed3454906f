use Rattle.std.proofs.Common.{◌*◌, arith, below_more, slice_index}
use Rattle.matcher.proofs.Follows.{joined_same}
use Rattle.matcher.proofs.follow.note_all.Goals as goal

pub loop-set-preserved : goal.loop-set-preserved
loop-set-preserved c = below_more _ _
    (λ k l. joined_same c.args.mol.now (slice_index c.args.kinds.now k) (64 * k) c.loop-set.joined
    c.note_joined.new.joined c.requires.few (λ i few. c.note_joined.ensures.before i (omega arith)) (c.loop-set.invariant k l))
    c.note_joined.ensures.here
