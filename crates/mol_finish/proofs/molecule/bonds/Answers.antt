use Rattle.std.proofs.Common.{◌<◌, length, arith}
use Rattle.mol_finish.proofs.Meaning.{bonds-more}
use Rattle.mol_finish.proofs.molecule.bonds.Goals as goal

pub loop-place-preserved : goal.loop-place-preserved
loop-place-preserved c =
    let within : c.loop-place.place < length c.args.sketch.now = omega arith in
    bonds-more _ _ _ _ _ _ _ within c.loop-place.invariant c.meant_bond.ensures c.in_ok-push.ensures.items
