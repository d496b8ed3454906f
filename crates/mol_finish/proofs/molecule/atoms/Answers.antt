use Rattle.std.proofs.Common.{◌<◌, length, arith}
use Rattle.mol_finish.proofs.Meaning.{atoms-more}
use Rattle.mol_finish.proofs.molecule.atoms.Goals as goal

pub loop-place-preserved : goal.loop-place-preserved
loop-place-preserved c =
    let within : c.loop-place.place < length c.args.sketch.now = omega arith in
    atoms-more _ _ _ _ _ _ _ _ within c.loop-place.invariant c.meant_atom.ensures c.in_ok-push.ensures.items
