use Rattle.std.proofs.Common.{◌<◌, length, arith}
use Rattle.valence.proofs.Hydrogens.{fill-more}
use Rattle.valence.proofs.fill.fill.Goals as goal

pub loop-place-preserved : goal.loop-place-preserved
loop-place-preserved c =
    let within : c.loop-place.place < length c.args.atoms.now = omega arith in
    fill-more _ _ _ _ _ _ within c.loop-place.invariant c.hydrogens-atom.ensures
