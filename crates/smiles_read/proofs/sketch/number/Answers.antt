use Rattle.std.proofs.Common.{◌<◌, length, arith}
use Rattle.smiles_read.proofs.Enumerated.{number-more}
use Rattle.smiles_read.proofs.sketch.number.Goals as goal

pub loop-place-preserved : goal.loop-place-preserved
loop-place-preserved c =
    let within : c.loop-place.place < length c.args.atoms.now = omega arith in
    number-more _ _ _ _ within c.loop-place.invariant
