use Rattle.std.proofs.Common.{◌<◌, length, ap, arith}
use Rattle.exact_find.specs.Key.{code}
use Rattle.exact_find.proofs.Sums.{summed-more}
use Rattle.exact_find.proofs.key.key_of.Goals as goal

pub loop-place-preserved : goal.loop-place-preserved
loop-place-preserved c =
    let within : c.loop-place.place < length c.args.mol.now.atoms =
    omega (arith, ap length c.atoms-place-end.ensures.value) in
    summed-more (code c.args.mol.now) c.args.mol.now.atoms c.loop-place.place c.loop-place.sum c.loop-place.squares
    c.code_of-code.result c.square-squares.result within c.code_of-code.ensures.value c.square-squares.ensures.value
    c.code_of-code.ensures.few c.square-squares.ensures.few c.loop-place.invariant
