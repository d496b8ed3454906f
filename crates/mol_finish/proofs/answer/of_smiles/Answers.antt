use Rattle.std.proofs.lemmas.Result.{err_from_is_err_and}
use Rattle.mol_finish.proofs.Stages.{smiles-refused}
use Rattle.mol_finish.proofs.answer.of_smiles.Goals as goal

pub returns-in_err-of_sketch : goal.returns-in_err-of_sketch
returns-in_err-of_sketch c =
    let p = err_from_is_err_and c.from_residual-in_err-of_sketch.result c.from_residual-in_err-of_sketch.ensures.1 in
    rw (p.1, p.2) (smiles-refused c.args.text.now c.in_ok-sketch.sketch c.in_err-of_sketch.field-0.0
    c.in_ok-sketch.ensures.reading c.in_err-of_sketch.ensures)

pub returns : goal.returns
returns c = (c.in_ok-sketch.sketch, c.in_ok-sketch.ensures.reading, c.in_ok-of_sketch.ensures)
