use Rattle.std.proofs.lemmas.Result.{err_from_is_err_and}
use Rattle.mol_finish.proofs.Stages.{molfile-unread, molfile-refused}
use Rattle.mol_finish.proofs.answer.of_molfile.Goals as goal

pub returns-in_err-sketch : goal.returns-in_err-sketch
returns-in_err-sketch c =
    let p = err_from_is_err_and c.from_residual.result c.from_residual.ensures.1 in
    rw (p.1, p.2) (molfile-unread c.args.text.now c.in_err-sketch.field-0.0 c.in_err-sketch.ensures.reading)

pub returns-in_err-of_sketch : goal.returns-in_err-of_sketch
returns-in_err-of_sketch c =
    let p = err_from_is_err_and c.from_residual-in_err-of_sketch.result c.from_residual-in_err-of_sketch.ensures.1 in
    rw (p.1, p.2) (molfile-refused c.args.text.now c.in_ok-sketch.sketch c.in_err-of_sketch.field-0.0
    c.in_ok-sketch.ensures.no_aromatic_mark c.in_err-of_sketch.ensures)

pub returns : goal.returns
returns c = (c.in_ok-sketch.sketch, c.in_ok-sketch.ensures.reading, c.in_ok-of_sketch.ensures)
