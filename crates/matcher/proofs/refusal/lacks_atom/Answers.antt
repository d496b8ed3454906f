use Rattle.std.proofs.Common.{arith, length}
use Rattle.std.proofs.lemmas.List.{length-map}
use Rattle.smarts_parse.specs.Embedding.{PartsHold}
use Rattle.smarts_parse.specs.Pattern.{pattern_of, term_of}
use Rattle.matcher.proofs.Classes.{no_atom}
use Rattle.matcher.proofs.refusal.lacks_atom.Goals as goal

pub returns-then-step-present-eq0 : goal.returns-then-step-present-eq0
returns-then-step-present-eq0 c = λ _ w.
    let p = pattern_of c.args.pattern.now in
    let atoms = c.args.pattern.now.top.atoms in
    no_atom (PartsHold p.recs c.args.mol.now (length p.recs)) p.top c.args.mol.now c.args.steps.now c.len.result
    c.loop-step.step-index c.classes-present.result c.requires
    (omega (arith, length-map atoms.items term_of, atoms.ok.0)) c.loop-step-test.true
    (λ k l h. (c.classes-present.ensures k l).1 h) c.if-step-present-eq0.true w.0 w.1
