use Rattle.std.proofs.Common.{◌≡◌, List, subst, arith}
use Rattle.std.proofs.lemmas.Grind.{common_steps}
use Rattle.smarts_words.specs.declared.word.Step.{Step}
use Rattle.smarts_parse.specs.declared.pattern.AtomPrim.{AtomPrim}
use Rattle.smarts_parse.specs.Meaning.{atom_steps}
use Rattle.smarts_parse.specs.Steps.{LeaveOne}
use Rattle.smarts_parse.proofs.Arity.{leave_atoms}
use Rattle.smarts_parse.proofs.expr.atom_expr.Goals as goal

pub expr-requires : goal.expr-requires
expr-requires c =
    let e : atom_steps c.args.numbers.now c.args.steps.now ≡ c.deref.result.now = grind (arith, common_steps) in
    subst (λ (w : List (Step AtomPrim)). LeaveOne 0 w) e
    (leave_atoms 0 c.args.numbers.now c.args.steps.now c.requires.one)
