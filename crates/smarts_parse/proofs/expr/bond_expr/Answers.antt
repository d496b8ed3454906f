use Rattle.std.proofs.Common.{◌≡◌, ◌≢◌, List, [], map, subst, arith}
use Rattle.std.proofs.lemmas.Grind.{common_steps}
use Rattle.smarts_words.specs.declared.word.Step.{Step}
use Rattle.smarts_parse.specs.declared.pattern.BondPrim.{BondPrim}
use Rattle.smarts_parse.specs.Meaning.{bond_step}
use Rattle.smarts_parse.specs.Steps.{LeaveOne}
use Rattle.smarts_parse.proofs.Arity.{leave_bonds}
use Rattle.smarts_parse.proofs.expr.bond_expr.Goals as goal

pub expr-requires : goal.expr-requires
expr-requires c =
    let e : map bond_step c.args.steps.now ≡ c.deref.result.now = grind (arith, common_steps) in
    let written : c.args.steps.now ≢ [] = grind (arith, common_steps) in
    subst (λ (w : List (Step BondPrim)). LeaveOne 0 w) e (leave_bonds 0 c.args.steps.now (c.requires written))
