use Rattle.std.proofs.Common.{◌∙◌, arith, get_or, subst, sym}
use Rattle.std.proofs.lemmas.Bool.{eqb-true}
use Rattle.smarts_parse.specs.Pattern.{BondTerm}
use Rattle.matcher.specs.Route.{AsksKinds}
use Rattle.matcher.proofs.Hunts.{read_bond}
use Rattle.matcher.proofs.Routes.{asked_kinds}
use Rattle.matcher.proofs.route.is_sorted.Goals as goal

pub returns : goal.returns
returns c = λ t.
    let items = c.args.graph.now.bonds.items in
    let number = c.args.number in
    let bond = c.index-bond.result.now in
    let set = get_or c.args.sets.now number 0 in
    record {
      within = omega arith;
      same = asked_kinds items number (get_or c.args.kinds.now set 0) bond c.requires.bond c.index-bond.ensures
          (sym c.kinds_of-asked.ensures ∙ eqb-true _ _ t);
      alone = λ d. subst (λ (b : BondTerm). AsksKinds b.expr)
          (sym (read_bond items number bond c.requires.bond c.index-bond.ensures d))
          (c.asks_kinds.ensures c.if-not-asks_kinds.false);
    }
