use Rattle.std.proofs.Common.{arith, below_more}
use Rattle.std.proofs.lemmas.List.{length-map}
use Rattle.smarts_parse.specs.Pattern.{term_of}
use Rattle.matcher.proofs.route.is_stop.Goals as goal

pub loop-number-preserved : goal.loop-number-preserved
loop-number-preserved c = below_more _ _ c.loop-number.invariant (λ _. c.is_join.ensures c.if-not-is_join.false)

pub returns : goal.returns
returns c = λ _. record {
  place = omega (arith, length-map c.args.graph.now.atoms.items term_of);
  first = c.has_first.ensures c.if-not-has_first.false;
  range = omega arith;
  within = omega arith;
  others = λ n l f. c.loop-number.invariant n (omega arith) f;
}
