use Rattle.std.proofs.Common.{bit_and, subst, sym}
use Rattle.smarts_mean.specs.Table.{HoldsIn}
use Rattle.smarts_parse.specs.Pattern.{Prim}
use Rattle.matcher.specs.Candidates.{IsTruth}
use Rattle.matcher.proofs.Truths.{truth_any, truth_part}
use Rattle.matcher.proofs.candidates.prim_truth.Goals as goal

pub returns-in-Symbol : goal.returns-in-Symbol
returns-in-Symbol c = subst (λ p. IsTruth (HoldsIn c.args.table.now) c.args.mol.now (Prim p) c.args.block c.args.within
    c.symbol_truth.result) (sym c.in-Symbol.is) (c.symbol_truth.ensures c.args.table.now)

pub returns-in-Number : goal.returns-in-Number
returns-in-Number c = subst (λ p. IsTruth (HoldsIn c.args.table.now) c.args.mol.now (Prim p) c.args.block c.args.within
    c.number_truth.result) (sym c.in-Number.is) (c.number_truth.ensures c.args.table.now)

pub returns-in-Rec : goal.returns-in-Rec
returns-in-Rec c = subst (λ p. IsTruth (HoldsIn c.args.table.now) c.args.mol.now (Prim p) c.args.block c.args.within
    (bit_and (bit_and c.args.within c.all_in.result) c.block.result)) (sym c.in-Rec.is)
    (truth_part c.args.table.now c.args.mol.now c.in-Rec.part c.args.block c.args.within c.all_in.result c.block.result
    c.all_in.ensures c.block.ensures)

pub returns-in-Any : goal.returns-in-Any
returns-in-Any c = subst (λ p. IsTruth (HoldsIn c.args.table.now) c.args.mol.now (Prim p) c.args.block c.args.within
    (bit_and c.args.within c.all_in-in-Any.result)) (sym c.in-Any.is)
    (truth_any (HoldsIn c.args.table.now) c.args.mol.now c.args.block c.args.within c.all_in-in-Any.result
    c.all_in-in-Any.ensures)
