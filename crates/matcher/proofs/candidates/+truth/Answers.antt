use Rattle.std.proofs.Common.{arith, bit_and, bit_or, subst, sym, w64}
use Rattle.std.specs.Int.{bit_not}
use Rattle.smarts_mean.specs.Table.{HoldsIn}
use Rattle.smarts_parse.specs.Pattern.{term_of}
use Rattle.matcher.specs.Candidates.{IsTruth}
use Rattle.matcher.proofs.Truths.{truth_and, truth_none, truth_not, truth_or}
use Rattle.matcher.proofs.candidates.+truth.Goals as goal

pub returns-then-within-eq0 : goal.returns-then-within-eq0
returns-then-within-eq0 t c = subst (λ w. IsTruth (HoldsIn c.args.table.now) c.args.mol.now (term_of c.args.expr.now)
    c.args.block w 0) (sym c.if-within-eq0.true)
    (truth_none (HoldsIn c.args.table.now) c.args.mol.now (term_of c.args.expr.now) c.args.block)

pub returns-in-Not : goal.returns-in-Not
returns-in-Not t c =
    let P = HoldsIn c.args.table.now in
    let m = c.args.mol.now in
    subst (λ e. IsTruth P m (term_of e) c.args.block c.args.within
    (bit_and c.args.within (bit_not w64 c.truth.result))) (sym c.in-Not.is)
    (truth_not P m _ c.args.block c.args.within c.truth.result (omega arith)
    (subst (λ e. IsTruth P m (term_of e) c.args.block c.args.within c.truth.result) c.deref.ensures c.truth.ensures))

pub returns-in-And : goal.returns-in-And
returns-in-And t c =
    let P = HoldsIn c.args.table.now in
    let m = c.args.mol.now in
    subst (λ e. IsTruth P m (term_of e) c.args.block c.args.within c.truth-in-And.result)
    (sym c.in-And.is)
    (truth_and P m _ _ c.args.block c.args.within c.truth-first.result c.truth-in-And.result
    (subst (λ e. IsTruth P m (term_of e) c.args.block c.args.within c.truth-first.result) c.deref-in-And.ensures
    c.truth-first.ensures)
    (subst (λ e. IsTruth P m (term_of e) c.args.block c.truth-first.result c.truth-in-And.result)
    c.deref-in-And-2.ensures c.truth-in-And.ensures))

pub returns-in-Or : goal.returns-in-Or
returns-in-Or t c =
    let P = HoldsIn c.args.table.now in
    let m = c.args.mol.now in
    subst (λ e. IsTruth P m (term_of e) c.args.block c.args.within
    (bit_or c.truth-in-Or.result c.truth-in-Or-2.result)) (sym c.in-Or.is)
    (truth_or P m _ _ c.args.block c.args.within c.truth-in-Or.result c.truth-in-Or-2.result
    (subst (λ e. IsTruth P m (term_of e) c.args.block c.args.within c.truth-in-Or.result) c.deref-in-Or.ensures
    c.truth-in-Or.ensures)
    (subst (λ e. IsTruth P m (term_of e) c.args.block c.args.within c.truth-in-Or-2.result) c.deref-in-Or-2.ensures
    c.truth-in-Or-2.ensures))
