use Rattle.std.proofs.Common.{refl}
use Rattle.smarts_mean.specs.Table.{HoldsIn}
use Rattle.smarts_parse.specs.declared.pattern.AtomPrim.TheVariants as atoms
use Rattle.matcher.proofs.Truths.{all_seen, first_seen, symbol_found}
use Rattle.matcher.proofs.candidates.symbol_truth.Goals as goal

pub returns-then-block-eq0 : goal.returns-then-block-eq0
returns-then-block-eq0 c t =
    let m = c.args.mol.now in
    let prim = (atoms.Symbol c.args.number c.args.lower) in
    all_seen (HoldsIn t) m prim c.args.block c.args.within 0 c.symbol_word.result refl
    (first_seen (HoldsIn t) m prim c.args.block c.symbol_word.result c.if-block-eq0.true
    (λ i l. symbol_found (HoldsIn t) m c.args.number c.args.lower c.symbol_word.result i (c.symbol_word.ensures i l)))
