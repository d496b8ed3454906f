use Rattle.std.proofs.Common.{◌-◌, arith}
use Rattle.smarts_mean.specs.Table.{HoldsIn}
use Rattle.smarts_parse.specs.declared.pattern.AtomPrim.TheVariants as atoms
use Rattle.matcher.proofs.Truths.{all_seen, one_seen, prim_seen}
use Rattle.matcher.proofs.candidates.number_truth_by_atom.Goals as goal

pub loop-bit-preserved : goal.loop-bit-preserved
loop-bit-preserved c t =
    let m = c.args.mol.now in
    let prim = (atoms.Number c.args.number) in
    let place = c.loop-bit.bit - 1 in
    one_seen (HoldsIn t) m prim c.args.block place c.loop-bit.bit c.loop-bit.word c.with_lowest-word.result
    c.has_number.result (omega arith) c.with_lowest-word.ensures.lowest c.with_lowest-word.ensures.others
    (prim_seen (HoldsIn t) m prim c.args.block place c.block_atoms-atoms.result.now c.has_number.result (omega arith)
    c.block_atoms-atoms.ensures.atoms c.has_number.ensures) (c.loop-bit.invariant t)

pub returns : goal.returns
returns c t = all_seen (HoldsIn t) c.args.mol.now (atoms.Number c.args.number) c.args.block c.args.within c.loop-bit.bit
    c.loop-bit.word (omega arith) (c.loop-bit.invariant t)
