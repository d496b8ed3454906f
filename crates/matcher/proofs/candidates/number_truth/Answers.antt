use Rattle.std.proofs.Common.{◌≡◌, bit_and, bit_or, refl, subst}
use Rattle.smarts_mean.specs.Table.{HoldsIn}
use Rattle.smarts_parse.specs.declared.pattern.AtomPrim.TheVariants as atoms
use Rattle.smarts_parse.specs.Pattern.{Prim}
use Rattle.matcher.specs.Candidates.{IsTruth}
use Rattle.matcher.proofs.Truths.{all_seen, first_seen, number_found}
use Rattle.matcher.proofs.candidates.number_truth.Goals as goal

pub returns-in-Ok : goal.returns-in-Ok
returns-in-Ok c t =
    let m = c.args.mol.now in
    let byte = c.in-Ok.byte in
    let prim = (atoms.Number byte) in
    let plain = c.symbol_word.result in
    let aromatic = c.symbol_word-in-Ok.result in
    let same : byte ≡ c.args.number = c.in-Ok.ensures.1 in
    subst (λ n. IsTruth (HoldsIn t) m (Prim (atoms.Number n)) c.args.block c.args.within
    (bit_and (bit_or plain aromatic) c.args.within)) same
    (all_seen (HoldsIn t) m prim c.args.block c.args.within 0 (bit_or plain aromatic) refl
    (first_seen (HoldsIn t) m prim c.args.block (bit_or plain aromatic) c.if-block-eq0.true
    (λ i l. number_found (HoldsIn t) m byte plain aromatic i (c.symbol_word.ensures i l)
    (c.symbol_word-in-Ok.ensures i l))))
