use Rattle.std.proofs.Common.{◌≡◌, take}
use Rattle.std.proofs.lemmas.List.{take_all, take_more}
use Rattle.chem_core.proofs.Codes.{one-class-more}
use Rattle.chem_core.proofs.symbols.classes_of.Goals as goal

pub loop-atom-preserved : goal.loop-atom-preserved
loop-atom-preserved c =
    let i = c.loop-atom.atom-index in
    let class = rw c.from.ensures at c.class.ensures.value in
    one-class-more _ _ _ _ _ (take_more c.args.atoms.now i _ c.loop-atom-test.true) class c.class.ensures.few
    c.loop-atom.invariant

pub returns : goal.returns
returns c =
    let all : take c.loop-atom.atom-index c.args.atoms.now ≡ c.args.atoms.now =
    take_all c.loop-atom.atom-index c.args.atoms.now c.loop-atom-test.false in
    rw all at c.loop-atom.invariant
