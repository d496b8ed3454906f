use Rattle.std.proofs.lemmas.Option.{slice_get-get_or}
use Rattle.smarts_mean.specs.Table.{HoldsIn}
use Rattle.smarts_mean.proofs.Truths.{atom_prim}
use Rattle.smarts_mean.proofs.atom.prim_true.Goals as goal

pub returns : goal.returns
returns c =
    let m = c.args.mol.now in
    let a = c.args.atom in
    atom_prim (HoldsIn c.args.table.now) m a c.args.prim c.is_true_at.result _
    (rw (c.atoms.ensures.value, c.from.ensures) (slice_get-get_or m.atoms a _ c.requires.in_range))
    c.is_true_at.ensures
