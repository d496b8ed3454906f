use Rattle.std.proofs.lemmas.Option.{slice_get-get_or}
use Rattle.smarts_mean.proofs.Truths.{bond_prim}
use Rattle.smarts_mean.proofs.bond.prim_true.Goals as goal

pub returns : goal.returns
returns c =
    let m = c.args.mol.now in
    let b = c.args.bond in
    bond_prim m b c.args.prim c.is_true_at.result _
    (rw (c.bonds.ensures.value, c.from.ensures) (slice_get-get_or m.bonds b _ c.requires)) c.is_true_at.ensures
