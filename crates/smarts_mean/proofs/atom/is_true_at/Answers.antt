-- One count of ring bonds is asked for, and one smallest ring.
use Rattle.std.proofs.Common.{ap, ◌∙◌}
use Rattle.smarts_parse.specs.declared.pattern.AtomPrim.TheVariants as atoms
use Rattle.smarts_mean.specs.Table.{HoldsIn}
use Rattle.smarts_mean.proofs.Truths.{ring_bonds_some}
use Rattle.smarts_mean.proofs.atom.is_true_at.Goals as goal

pub returns-in-RingBonds-Some : goal.returns-in-RingBonds-Some
returns-in-RingBonds-Some c =
    let h = c.in-RingBonds-Some in
    let number = rw h.is at h.field-0-is in
    ring_bonds_some (HoldsIn c.args.table.now) c.args.prim c.args.mol.now c.args.place c.args.x h.n
    c.ring_bond_count.result c.from-in-RingBonds-Some.result
    (h.is ∙ ap atoms.RingBonds number) c.ring_bond_count.ensures c.from-in-RingBonds-Some.ensures
