use Rattle.path_print.specs.Arms.{views_around}
use Rattle.path_print.proofs.Joints.{joins_swap, joined_apart, one_is_arm}
use Rattle.path_print.proofs.arms.Arm.of.Goals as goal

pub returns-clause-arm : goal.returns-clause-arm
returns-clause-arm c =
    let middle = c.args.middle.now in
    let swapped = joins_swap middle.mol.now c.args.bond middle.atom c.args.to c.requires.joined in
    one_is_arm (views_around middle) middle.atom c.args.to c.byte_at-byte.result c.labels_of-labels.result c.of.result
    c.of-2.result (joined_apart middle.mol.now c.args.bond c.args.to middle.atom c.requires.middle.valid swapped)
    c.labels_of-labels.ensures.labels
    (λ family. c.byte_at-byte.ensures family c.args.to middle.atom swapped) c.of.ensures c.of-2.ensures
