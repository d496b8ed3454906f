use Rattle.std.proofs.Common.{lit≤}
use Rattle.path_print.specs.Path.{exact, plain}
use Rattle.path_print.specs.Arms.{views_around}
use Rattle.path_print.proofs.Joints.{joins_swap, joined_apart, arm_half, two_is_arm}
use Rattle.path_print.proofs.arms.Arm.longer.Goals as goal

pub longer-requires : goal.longer-requires
longer-requires c =
    arm_half (views_around c.args.middle.now) c.args.middle.now.atom 1 c.args.self.now exact (lit≤ tt) c.requires.arm

pub longer-requires-2 : goal.longer-requires-2
longer-requires-2 c =
    arm_half (views_around c.args.middle.now) c.args.middle.now.atom 1 c.args.self.now plain (lit≤ tt) c.requires.arm

pub returns-clause-arm : goal.returns-clause-arm
returns-clause-arm c =
    let middle = c.args.middle.now in
    let near = c.args.self.now.near in
    let swapped = joins_swap middle.mol.now c.args.bond near c.args.to c.requires.joined in
    two_is_arm (views_around middle) middle.atom c.args.to c.byte_at-byte.result c.labels_of-labels.result
    c.longer.result c.longer-2.result c.requires.new c.labels_of-labels.ensures.labels c.args.self.now c.requires.arm
    (joined_apart middle.mol.now c.args.bond c.args.to near c.requires.middle.valid swapped)
    (λ family. c.byte_at-byte.ensures family c.args.to near swapped) c.longer.ensures c.longer-2.ensures
