use Rattle.std.proofs.Common.{lit≤, arith}
use Rattle.path_print.proofs.Halves.{half_of_smaller}
use Rattle.path_print.proofs.arm.Half.longer.Goals as goal

pub overflow_add-result : goal.overflow_add-result
overflow_add-result c =
    let small = half_of_smaller 1 c.args.self.now (lit≤ tt) c.requires in
    omega arith

pub overflow_add-result-3 : goal.overflow_add-result-3
overflow_add-result-3 c =
    let small = half_of_smaller 1 c.args.self.now (lit≤ tt) c.requires in
    omega arith

pub overflow_mul-result-3 : goal.overflow_mul-result-3
overflow_mul-result-3 c =
    let small = half_of_smaller 1 c.args.self.now (lit≤ tt) c.requires in
    omega arith

pub overflow_add-result-4 : goal.overflow_add-result-4
overflow_add-result-4 c =
    let small = half_of_smaller 1 c.args.self.now (lit≤ tt) c.requires in
    omega arith
