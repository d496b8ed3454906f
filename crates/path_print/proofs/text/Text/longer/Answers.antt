use Rattle.std.proofs.Common.{◌+◌, ◌*◌, ◌≤◌, refl, arith}
use Rattle.path_print.proofs.Digits.{length-digits, longer_inside, longer_there, longer_back, longer_fits}
use Rattle.path_print.proofs.text.Text.longer.Goals as goal

pub before_growth-sum-requires : goal.before_growth-sum-requires
before_growth-sum-requires c = λ le. (c.self.invariant.eight le).0

pub invariant_of-result : goal.invariant_of-result
invariant_of-result c =
    let i = c.self.inside in
    let few : i.length ≤ 11 = rw (← c.self.view_is, length-digits) at c.requires in
    longer_inside i.length i.there i.back i.there_sum i.back_sum i.weight c.args.byte c.args.label.0 c.args.label.1
    c.number_of-2.result c.sum_of-tail.result c.number_of.result c.sum_of-head.result few c.self.invariant
    (omega arith) (omega arith) (omega arith) c.number_of-2.ensures c.sum_of-tail.ensures c.number_of.ensures
    c.sum_of-head.ensures c.before_growth-sum.result c.before_growth-sum.ensures.same c.before_growth-sum.ensures.less
    c.before_growth-sum.ensures.small

pub returns : goal.returns
returns c =
    let i = c.self.inside in
    let few : i.length ≤ 11 = rw (← c.self.view_is, length-digits) at c.requires in
    let end = longer_there i.length i.there i.back i.there_sum i.back_sum i.weight c.args.byte c.args.label.0
    c.args.label.1 c.number_of-2.result c.sum_of-tail.result c.number_of.result c.sum_of-head.result few
    c.self.invariant (omega arith) (omega arith) (omega arith) c.number_of-2.ensures c.sum_of-tail.ensures
    c.number_of.ensures c.sum_of-head.ensures c.before_growth-sum.result c.before_growth-sum.ensures.same
    c.before_growth-sum.ensures.less c.before_growth-sum.ensures.small in
    let front = longer_back i.length i.there i.back i.there_sum i.back_sum i.weight c.args.byte c.args.label.0
    c.args.label.1 c.number_of-2.result c.sum_of-tail.result c.number_of.result c.sum_of-head.result few
    c.self.invariant (omega arith) (omega arith) (omega arith) c.number_of-2.ensures c.sum_of-tail.ensures
    c.number_of.ensures c.sum_of-head.ensures c.before_growth-sum.result c.before_growth-sum.ensures.same
    c.before_growth-sum.ensures.less c.before_growth-sum.ensures.small in
    rw (← c.self.view_is, front, end)

pub overflow_add-result : goal.overflow_add-result
overflow_add-result c =
    let i = c.self.inside in
    let few : i.length ≤ 11 = rw (← c.self.view_is, length-digits) at c.requires in
    omega (
      arith,
      longer_fits i.length i.there i.back i.there_sum i.back_sum i.weight c.args.byte c.args.label.0 c.args.label.1
          (65536 * c.args.byte + 256 * c.args.label.0 + c.args.label.1) c.sum_of-tail.result c.number_of.result
          c.sum_of-head.result few c.self.invariant (omega arith) (omega arith) (omega arith) refl
          c.sum_of-tail.ensures c.number_of.ensures c.sum_of-head.ensures c.before_growth-sum.result
          c.before_growth-sum.ensures.same c.before_growth-sum.ensures.less c.before_growth-sum.ensures.small,
    )
