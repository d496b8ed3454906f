use Rattle.std.proofs.Common.{ℕ, ◌≡◌, ◌+◌, ◌*◌, ◌%◌, ◌^◌, sym, ap, ◌∙◌, arith}
use Rattle.path_print.proofs.Halves.{half_of_small, weighed_small, middle_small, hash_through}
use Rattle.path_print.proofs.arm.sum_through.Goals as goal

pub overflow_mul-result : goal.overflow_mul-result
overflow_mul-result c =
    let small = half_of_small c.requires.first.0 c.args.first.now c.requires.first.1 c.requires.first.2 in
    let product = weighed_small c.args.first.now.head c.shift_of.result small.head c.shift_of.ensures.small in
    omega arith

pub overflow_add-result : goal.overflow_add-result
overflow_add-result c =
    let small = half_of_small c.requires.first.0 c.args.first.now c.requires.first.1 c.requires.first.2 in
    let product = weighed_small c.args.first.now.head c.shift_of.result small.head c.shift_of.ensures.small in
    let middle = middle_small c.sum_of.result c.weight_of.result (omega arith) c.weight_of.ensures.small in
    omega arith

pub overflow_add-result-2 : goal.overflow_add-result-2
overflow_add-result-2 c =
    let small = half_of_small c.requires.first.0 c.args.first.now c.requires.first.1 c.requires.first.2 in
    let last = half_of_small c.args.behind c.args.last.now c.requires.short c.requires.last in
    let product = weighed_small c.args.first.now.head c.shift_of.result small.head c.shift_of.ensures.small in
    let middle = middle_small c.sum_of.result c.weight_of.result (omega arith) c.weight_of.ensures.small in
    omega arith

pub returns : goal.returns
returns c js ks ha size hb =
    let w : ℕ = c.weight_of.result in
    let head : ℕ = c.args.first.now.head in
    let tail : ℕ = c.args.last.now.tail in
    let power = ap (λ n. 131 ^ (3 * n) % 65521) (sym size) in
    let shift : c.shift_of.result ≡ w * 131 * 131 % 65521 = c.shift_of.ensures.value
    ∙ ap (λ k. k * 131 * 131 % 65521) (sym c.weight_of.ensures.value) in
    ap (λ k. (head * k + c.sum_of.result * w + tail) % 65521) shift
    ∙ ap (λ s. (head * (w * 131 * 131 % 65521) + s * w + tail) % 65521) c.sum_of.ensures
    ∙ hash_through c.args.label c.args.first.now c.args.last.now js ks w ha hb (c.weight_of.ensures.value ∙ power)
