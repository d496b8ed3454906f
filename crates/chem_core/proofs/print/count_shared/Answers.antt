use Rattle.std.proofs.Common.{rules, ◌+◌, ◌<◌, ◌^◌, ap, ◌∙◌, arith, slice_index, bit_and, count_ones}
use Rattle.std.proofs.lemmas.Nat.{ones-le}
use Rattle.chem_core.proofs.Shared.{shared-more, and-fits}
use Rattle.chem_core.proofs.print.count_shared.Goals as goal

pub loop-place-preserved : goal.loop-place-preserved
loop-place-preserved c =
    let i = c.loop-place.place in
    let a = slice_index c.args.left.now i in
    let b = slice_index c.args.right.now i in
    let fit : a < 2 ^ 64 = search rules in
    let its : b < 2 ^ 64 = search rules in
    let within = c.loop-place-test.true in
    record {
      count = ap (λ n. n + count_ones (bit_and a b)) c.loop-place.invariant.count
          ∙ shared-more c.args.left.now c.args.right.now i c.requires.length within fit its;
      few = let before = c.loop-place.invariant.few in let more = ones-le 64 (bit_and a b) (and-fits a b fit) in omega arith;
    }
