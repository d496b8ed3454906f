use Rattle.std.proofs.Common.{◌*◌, ◌%◌, ◌^◌, ◌≤◌, ◌∙◌, arith, bit_and, get_or, inl, inr, subst, w64}
use Rattle.std.specs.Int.{bit_not, trailing_zeros}
use Rattle.std.specs.Prelude.{count_ones}
use Rattle.std.proofs.lemmas.Bool.{cases_eq, iff_false}
use Rattle.std.proofs.lemmas.Nat.Bits.{bit_at-lt, bit_at_and, bit_at_clear_other}
use Rattle.matcher.proofs.narrow.with_neighbours.Goals as goal

pub loop-preserved : goal.loop-preserved
loop-preserved c =
    let atom = trailing_zeros w64 c.loop.left in
    let kept = c.loop.kept in
    record {
      kept = λ a l f e. elim (cases_eq a atom) [
        | inl same ↦ absurd (iff_false c.has_ones.ensures c.if-has_ones.false
            (subst (λ k. c.args.around.count ≤ count_ones (bit_and (get_or c.args.near.now k 0) c.args.around.atoms)) same e))
        | inr other ↦ bit_at_clear_other w64 kept atom (omega arith) a l other ∙ c.loop.invariant.kept a l f e
      ];
      within = λ a t.
          let both = bit_at_and kept (bit_not w64 (1 * 2 ^ atom % 2 ^ 64)) a in
          let one = bit_at-lt kept a in
          c.loop.invariant.within a (omega arith);
    }
