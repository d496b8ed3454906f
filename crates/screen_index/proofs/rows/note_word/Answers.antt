use Rattle.std.proofs.Common.{◌≡◌, ◌+◌, ◌*◌, ◌<◌, ◌∙◌, ap, arith, inl, inr, length, set, subst, sym, true, w64}
use Rattle.std.specs.Int.{trailing_zeros}
use Rattle.std.proofs.lemmas.Bool.{cases_eq}
use Rattle.chem_core.proofs.Prints.{length-bits_of}
use Rattle.chem_core.specs.Bits.{HasBit}
use Rattle.chem_core.specs.Words.{bits_of}
use Rattle.screen_index.proofs.Words.{lowest-in, rest-less, rest-others, set-has, set-keeps}
use Rattle.screen_index.proofs.rows.note_word.Goals as goal

pub loop-rest-smaller : goal.loop-rest-smaller
loop-rest-smaller c = rest-less c.loop-rest.rest (omega arith) (omega arith)

pub loop-rest-preserved : goal.loop-rest-preserved
loop-rest-preserved c =
    let rest = c.loop-rest.rest in
    let t = trailing_zeros w64 rest in
    let old = bits_of c.loop-rest.rows in
    let new = c.set_bit.new.words in
    let at = 64 * (64 * c.args.place + t) + c.args.column in
    let low = lowest-in rest (omega arith) (omega arith) in
    let is : bits_of new ≡ set old at true =
    c.set_bit.ensures.value ∙ ap (λ n. set old (64 * (64 * c.args.place + t) + n) true) c.from.ensures in
    let long = length-bits_of c.loop-rest.rows in
    let within : at < length old = omega (arith, long, c.loop-rest.invariant.length, low.0, c.requires.place, c.requires.column) in
    record {
      length = c.set_bit.ensures.length ∙ c.loop-rest.invariant.length;
      kept = λ bit h. subst (λ bs. HasBit bs bit) (sym is) (set-keeps old at bit within (c.loop-rest.invariant.kept bit h));
      noted = λ bit few one. elim (c.loop-rest.invariant.noted bit few one) [
        | inl left ↦ elim (cases_eq bit t) [
          | inl e ↦ inr (subst (λ bs. HasBit bs (64 * (64 * c.args.place + bit) + c.args.column)) (sym is)
              (subst (λ n. HasBit (set old at true) (64 * (64 * c.args.place + n) + c.args.column)) (sym e)
              (set-has old at within)))
          | inr n ↦ inl (rest-others rest bit (omega arith) (omega arith) few n ∙ left)
        ]
        | inr done ↦ inr (subst (λ bs. HasBit bs (64 * (64 * c.args.place + bit) + c.args.column)) (sym is)
            (set-keeps old at (64 * (64 * c.args.place + bit) + c.args.column) within done))
      ];
    }
