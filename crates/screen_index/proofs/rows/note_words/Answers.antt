use Rattle.std.proofs.Common.{◌≡◌, ◌+◌, ◌*◌, ◌/◌, ◌%◌, ◌<◌, ◌∙◌, arith, get_or, inl, inr, subst, sym}
use Rattle.std.specs.Int.{bit_at}
use Rattle.std.proofs.lemmas.Bool.{cases_lt}
use Rattle.chem_core.specs.Bits.{HasBit}
use Rattle.chem_core.specs.Words.{bits_of}
use Rattle.screen_index.proofs.Words.{to-word, within-words}
use Rattle.screen_index.proofs.rows.note_words.Goals as goal

pub loop-place-preserved : goal.loop-place-preserved
loop-place-preserved c =
    let place = c.loop-place.place in
    let words = c.args.words.now in
    let new = bits_of c.note_word.new.rows in
    let column = c.args.column in record {
      length = c.note_word.ensures.length;
      kept = λ bit h. c.note_word.ensures.kept bit (c.loop-place.invariant.kept bit h);
      noted = λ bit less h. elim (cases_lt bit (64 * place)) [
        | inl l ↦ c.note_word.ensures.kept (64 * bit + column) (c.loop-place.invariant.noted bit l h)
        | inr ge ↦
            let row : bit / 64 ≡ place = omega (arith, less, ge) in
            let one : bit_at (get_or words c.from.result 0) (bit % 64) ≡ 1 =
            subst (λ n. bit_at (get_or words n 0) (bit % 64) ≡ 1) (row ∙ sym c.from.ensures) (to-word words bit h) in
            let whole : 64 * place + bit % 64 ≡ bit = omega (arith, less, ge) in
            let low : bit % 64 < 64 = omega arith in
            subst (λ n. HasBit new (64 * n + column)) whole (c.note_word.ensures.noted (bit % 64) low one)
      ];
    }

pub returns-clause-noted : goal.returns-clause-noted
returns-clause-noted c = λ bit h.
    let within = within-words c.args.words.now bit h in
    c.loop-place.invariant.noted bit (omega (arith, within, c.loop-place-test.false, c.told-words)) h
