use Rattle.std.proofs.Common.{◌≡◌, ◌+◌, ◌*◌, ◌/◌, ◌%◌, arith, subst, sym}
use Rattle.std.proofs.lemmas.Nat.Bits.{bit_at_ones}
use Rattle.chem_core.specs.Bits.{HasBit}
use Rattle.chem_core.specs.Words.{bits_of}
use Rattle.screen_index.proofs.Words.{from-word}
use Rattle.screen_index.proofs.rows.Rows.columns_of.Goals as goal

pub loop-place-init : goal.loop-place-init
loop-place-init c = λ print column few noted holds. bit_at_ones 64 column few

pub loop-place-preserved : goal.loop-place-preserved
loop-place-preserved c = λ print column few noted holds.
    let place = c.loop-place.place in
    let words = c.words-words.result.now in
    c.narrow-columns.ensures column few (c.loop-place.invariant print column few noted holds)
    (λ bit low one.
    let row : (64 * place + bit) / 64 ≡ place = omega (arith, low) in
    let col : (64 * place + bit) % 64 ≡ bit = omega (arith, low) in
    let wanted : HasBit (bits_of words) (64 * place + bit) = from-word words (64 * place + bit) (rw (row, col) one) in
    subst (λ ws. HasBit (bits_of ws) (64 * (64 * place + bit) + column)) (sym c.as_slice.ensures.value)
    (noted (64 * place + bit) (holds (64 * place + bit) wanted)))

pub returns-then-columns-eq0 : goal.returns-then-columns-eq0
returns-then-columns-eq0 c =
    rw (← c.self.view_is, ← c.words-words.ensures) (λ print column few noted holds.
    let place = c.loop-place.place in
    let words = c.words-words.result.now in
    c.narrow-columns.ensures column few (c.loop-place.invariant print column few noted holds)
    (λ bit low one.
    let row : (64 * place + bit) / 64 ≡ place = omega (arith, low) in
    let col : (64 * place + bit) % 64 ≡ bit = omega (arith, low) in
    let wanted : HasBit (bits_of words) (64 * place + bit) = from-word words (64 * place + bit) (rw (row, col) one) in
    subst (λ ws. HasBit (bits_of ws) (64 * (64 * place + bit) + column)) (sym c.as_slice.ensures.value)
    (noted (64 * place + bit) (holds (64 * place + bit) wanted))))

pub returns : goal.returns
returns c =
    rw (← c.self.view_is, ← c.words-words.ensures) c.loop-place.invariant
