use Rattle.std.proofs.Common.{◌≢◌, arith, bit_and, subst}
use Rattle.std.specs.Int.{bit_at}
use Rattle.std.proofs.lemmas.Nat.Bits.{bit_at-lt, bit_at_and}
use Rattle.matcher.proofs.Leans.{free_bit}
use Rattle.matcher.proofs.hunt.free_in.Goals as goal

pub returns-then-block-eq0-clause-within : goal.returns-then-block-eq0-clause-within
returns-then-block-eq0-clause-within c = λ i l t.
    let here = ((free_bit (bit_and c.word.result c.all_in.result) c.args.used i (omega arith) l).0 t).0 in
    let both = bit_at_and c.word.result c.all_in.result i in
    let one = bit_at-lt c.word.result i in
    let two = bit_at-lt c.all_in.result i in
    (c.all_in.ensures i l).0 (omega arith)

pub returns-then-block-eq0-clause-all : goal.returns-then-block-eq0-clause-all
returns-then-block-eq0-clause-all c = λ i l r candidate new.
    let both = bit_at_and c.word.result c.all_in.result i in
    let one = (c.word.ensures i l).1 candidate in
    let two = (c.all_in.ensures i l).1 r in
    let first = c.if-block-eq0.true in
    (free_bit (bit_and c.word.result c.all_in.result) c.args.used i (omega arith) l).1
    (omega arith, subst (λ a. bit_at c.args.used a ≢ 1) (omega (arith, first)) new)

pub returns-else-block-eq0-clause-within : goal.returns-else-block-eq0-clause-within
returns-else-block-eq0-clause-within c = λ i l t.
    let both = bit_at_and c.word.result c.all_in.result i in
    let one = bit_at-lt c.word.result i in
    let two = bit_at-lt c.all_in.result i in
    (c.all_in.ensures i l).0 (omega arith)

pub returns-else-block-eq0-clause-all : goal.returns-else-block-eq0-clause-all
returns-else-block-eq0-clause-all c = λ i l r candidate new.
    let both = bit_at_and c.word.result c.all_in.result i in
    let one = (c.word.ensures i l).1 candidate in
    let two = (c.all_in.ensures i l).1 r in
    omega arith
