use Rattle.std.proofs.Common.{◌*◌, ◌∙◌, ◌%◌, ◌^◌, arith, inl, inr, sym, w64}
use Rattle.std.proofs.lemmas.Bool.{cases_eq, iff_false}
use Rattle.std.proofs.lemmas.Nat.Bits.{bit_at-lt, bit_at_or, bit_at_set_other, bit_at_set_same}
use Rattle.matcher.proofs.second.with_end.Goals as goal

pub returns-then-has-clause-here : goal.returns-then-has-clause-here
returns-then-has-clause-here c = λ _. bit_at_set_same w64 c.args.found c.args.one c.requires.one

pub returns-then-has-clause-kept : goal.returns-then-has-clause-kept
returns-then-has-clause-kept c = λ i t.
    let both = bit_at_or c.args.found (1 * 2 ^ c.args.one % 2 ^ 64) i in
    let one = bit_at-lt c.args.found i in
    let two = bit_at-lt (1 * 2 ^ c.args.one % 2 ^ 64) i in
    omega arith

pub returns-else-has-clause-here : goal.returns-else-has-clause-here
returns-else-has-clause-here c = λ t. absurd (iff_false c.has.ensures c.if-has.false t)

pub returns-then-has-clause-only : goal.returns-then-has-clause-only
returns-then-has-clause-only c = λ i t. elim (cases_eq i c.args.one) [
  | inl same ↦ inr (same, c.has.ensures.0 c.if-has.true)
  | inr apart ↦ inl (sym (bit_at_set_other w64 c.args.found c.args.one c.requires.one i apart) ∙ t)
]
