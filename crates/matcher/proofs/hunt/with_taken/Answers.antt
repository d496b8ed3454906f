use Rattle.std.proofs.Common.{◌∙◌, arith, inl, inr, sym, w64}
use Rattle.std.proofs.lemmas.Bool.{cases_eq}
use Rattle.std.proofs.lemmas.Nat.Bits.{bit_at_set_other}
use Rattle.matcher.proofs.hunt.with_taken.Goals as goal

pub returns-then-from-lt-MOST_BITS : goal.returns-then-from-lt-MOST_BITS
returns-then-from-lt-MOST_BITS c = λ a t. elim (cases_eq a c.args.atom) [
  | inl same ↦ inl same
  | inr apart ↦ inr (sym (bit_at_set_other w64 c.args.used c.args.atom (omega arith) a apart) ∙ t)
]

pub returns-else-from-lt-MOST_BITS : goal.returns-else-from-lt-MOST_BITS
returns-else-from-lt-MOST_BITS c = λ a t. inr t
