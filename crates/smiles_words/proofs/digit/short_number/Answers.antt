use Rattle.std.proofs.Common.{inl, inr, Some, ap, arith}
use Rattle.smiles_words.proofs.Digits.{one_value, both_digits, one_found, one_only, two_found, two_only, other_only}
use Rattle.smiles_words.proofs.digit.short_number.Goals as goal

pub returns-then-tens-eq48-clause-only : goal.returns-then-tens-eq48-clause-only
returns-then-tens-eq48-clause-only c n le h =
    let p = two_only c.args.digits.now n (omega arith) le h in
    let q = p.1 in
    absurd (omega arith)

pub returns-in-len1-clause-found : goal.returns-in-len1-clause-found
returns-in-len1-clause-found c =
    let d = (one_value c.args.digits.now (omega arith) c.requires).1 in
    (omega arith, one_found c.args.digits.now (omega arith) c.requires)

pub returns-in-len1-clause-only : goal.returns-in-len1-clause-only
returns-in-len1-clause-only c n le h = ap Some (one_only c.args.digits.now n (omega arith) le h)

pub returns-else-tens-eq48-clause-found : goal.returns-else-tens-eq48-clause-found
returns-else-tens-eq48-clause-found c =
    let v = both_digits c.args.digits.now (omega arith) c.requires in
    let tens = v.1 in
    let ones = v.2 in
    (omega arith, two_found c.args.digits.now (omega arith) c.requires (λ e. omega arith))

pub returns-else-tens-eq48-clause-only : goal.returns-else-tens-eq48-clause-only
returns-else-tens-eq48-clause-only c n le h = ap Some (two_only c.args.digits.now n (omega arith) le h).0

pub returns-in_default-clause-only : goal.returns-in_default-clause-only
returns-in_default-clause-only c n le h = elim (other_only c.args.digits.now n le h) [
  | inl e ↦ absurd (omega arith)
  | inr e ↦ absurd (omega arith)
]

pub returns-in_default-2-clause-only : goal.returns-in_default-2-clause-only
returns-in_default-2-clause-only c n le h = elim (other_only c.args.digits.now n le h) [
  | inl e ↦ absurd (omega arith)
  | inr e ↦ absurd (omega arith)
]
