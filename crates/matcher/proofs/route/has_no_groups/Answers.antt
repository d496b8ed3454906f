use Rattle.std.proofs.Common.{arith, inl, inr, length}
use Rattle.std.proofs.lemmas.Bool.{cases_lt}
use Rattle.std.proofs.lemmas.List.{get_or_past}
use Rattle.matcher.proofs.route.has_no_groups.Goals as goal

pub returns : goal.returns
returns c = λ _ i. elim (cases_lt i (length c.args.groups.now)) [
  | inl l ↦ c.loop-k.invariant i (omega arith)
  | inr past ↦ get_or_past c.args.groups.now i 0 past
]
