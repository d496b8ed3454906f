use Rattle.std.proofs.Common.{inl, inr, length, take}
use Rattle.std.proofs.lemmas.Bool.{cases_Bool, false≢true}
use Rattle.matcher.proofs.answer.exists.Goals as goal

pub returns-then-is_refused : goal.returns-then-is_refused
returns-then-is_refused c = (
  λ t. absurd (false≢true t),
  λ w. absurd (c.is_refused.ensures.refused c.if-is_refused.true w),
)

pub returns-then-is_refused_apart : goal.returns-then-is_refused_apart
returns-then-is_refused_apart c = (
  λ t. absurd (false≢true t),
  λ w. absurd (c.is_refused_apart.ensures.refused c.if-is_refused_apart.true w),
)

pub returns : goal.returns
returns c = (
  λ t. (take (length c.args.graph.now.atoms.items) c.place_least.new.image, (c.place_least.ensures.found t).embeds),
  λ w. elim (cases_Bool c.place_least.result) [
    | inl yes' ↦ yes'
    | inr no' ↦ absurd (c.place_least.ensures.none no' w)
  ],
)
