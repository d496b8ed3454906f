use Rattle.std.proofs.lemmas.Bool.{false≢true}
use Rattle.matcher.proofs.answer.seek.Goals as goal

pub returns-then-lacks_component : goal.returns-then-lacks_component
returns-then-lacks_component c = (
  λ t. absurd (false≢true t),
  λ w. absurd
      (c.lacks_component.ensures c.if-lacks_component.true w),
)

pub returns-then-finds_none : goal.returns-then-finds_none
returns-then-finds_none c = (
  λ t. absurd (false≢true t),
  λ w. absurd
      (c.finds_none.ensures c.if-finds_none.true w),
)
