use Rattle.std.proofs.Common.{◌≡◌, true, false}
use Rattle.std.specs.Option.{is_some}
use Rattle.ring_find.specs.Strip.{is_kept}
use Rattle.ring_find.proofs.Strips.{two_kept, kept_first, kept_same, kept_all}
use Rattle.ring_find.proofs.strip.only_kept.Goals as goal
use Rattle.ring_find.proofs.strip.only_kept.Goals.{then-kept-from+else-is_some, else-kept-from}

pub returns-then-is_some : goal.returns-then-is_some
returns-then-is_some c =
    let some : is_some c.loop-step.only ≡ true = cc in
    two_kept _ (is_kept c.args.kept.now) _ _ _ some c.loop-step.invariant c.requires.once c.loop-step-test.true
    (rw c.from.ensures at c.if-kept-from.true)

pub loop-step-preserved : goal.loop-step-preserved
loop-step-preserved c =
    elim c.if-kept-from.branch [
      | then-kept-from+else-is_some w ↦
          let none : is_some c.loop-step.only ≡ false = cc in
          rw (w.only-is) (kept_first _ (is_kept c.args.kept.now) _ _ _ none c.loop-step.invariant
          c.loop-step-test.true
          (rw c.from.ensures at w.if-kept-from.true))
      | else-kept-from w ↦ rw (w.only-is) (kept_same _ (is_kept c.args.kept.now) _ _ _ c.loop-step.invariant
          c.loop-step-test.true (rw c.from.ensures at w.if-kept-from.false))
    ]

pub returns : goal.returns
returns c = kept_all _ (is_kept c.args.kept.now) _ _ c.loop-step.invariant c.loop-step-test.false
