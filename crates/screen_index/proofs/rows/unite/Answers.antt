use Rattle.std.proofs.Common.{arith, inl, inr}
use Rattle.chem_core.proofs.Shared.{united}
use Rattle.screen_index.proofs.rows.unite.Goals as goal

pub returns-clause-own : goal.returns-clause-own
returns-clause-own c = λ bit h.
    let done = c.loop-place-test.false in
    (united c.args.words.now c.loop-place.words c.args.more.now c.loop-place.invariant.length c.requires
    (λ k less. c.loop-place.invariant.before k (omega (arith, less, done, c.loop-place.invariant.length))) bit).1 (inl h)

pub returns-clause-others : goal.returns-clause-others
returns-clause-others c = λ bit h.
    let done = c.loop-place-test.false in
    (united c.args.words.now c.loop-place.words c.args.more.now c.loop-place.invariant.length c.requires
    (λ k less. c.loop-place.invariant.before k (omega (arith, less, done, c.loop-place.invariant.length))) bit).1 (inr h)
