use Rattle.std.proofs.Common.{◌≡◌, ◌+◌, ℕ, List, length, take, not, ap, sym, ◌∙◌, subst, refl, arith, rules}
use Rattle.exact_find.specs.Pairs.{Has}
use Rattle.exact_find.proofs.Grow.{some_value}
use Rattle.exact_find.proofs.Walks.{IsDone, all-paired, done-more, done-same, extends-none, partial-none}
use Rattle.exact_find.proofs.walk.pair_all.Goals as goal
use Rattle.exact_find.proofs.walk.pair_all.Goals.{then-is_none+in-Some, else-is_none}

pub loop-atom-init : goal.loop-atom-init
loop-atom-init c = record {
  few = omega arith;
  partial = partial-none c.args.left.now c.args.right.now;
  goes = λ same. extends-none c.args.left.now c.args.right.now c.atoms.ensures.valid same;
  done = λ k h. absurd (omega arith);
}

pub loop-atom-preserved : goal.loop-atom-preserved
loop-atom-preserved c =
    let To = λ (count : ℕ) (pairs : List (ℕ × ℕ)). IsDone c.args.left.now c.args.right.now (c.loop-atom.atom + 1) count
    pairs in
    elim c.if-is_none.branch [
      | then-is_none+in-Some w ↦
          let step = w.in-Some.ensures.some in
          let same : length w.pair_anywhere.new.pairs ≡ length c.loop-atom.pairs = search rules in
          subst (λ p. To c.if-is_none.count p) (sym w.pairs-is) (subst (λ k. To k w.pair_anywhere.new.pairs)
          (sym w.count-is) (done-more c.args.left.now c.args.right.now c.loop-atom.atom c.loop-atom.count
          c.loop-atom.pairs w.in-Some.more w.pair_anywhere.new.pairs step.0 c.atoms.ensures.valid
          (omega (arith, w.in-Some.ensures.few)) step.1 c.loop-atom.invariant))
      | else-is_none w ↦
          let here = some_value c.partner.result (Has (take c.loop-atom.count c.loop-atom.pairs) c.loop-atom.atom)
          (c.is_none.ensures ∙ ap not w.if-is_none.false) c.partner.ensures.some in
          subst (λ p. To c.if-is_none.count p) (sym w.pairs-is) (subst (λ k. To k c.loop-atom.pairs) (sym w.count-is)
          (done-same c.args.left.now c.args.right.now c.loop-atom.atom c.loop-atom.count c.loop-atom.pairs here
          c.loop-atom.invariant))
    ]

pub returns : goal.returns
returns c = (
  (λ yes'. all-paired c.args.left.now c.args.right.now (take c.loop-atom.count c.loop-atom.pairs)
      c.atoms.ensures.valid c.requires.atoms c.requires.bonds c.loop-atom.invariant.partial
      (λ a h. c.loop-atom.invariant.done a
      (omega (arith, h, c.loop-atom-test.false, ap length c.atoms.ensures.value)))),
  (λ same. refl),
)
