use Rattle.std.proofs.Common.{◌+◌, ◌*◌, ap, arith, inl, inr, length, slice_index, subst, sym}
use Rattle.std.proofs.lemmas.Bool.{cases_eq}
use Rattle.std.proofs.lemmas.List.{length-map}
use Rattle.smarts_parse.specs.Pattern.{term_of}
use Rattle.matcher.specs.Candidates.{IsTruthAt}
use Rattle.matcher.proofs.Truths.{truths_all}
use Rattle.matcher.proofs.candidates.find_truths.Goals as goal

pub find_block-requires-clause-block : goal.find_block-requires-clause-block
find_block-requires-clause-block c =
    let few = c.atoms.ensures.valid.graph.few_atoms in
    omega (arith, few, ap length c.atoms.ensures.value, c.loop-block-test.true)

pub loop-block-preserved : goal.loop-block-preserved
loop-block-preserved c b p l r = elim (cases_eq b c.loop-block.block) [
  | inl same ↦ subst (λ k. IsTruthAt c.args.task.now k p (slice_index c.find_block.new.words (256 * k + p))) (sym same)
      (c.find_block.ensures.here p r)
  | inr other ↦ subst (IsTruthAt c.args.task.now b p)
      (sym (c.find_block.ensures.before (256 * b + p)
      (let few = c.requires.ready.searchable.few in
      omega (arith, few, length-map c.args.task.now.graph.now.atoms.items term_of))))
      (c.loop-block.invariant b p (omega arith) r)
]

pub returns : goal.returns
returns c = truths_all c.args.task.now c.loop-block.block c.loop-block.words
    (omega (arith, ap length c.atoms.ensures.value, c.loop-block-test.false))
    (λ b p l r. c.loop-block.invariant b p l
    (omega (arith, r, length-map c.args.task.now.graph.now.atoms.items term_of)))
