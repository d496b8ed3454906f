use Rattle.std.proofs.Common.{suc, ◌%◌, ◌≡◌, ◌++◌, [], get_or, sym, ap, ◌∙◌, arith}
use Rattle.chem_gen.specs.Script.{fragments, next, picked, later}
use Rattle.chem_gen.proofs.Picks.{picked_more, picked_none}
use Rattle.chem_gen.proofs.generate.push_fragments.Goals as goal

pub loop-preserved : goal.loop-preserved
loop-preserved c = record {
  text = λ n e.
      let x = c.loop.numbers.last in
      let piece : c.fragment.result.now ≡ get_or fragments (next x % 8) [] = c.fragment.ensures
      ∙ ap (λ k. get_or fragments k []) c.pick.ensures.value in
      ap (λ y. c.extend_from_slice.new.self.items ++ picked n y) c.pick.ensures.next
      ∙ ap (λ out. out ++ picked n (next x)) (c.in_ok-extend_from_slice.ensures.items
      ∙ ap (λ p. c.loop.out.items ++ p) piece)
      ∙ picked_more n x c.loop.out.items
      ∙ c.loop.invariant.text (suc n) (omega arith);
  last = λ n e. ap (later n) c.pick.ensures.next ∙ c.loop.invariant.last (suc n) (omega arith);
}

pub returns-clause-text : goal.returns-clause-text
returns-clause-text c = sym (picked_none c.loop.numbers.last c.loop.out.items) ∙ c.loop.invariant.text 0 (omega arith)

pub returns-clause-numbers : goal.returns-clause-numbers
returns-clause-numbers c = c.loop.invariant.last 0 (omega arith)
