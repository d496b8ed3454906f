use Rattle.std.proofs.Common.{ℕ, ◌+◌, ◌<◌, inl, inr, [], ◌∷◌, length, get_or, set, take, sym, ap, ◌∙◌, arith}
use Rattle.std.proofs.lemmas.Bool.{cases_eq}
use Rattle.std.proofs.lemmas.List.{length-set}
use Rattle.std.proofs.lemmas.List.Elements.{Contains-get_or}
use Rattle.path_print.specs.Arms.{views_around}
use Rattle.path_print.proofs.Joints.{push_each, push_keeps, push_there, reaches_more, reaches_there, ones_all}
use Rattle.path_print.proofs.arms.gather_ones.Goals as goal

pub of-requires-clause-joined : goal.of-requires-clause-joined
of-requires-clause-joined c =
    let pairs = c.neighbours-to-items.result.now in
    let pair : ℕ × ℕ = get_or pairs c.loop-to.to-index (0, 0) in
    c.neighbours-to-items.ensures.each.joined pair.0 pair.1
    (Contains-get_or pairs c.loop-to.to-index (0, 0) c.loop-to-test.true)

pub loop-to-preserved : goal.loop-to-preserved
loop-to-preserved c =
    let l = c.loop-to in
    let middle = c.args.middle.now in
    let pairs = c.neighbours-to-items.result.now in
    let degree = c.neighbours-to-items.ensures.count in
    let most = c.neighbours-to-items.ensures.valid.graph.few_neighbours middle.atom in
    let size = l.invariant.size in
    let count = l.invariant.count in
    let room : l.count < length l.ones = omega arith in
    record {
      count = omega arith;
      size = length-set l.ones l.count c.of.result ∙ l.invariant.size;
      each = push_each (views_around middle) middle.atom 1 l.ones l.count c.of.result room l.invariant.each
          c.of.ensures.arm;
      reached = λ k lt. elim (cases_eq k l.to-index) [
        | inl same ↦ reaches_there 1 (take (l.count + 1) (set l.ones l.count c.of.result)) c.of.result
            ((get_or pairs k (0, 0)).0 ∷ []) (push_there l.ones l.count c.of.result room)
            (ap (λ z. z ∷ []) (c.of.ensures.near ∙ ap (λ i. (get_or pairs i (0, 0)).0) (sym same)))
        | inr other ↦ reaches_more 1 (take l.count l.ones) (take (l.count + 1) (set l.ones l.count c.of.result))
            ((get_or pairs k (0, 0)).0 ∷ []) (λ arm. push_keeps l.ones l.count c.of.result arm room)
            (l.invariant.reached k (omega arith))
      ];
    }

pub returns-clause-arms : goal.returns-clause-arms
returns-clause-arms c =
    let l = c.loop-to in
    let middle = c.args.middle.now in
    let pairs = c.neighbours-to-items.result.now in
    record {
      each = l.invariant.each;
      all = λ family xs js size distinct joints. ones_all middle.mol.now family middle.atom (take l.count l.ones) pairs
          c.neighbours-to-items.ensures.each (λ k lt. l.invariant.reached k (omega arith)) xs js size joints;
    }
