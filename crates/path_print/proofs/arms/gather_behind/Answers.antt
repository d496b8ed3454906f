use Rattle.std.proofs.Common.{ℕ, ◌+◌, ◌<◌, inl, inr, [], ◌∷◌, length, get_or, set, take, sym, ap, ◌∙◌, arith}
use Rattle.std.proofs.lemmas.Bool.{cases_eq}
use Rattle.std.proofs.lemmas.List.{length-set}
use Rattle.std.proofs.lemmas.List.Elements.{Contains-get_or}
use Rattle.path_print.specs.Arms.{views_around}
use Rattle.path_print.proofs.Joints.{push_each, push_keeps, push_there, reaches_more, reaches_there, behind_all, near_within}
use Rattle.path_print.proofs.arms.gather_behind.Goals as goal
use Rattle.path_print.proofs.arms.gather_behind.Goals.{then-to-middle, else-to-middle}

pub neighbours-to-items-requires : goal.neighbours-to-items-requires
neighbours-to-items-requires c =
    near_within c.args.middle.now.mol.now c.args.middle.now.atom c.args.one.now c.requires.one

pub longer-requires-clause-joined : goal.longer-requires-clause-joined
longer-requires-clause-joined c =
    let pairs = c.neighbours-to-items.result.now in
    let pair : ℕ × ℕ = get_or pairs c.loop-to.to-index (0, 0) in
    c.neighbours-to-items.ensures.each.joined pair.0 pair.1
    (Contains-get_or pairs c.loop-to.to-index (0, 0) c.loop-to-test.true)

pub bounds-twos-count : goal.bounds-twos-count
bounds-twos-count c =
    let l = c.loop-to in
    let degree = c.neighbours-to-items.ensures.count in
    let most = c.neighbours-to-items.ensures.valid.graph.few_neighbours c.args.one.now.near in
    let size = l.invariant.size in
    let few = l.invariant.few in
    omega arith

pub loop-to-preserved : goal.loop-to-preserved
loop-to-preserved c =
    let l = c.loop-to in
    let new = c.if-to-middle in
    let middle = c.args.middle.now in
    let near = c.args.one.now.near in
    let pairs = c.neighbours-to-items.result.now in
    let degree = c.neighbours-to-items.ensures.count in
    let most = c.neighbours-to-items.ensures.valid.graph.few_neighbours near in
    let size = l.invariant.size in
    let few = l.invariant.few in
    let room : l.count < length l.twos = omega arith in
    elim new.branch [
      | then-to-middle w ↦
          let arm = w.longer.result in
          record {
            few = omega (arith, w.count-is);
            size = ap length w.twos-is ∙ length-set l.twos l.count arm ∙ l.invariant.size;
            each = λ was. rw (w.twos-is, w.count-is) (push_each (views_around middle) middle.atom 2 l.twos l.count arm
                room (l.invariant.each was) w.longer.ensures.arm);
            kept = λ other there. rw (w.twos-is, w.count-is) (push_keeps l.twos l.count arm other room
                (l.invariant.kept other there));
            reached = λ k lt apart. rw (w.twos-is, w.count-is) (elim (cases_eq k l.to-index) [
              | inl same ↦ reaches_there 2 (take (l.count + 1) (set l.twos l.count arm)) arm
                  ((get_or pairs k (0, 0)).0 ∷ near ∷ []) (push_there l.twos l.count arm room)
                  (ap (λ z. z ∷ arm.near ∷ []) (w.longer.ensures.far ∙ ap (λ i. (get_or pairs i (0, 0)).0) (sym same))
                  ∙ ap (λ y. (get_or pairs k (0, 0)).0 ∷ y ∷ []) w.longer.ensures.near)
              | inr other ↦ reaches_more 2 (take l.count l.twos) (take (l.count + 1) (set l.twos l.count arm))
                  ((get_or pairs k (0, 0)).0 ∷ near ∷ []) (λ was. push_keeps l.twos l.count arm was room)
                  (l.invariant.reached k (omega arith) apart)
            ]);
          }
      | else-to-middle w ↦ record {
        few = omega (arith, w.count-is);
        size = ap length w.twos-is ∙ l.invariant.size;
        each = λ was. rw (w.twos-is, w.count-is) (l.invariant.each was);
        kept = λ other there. rw (w.twos-is, w.count-is) (l.invariant.kept other there);
        reached = λ k lt apart. rw (w.twos-is, w.count-is) (elim (cases_eq k l.to-index) [
          | inl same ↦ absurd (apart (ap (λ i. (get_or pairs i (0, 0)).0) same ∙ w.if-to-middle.false))
          | inr other ↦ l.invariant.reached k (omega arith) apart
        ]);
      }
    ]

pub returns-clause-all : goal.returns-clause-all
returns-clause-all c family z js distinct joints =
    let l = c.loop-to in
    let middle = c.args.middle.now in
    let pairs = c.neighbours-to-items.result.now in
    behind_all middle.mol.now family middle.atom (take l.count l.twos) pairs c.args.one.now.near
    c.neighbours-to-items.ensures.each (λ k lt. l.invariant.reached k (omega arith)) z js distinct joints
