use Rattle.std.proofs.Common.{◌≡◌, arith, length, subst, sym}
use Rattle.matcher.specs.Follow.{ArePlaced}
use Rattle.matcher.proofs.Follows.{fresh_all, fresh_less, placed_more, placed_none}
use Rattle.matcher.proofs.follow.Search.are_placed.Goals as goal

pub loop-place-init : goal.loop-place-init
loop-place-init c =
    let s = c.args.self.now in
    record {
      placed = placed_none s.task.now s.candidates.now c.args.image.now;
      fresh = fresh_all s.task.now.mol.now c.args.image.now c.all_in-free.result (omega arith)
          (λ a l t. let inside = (c.all_in-free.ensures a l).0 t in omega arith);
    }

pub without_bit-free-requires : goal.without_bit-free-requires
without_bit-free-requires c = c.has_bit.ensures.few c.if-not-has_bit.false

pub loop-place-preserved : goal.loop-place-preserved
loop-place-preserved c =
    let s = c.args.self.now in
    let image = c.args.image.now in
    let place = c.loop-place.place in
    let atom = c.from-atom.result in
    let old = c.loop-place.invariant in
    record {
      placed = placed_more s.task.now s.candidates.now image place c.loop-place.free atom (sym c.from-atom.ensures)
          (c.has_bit.ensures.has c.if-not-has_bit.false) old.fresh old.placed;
      fresh = fresh_less s.task.now.mol.now image place c.loop-place.free atom c.without_bit-free.result
          (sym c.from-atom.ensures) c.without_bit-free.ensures.only c.without_bit-free.ensures.gone old.fresh;
    }

pub returns : goal.returns
returns c = λ _.
    let s = c.args.self.now in
    let all : c.loop-place.place ≡ length s.task.now.graph.now.atoms.items = omega
    (arith, c.loop-place-test.false, c.loop-place.auto.place-end, c.len-place-end.ensures) in
    subst (ArePlaced s.task.now s.candidates.now c.args.image.now) all c.loop-place.invariant.placed
