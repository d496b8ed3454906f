use Rattle.std.proofs.Common.{ℕ, ◌+◌, Bool, false, not, List, get_or, arith, ◌∙◌}
use Rattle.std.proofs.lemmas.List.{length-set}
use Rattle.valence.proofs.Sums.{byte-is}
use Rattle.valence.proofs.Renumbering.{new_place-le, new_place-more, places-more}
use Rattle.valence.proofs.atom_lists.new_places.Goals as goal

abbrev gone : List Bool → ℕ → Bool
gone goes k = get_or goes k false

pub overflow_add-kept : goal.overflow_add-kept
overflow_add-kept c =
    let le = new_place-le (gone c.args.goes.now) (c.loop-place.place + 1) in
    let more = new_place-more (gone c.args.goes.now) c.loop-place.place in
    let count = c.loop-place.invariant.count in
    let one = c.from-kept.ensures ∙ byte-is (not (gone c.args.goes.now c.loop-place.place)) in
    let within = c.loop-place-test.true in
    let few = c.requires in
    omega (arith, le, more, count, one, within, few)

pub loop-place-preserved : goal.loop-place-preserved
loop-place-preserved c =
    let more = new_place-more (gone c.args.goes.now) c.loop-place.place in
    let count = c.loop-place.invariant.count in
    let one = c.from-kept.ensures ∙ byte-is (not (gone c.args.goes.now c.loop-place.place)) in
    let within = c.loop-place-test.true in
    let few = c.requires in
    record {
      long = rw length-set c.loop-place.invariant.long;
      count = omega (arith, more, count, one);
      each = places-more (gone c.args.goes.now) c.loop-place.places c.loop-place.place c.loop-place.kept
          (omega (arith, c.loop-place.invariant.long, within, few)) count c.loop-place.invariant.each;
    }
