use Rattle.std.proofs.Common.{◌<◌, ℕ, List, get_or, length, set, refl, sym, subst, rules}
use Rattle.exact_find.specs.declared.levels.TheConstants.{IN_PAIR}
use Rattle.exact_find.specs.Colours.{KeepAlong}
use Rattle.exact_find.specs.Levels.{AreFree}
use Rattle.exact_find.specs.Pairs.{Has}
use Rattle.exact_find.proofs.Both.{along-more, free-more}
use Rattle.exact_find.proofs.sides.Work.put_all.Goals as goal

pub put-requires : goal.put-requires
put-requires c = (c.requires.few _ _ (c.loop-place.place, c.loop-place-test.true, refl)).0

pub put-requires-in-loop-place : goal.put-requires-in-loop-place
put-requires-in-loop-place c = (c.requires.few _ _ (c.loop-place.place, c.loop-place-test.true, refl)).1

pub loop-place-preserved : goal.loop-place-preserved
loop-place-preserved c =
    let ps : List (ℕ × ℕ) = c.args.pairs.now in
    let pair : ℕ × ℕ = get_or ps c.loop-place.place (0, 0) in
    let has : Has ps pair.0 pair.1 = (c.loop-place.place, c.loop-place-test.true, refl) in
    let few = c.requires.few pair.0 pair.1 has in
    let left = c.loop-place.self.left in
    let right = c.loop-place.self.right in
    let v : ℕ = c.scramble-colour.result in
    let one : pair.0 < length left.levels.items = search (rules, few) in
    let two : pair.1 < length right.levels.items = search (rules, few) in
    let three : pair.0 < length left.colours.items = search (rules, few) in
    let four : pair.1 < length right.colours.items = search (rules, few) in
    let before = c.loop-place.invariant in
    let here = c.put.ensures in
    let there = c.put-in-loop-place.ensures in
    let l0 = c.args.self.now.left in
    let r0 = c.args.self.now.right in
    record {
      free = λ n free. subst (AreFree n) (sym here.levels) (free-more n left.levels.items pair.0 one (before.free n free));
      free_right = λ n free. subst (AreFree n) (sym there.levels)
          (free-more n right.levels.items pair.1 two (before.free_right n free));
      levels = subst (λ z. KeepAlong ps l0.levels.items r0.levels.items z c.put-in-loop-place.new.self.levels.items)
          (sym here.levels)
          (subst (KeepAlong ps l0.levels.items r0.levels.items (set left.levels.items pair.0 IN_PAIR)) (sym there.levels)
          (along-more ps l0.levels.items r0.levels.items left.levels.items right.levels.items pair.0 pair.1 IN_PAIR has one
          two before.levels));
      colours = subst (λ z. KeepAlong ps l0.colours.items r0.colours.items z c.put-in-loop-place.new.self.colours.items)
          (sym here.colours)
          (subst (KeepAlong ps l0.colours.items r0.colours.items (set left.colours.items pair.0 v)) (sym there.colours)
          (along-more ps l0.colours.items r0.colours.items left.colours.items right.colours.items pair.0 pair.1 v has three
          four before.colours));
    }
