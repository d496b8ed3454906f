use Rattle.std.proofs.Common.{◌≡◌, ◌+◌, ◌++◌, ◌≤◌, ◌∙◌, ap, arith, drop, filter, length, sym, take}
use Rattle.std.proofs.lemmas.List.{drop-drop, drop_all, length-drop, take-append-drop}
use Rattle.screen_index.specs.Pairs.{is_apart, joined}
use Rattle.screen_index.proofs.Places.{apart-in-turn, none-apart, to-the-end}
use Rattle.screen_index.proofs.index.drop_all.Goals as goal

pub loop-done-preserved : goal.loop-done-preserved
loop-done-preserved g c =
    let ps = c.args.places.now in
    let done = c.loop-done.done in
    let left = drop done ps in
    let more = c.drop_first-done.result in
    let now = joined c.loop-done.blocks.items in
    let tail = to-the-end done ps in
    let entries = c.drop_first-done.ensures.entries
    ∙ ap (λ l. filter (is_apart (take more l)) now) tail in
    let parts : take more left ++ drop (done + more) ps ≡ left =
    ap (λ l. take more left ++ l) (sym (drop-drop more done ps))
    ∙ take-append-drop more left in record {
      within =
          let size = length-drop done ps in
          omega (
            arith,
            c.drop_first-done.ensures.within,
            size,
            ap (λ l. length l) tail,
            c.loop-done.invariant.within,
          );
      entries =
          ap (filter (is_apart (drop (done + more) ps))) entries
          ∙ (apart-in-turn (take more left) (drop (done + more) ps) now
          ∙ (ap (λ l. filter (is_apart l) now) parts ∙ c.loop-done.invariant.entries));
      blocks = c.drop_first-done.ensures.blocks;
      len = omega (arith, c.drop_first-done.ensures.len, c.loop-done.invariant.len);
      capacity = c.drop_first-done.ensures.capacity ∙ c.loop-done.invariant.capacity;
    }

pub returns-clause-entries : goal.returns-clause-entries
returns-clause-entries g c =
    let ps = c.args.places.now in
    let now = joined c.loop-done.blocks.items in
    let end : length ps ≤ c.loop-done.done = let f = c.loop-done-test.false in omega (arith, f) in
    sym (none-apart now)
    ∙ (ap (λ l. filter (is_apart l) now) (sym (drop_all c.loop-done.done ps end)) ∙ c.loop-done.invariant.entries)
