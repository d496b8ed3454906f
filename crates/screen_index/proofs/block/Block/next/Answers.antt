use Rattle.std.proofs.Common.{◌≡◌, ◌<◌, ◌≤◌, ◌∙◌, ap, arith, get_or, length}
use Rattle.screen_index.specs.Pairs.{Holds, rank, rank_of}
use Rattle.screen_index.proofs.Nexts.{first-is}
use Rattle.screen_index.proofs.block.Block.next.Goals as goal

pub returns-then-is_met_by : goal.returns-then-is_met_by
returns-then-is_met_by g c =
    let r = rank c.args.from.0 c.args.from.1 in
    let now = c.args.self.now in
    let want = c.args.want.now in
    let place = c.loop-place.place in
    let x = c.index-entry.result.now in
    let len = ap (λ l. length l) c.self.view_is in
    let fits = c.near_end-near.ensures.within
    (omega (arith, c.count_near-start.ensures.within, c.len.ensures, c.self.inside.entries.ok.0, len)) in
    let less : place < length now = omega (
      arith,
      c.self.inside.entries.ok.0,
      len,
      c.len.ensures,
      fits.1,
      c.loop-place-test.true,
    ) in
    let is : x ≡ get_or now place x = c.index-entry.ensures ∙ ap (λ l. get_or l place x) c.self.view_is in
    let late : r ≤ rank_of (get_or now place x) = c.count_near-start.ensures.behind place x (omega arith) less in
    let holds : Holds x.print want = c.is_met_by-in-loop-place.ensures.0 c.if-is_met_by.true in
    first-is want r place now x c.requires less is c.loop-place.invariant (omega (arith, late, ap rank_of is), holds)
