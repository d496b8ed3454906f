use Rattle.std.proofs.Common.{[], ◌++◌, ap, arith, length, List, refl}
use Rattle.session_acts.specs.Cursors.{unpins}
use Rattle.session_run.specs.Made.{Uses}
use Rattle.session_run.specs.Opened.{opened}
use Rattle.session_run.specs.Walks.{cursors_of}
use Rattle.session_run.specs.declared.cursors.Cursor as rust
use Rattle.session_run.proofs.Ending.{unpin}
use Rattle.session_run.proofs.Joined.{uses-more, uses-none}
use Rattle.session_run.proofs.Opening.{all_returned, first_pin, part_returned, rest_held, rest_unpins}
use Rattle.session_run.proofs.cursors.Cursors.close_all.Goals as goal

pub loop-cursor-init : goal.loop-cursor-init
loop-cursor-init g c = record {
  made = ([], uses-none g.met.S.Service.stays c.args.service.now, refl);
  held = c.requires;
}

pub give_back-requires : goal.give_back-requires
give_back-requires g c =
    first_pin (g.S.Service.holds c.loop-cursor.service) (opened c.loop-cursor.self) (opened c.take_first.new.self)
    c.in-Some.cursor c.in-Some.ensures.some c.loop-cursor.invariant.held

pub loop-cursor-smaller : goal.loop-cursor-smaller
loop-cursor-smaller g c = omega (arith, ap (λ (l : List rust.Cursor). length l) c.in-Some.ensures.some)

pub loop-cursor-preserved : goal.loop-cursor-preserved
loop-cursor-preserved g c =
    let cursor = c.in-Some.cursor in
    let items = opened c.loop-cursor.self in
    let left = opened c.take_first.new.self in
    let inv = c.loop-cursor.invariant in
    let some = c.in-Some.ensures.some in
    record {
      made = (
        inv.made.0 ++ unpin cursor.walk.search.slot,
        uses-more g.met.S.Service.joins g.met.S.Service.lands g.met.S.Service.same inv.made.1 c.in-Ok.ensures,
        rest_unpins (unpins (cursors_of (opened c.args.self.now))) inv.made.0 items left cursor some inv.made.2,
      );
      held = rest_held (g.S.Service.holds c.loop-cursor.service) (g.S.Service.holds c.give_back.new.service) items left
          cursor some c.in-Ok.ensures.pins inv.held;
    }

pub returns-in-Err : goal.returns-in-Err
returns-in-Err g c =
    let inv = c.loop-cursor.invariant in
    part_returned (Uses g.S.Service c.args.service.now c.loop-cursor.service)
    (Uses g.S.Service c.loop-cursor.service c.give_back.new.service)
    (Uses g.S.Service c.args.service.now c.give_back.new.service) (g.S.Service.worn c.give_back.new.service) (cursors_of (opened c.args.self.now))
    c.in-Some.cursor.walk.search.slot (λ xs ys a b. uses-more g.met.S.Service.joins g.met.S.Service.lands g.met.S.Service.same a b)
    c.in-Err.stop inv.made.0 _ inv.made.1 c.in-Err.ensures inv.made.2

pub returns : goal.returns
returns g c =
    let inv = c.loop-cursor.invariant in
    all_returned (Uses g.S.Service c.args.service.now c.loop-cursor.service) inv.made.0 (opened c.loop-cursor.self) c.in_default.ensures.none inv.made.2 inv.made.1
