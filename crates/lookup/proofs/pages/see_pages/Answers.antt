use Rattle.std.proofs.Common.{◌∙◌, ap, arith, Bool, length, List, subst}
use Rattle.std.proofs.lemmas.Result.{err_from_is_err_and}
use Rattle.store_core.specs.Records.{Shared, founds}
use Rattle.store_machine.specs.Searches.{past}
use Rattle.lookup.specs.Walks.{Saw}
use Rattle.par_search.proofs.Joined.{makes-more, makes-none}
use Rattle.lookup.proofs.Walking.{says-worn, walked-cut, walked-failed, walked-last, walked-short, walking-none, walking-on}
use Rattle.lookup.proofs.pages.see_pages.Goals as goal

pub loop-turn-init : goal.loop-turn-init
loop-turn-init g c = record {
  walking = walking-none g.V.Visit.has_seen c.args.given.now c.args.visitor.now c.args.pin.now.slot c.args.size
      c.args.want.now c.args.service.now (makes-none g.met.S.Service.stays c.args.service.now);
  few = omega arith;
  room = c.requires.room;
}

pub fetch-requires-clause-held : goal.fetch-requires-clause-held
fetch-requires-clause-held g c = (c.loop-turn.invariant.walking.held _ _).1 c.requires.held

pub fetch-requires-clause-room : goal.fetch-requires-clause-room
fetch-requires-clause-room g c = c.loop-turn.invariant.room

pub returns-in_err-last : goal.returns-in_err-last
returns-in_err-last g c =
    let fault = err_from_is_err_and c.from_residual.result c.from_residual.ensures.1 in
    rw (fault.1, fault.2) (walked-failed g.V.Visit.has_seen c.args.given.now c.args.visitor.now c.args.pin.now.slot
    c.args.size c.args.want.now
    (λ a b d xs ys p q. makes-more g.met.S.Service.joins g.met.S.Service.lands g.met.S.Service.same p q)
    c.loop-turn.visitor c.loop-turn.from c.loop-turn.count c.fetch.new.page.records c.in_err-last.field-0.0
    c.loop-turn.invariant.walking (record { made = c.in_err-last.ensures.call }) c.in_err-last.ensures.held
    c.in_err-last.ensures.bounds (λ e. c.in_err-last.ensures.worn.1 (says-worn Bool c.in_err-last.field-0.0 e)))

pub returns-in_err-see_all : goal.returns-in_err-see_all
returns-in_err-see_all g c =
    let fault = err_from_is_err_and c.from_residual-in_err-see_all.result c.from_residual-in_err-see_all.ensures.1 in
    rw (fault.1, fault.2) (walked-cut g.V.Visit.has_seen c.args.given.now c.args.visitor.now c.args.pin.now.slot
    c.args.size c.args.want.now
    (λ a b d xs ys p q. makes-more g.met.S.Service.joins g.met.S.Service.lands g.met.S.Service.same p q)
    c.see_all.new.visitor c.loop-turn.from c.loop-turn.count c.fetch.new.page.records c.in_ok-last.last
    c.loop-turn.invariant.walking (record { made = c.in_ok-last.ensures.call }) c.in_ok-last.ensures.held
    c.in_ok-last.ensures.bounds)

pub overflow_add-count : goal.overflow_add-count
overflow_add-count g c =
    omega (
      arith,
      c.loop-turn.invariant.few,
      c.loop-turn-test.true,
      c.in_ok-last.ensures.few,
      c.requires.few,
      ap (λ (l : List Shared). length l) c.records-records.ensures,
    )

pub returns-then-last : goal.returns-then-last
returns-then-last g c =
    walked-last g.V.Visit.has_seen c.args.given.now c.args.visitor.now c.args.pin.now.slot c.args.size
    c.args.want.now
    (λ a b d xs ys p q. makes-more g.met.S.Service.joins g.met.S.Service.lands g.met.S.Service.same p q)
    c.loop-turn.from c.loop-turn.count (length c.records-records.result.now) c.fetch.new.page.records
    c.in_ok-last.last c.if-last.true (ap (λ (l : List Shared). length l) c.records-records.ensures)
    c.loop-turn.invariant.walking (record { made = c.in_ok-last.ensures.call }) c.in_ok-last.ensures.held
    c.in_ok-last.ensures.bounds
    (subst (λ (l : List Shared). Saw g.V.Visit.has_seen c.args.given.now c.loop-turn.visitor c.see_all.new.visitor
    (founds l)) c.records-records.ensures c.in_ok-see_all.ensures)

pub loop-turn-preserved : goal.loop-turn-preserved
loop-turn-preserved g c = record {
  walking = walking-on g.V.Visit.has_seen c.args.given.now c.args.visitor.now c.args.pin.now.slot c.args.size
      c.args.want.now
      (λ a b d xs ys p q. makes-more g.met.S.Service.joins g.met.S.Service.lands g.met.S.Service.same p q)
      c.loop-turn.from c.loop-turn.count (length c.records-records.result.now) c.behind-from.result
      c.fetch.new.page.records c.in_ok-last.last c.if-last.false
      (ap (λ (l : List Shared). length l) c.records-records.ensures)
      (c.behind-from.ensures ∙ ap (λ (l : List Shared). past c.loop-turn.from (founds l)) c.records-records.ensures)
      c.loop-turn.invariant.walking (record { made = c.in_ok-last.ensures.call }) c.in_ok-last.ensures.held
      c.in_ok-last.ensures.bounds
      (subst (λ (l : List Shared). Saw g.V.Visit.has_seen c.args.given.now c.loop-turn.visitor c.see_all.new.visitor
      (founds l)) c.records-records.ensures c.in_ok-see_all.ensures);
  few = omega (
    arith,
    c.loop-turn.invariant.few,
    c.in_ok-last.ensures.few,
    c.requires.few,
    ap (λ (l : List Shared). length l) c.records-records.ensures,
  );
  room = omega (arith, c.loop-turn.invariant.room, c.in_ok-last.ensures.room);
}

pub returns : goal.returns
returns g c =
    walked-short g.V.Visit.has_seen c.args.given.now c.args.visitor.now c.args.pin.now.slot c.args.size
    c.args.want.now c.loop-turn.visitor _ c.loop-turn.count c.loop-turn.invariant.walking
