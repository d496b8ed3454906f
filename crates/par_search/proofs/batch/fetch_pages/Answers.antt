use Rattle.std.proofs.Common.{◌+◌, ◌<◌, ◌∙◌, ap, arith, Bool, length, List, refl, Some}
use Rattle.std.proofs.lemmas.List.{length-set, take-set}
use Rattle.store_core.specs.Records.{PageTerm, Shared, founds}
use Rattle.par_search.specs.Searches.{place_after, place_of}
use Rattle.par_search.proofs.Fetching.{fetching-failed, fetching-few, fetching-none, fetching-page, says-worn}
use Rattle.par_search.proofs.Joined.{makes-more, makes-none}
use Rattle.par_search.proofs.Rooming.{kept, rooms-set}
use Rattle.par_search.proofs.batch.fetch_pages.Goals as goal

pub loop-page-init : goal.loop-page-init
loop-page-init g c = record {
  fetching = fetching-none c.args.pin.now.slot c.args.size c.args.want.now (place_of c.args.from) c.args.service.now
      c.args.pages.now _ (makes-none g.met.S.Service.stays c.args.service.now) refl refl refl refl c.requires.can_fetch.in_range;
  room = refl;
}

pub fetch-requires-clause-room : goal.fetch-requires-clause-room
fetch-requires-clause-room g c =
    let less : c.loop-page.page-index < length c.loop-page.pages =
    omega (arith, c.loop-page-test.true, c.loop-page.auto.pages) in
    kept (λ (p : PageTerm). p.room) c.args.size c.args.pages.now c.loop-page.pages c.loop-page.invariant.room
    c.requires.can_fetch.room c.loop-page.page-index c.page-item.result less

pub overflow_add-fetched-in-Ok : goal.overflow_add-fetched-in-Ok
overflow_add-fetched-in-Ok g c =
    let few = fetching-few c.args.pin.now.slot c.args.size c.args.want.now (place_of c.args.from)
    c.loop-page.invariant.fetching (omega (arith, c.loop-page-test.true, c.loop-page.auto.pages)) in
    record {
      fits = omega (
        arith,
        few,
        c.loop-page-test.true,
        c.loop-page.auto.pages,
        c.requires.can_fetch.few_pages,
        c.in-Ok.ensures.few,
        c.requires.can_fetch.few,
        ap (λ (l : List Shared). length l) c.records-records.ensures,
      );
    }

pub returns-in-Err : goal.returns-in-Err
returns-in-Err g c =
    let pages = c.loop-page.pages in
    let i = c.loop-page.page-index in
    let less : i < length pages = omega (arith, c.loop-page-test.true, c.loop-page.auto.pages) in
    record {
      fetched = record {
        fetched = fetching-failed c.args.pin.now.slot c.args.size c.args.want.now (place_of c.args.from)
            (λ a b d xs ys p q. makes-more g.met.S.Service.joins g.met.S.Service.lands g.met.S.Service.same p q)
            c.in-Some.start c.fetch.new.page.records c.in-Err.fault c.loop-page.invariant.fetching c.in-Some.is
            less (record { made = c.in-Err.ensures.call }) c.in-Err.ensures.held c.in-Err.ensures.bounds
            (λ e. c.in-Err.ensures.worn.1 (says-worn Bool c.in-Err.fault e))
            (take-set pages i c.fetch.new.page) (length-set pages i c.fetch.new.page) refl refl refl
            (ap Some c.from.ensures);
        room = rooms-set pages i c.fetch.new.page c.page-item.result less c.in-Err.ensures.room
            ∙ c.loop-page.invariant.room;
      };
    }

pub loop-page-preserved : goal.loop-page-preserved
loop-page-preserved g c =
    let here = c.records-records.ensures in
    let less : c.loop-page.page-index < length c.loop-page.pages =
    omega (arith, c.loop-page-test.true, c.loop-page.auto.pages) in
    record {
      fetching = fetching-page c.args.pin.now.slot c.args.size c.args.want.now (place_of c.args.from)
          (λ a b d xs ys p q. makes-more g.met.S.Service.joins g.met.S.Service.lands g.met.S.Service.same p q)
          c.in-Some.start c.fetch.new.page c.in-Ok.last c.loop-page.invariant.fetching c.in-Some.is
          less (record { made = c.in-Ok.ensures.call }) c.in-Ok.ensures.held c.in-Ok.ensures.bounds
          (omega (arith, c.in-Ok.ensures.few, c.requires.can_fetch.few)) refl
          (ap (λ (l : List Shared). c.loop-page.fetched.tried + length l) here) refl
          (c.next_from-fetched.ensures.place ∙ ap (λ (l : List Shared). place_after c.in-Some.start (founds l) c.in-Ok.last)
          here) c.next_from-fetched.ensures.in_range;
      room = rooms-set c.loop-page.pages c.loop-page.page-index c.fetch.new.page c.page-item.result
          less c.in-Ok.ensures.room ∙ c.loop-page.invariant.room;
    }
