use Rattle.std.proofs.Common.{arith, Fits, Ok, refl, rules, w32}
use Rattle.std.specs.Prelude.{is_ok}
use Rattle.smarts_parse.specs.Pattern.{pattern_of}
use Rattle.store_core.specs.Records.{founds}
use Rattle.session_run.specs.Made.{Uses}
use Rattle.session_run.proofs.Joined.{page_leaves, uses-kept}
use Rattle.session_run.proofs.Pages.{founds-length, matched_few, page_failed, page_shown, worn_by, written}
use Rattle.session_run.proofs.listing.list_page.Goals as goal

-- there are no more hits than records, whose number fits
pub overflow_cast-result : goal.overflow_cast-result
overflow_cast-result g c =
    let page = c.in-Ok.page in
    let few = matched_few (pattern_of c.args.search.now.pattern) (founds page.records.now) page.hits.now
    c.in-Ok.ensures.hits in
    let same = founds-length page.records.now in
    let fits : Fits w32 page.tried = search rules in
    record { fits = omega (arith, few, same, c.in-Ok.ensures.tried, fits.fits) }

pub returns-in-Ok : goal.returns-in-Ok
returns-in-Ok g c =
    let old = c.args.search.now in
    page_shown (Uses g.S.Service c.args.service.now c.next.new.service) (g.S.Service.worn c.next.new.service)
    old _ c.args.out.now.items c.push_hits.new.out.items c.in-Ok.page (is_ok c.push_hits.result) _
    (rw c.in-Ok.is at c.next.follows.holds-at-none)
    (uses-kept _ c.in-Ok.ensures.call (page_leaves old.place old (Ok c.in-Ok.page)) c.in-Ok.ensures.held
    c.in-Ok.ensures.bounds)
    (λ e. (c.in-Ok.ensures.ended e).0) c.in-Ok.ensures.hits c.in-Ok.ensures.tried
    (written c.in-Ok.page.hits.now c.args.out.now.items c.push_hits.new.out.items c.push_hits.result
    c.push_hits.ensures.ok c.push_hits.ensures.err)
    refl refl refl c.is_ok-whole.ensures.value

pub returns-in-Err : goal.returns-in-Err
returns-in-Err g c =
    let old = c.args.search.now in
    page_failed (Uses g.S.Service c.args.service.now c.next.new.service) (g.S.Service.worn c.next.new.service)
    old _ c.args.out.now.items c.args.out.now.items c.in-Err.fault
    (rw c.in-Err.is at c.next.follows.holds-at-none)
    (uses-kept _ c.in-Err.ensures.call (page_leaves old.place old _) c.in-Err.ensures.held c.in-Err.ensures.bounds)
    c.in-Err.ensures.pins
    (worn_by old.place c.in-Err.fault _ _ _ c.in-Err.ensures.ended c.in-Err.ensures.worn) refl
