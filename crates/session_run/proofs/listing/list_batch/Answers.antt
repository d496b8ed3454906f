use Rattle.std.proofs.Common.{◌∙◌, ap, arith, Bool, Fits, refl, rules, w32}
use Rattle.std.specs.Prelude.{is_ok}
use Rattle.smarts_parse.specs.Pattern.{pattern_of}
use Rattle.store_machine.specs.Searches.{fetched, records_of}
use Rattle.par_search.proofs.Matched.{matched_few}
use Rattle.session_run.specs.Walks.{progress_by}
use Rattle.session_run.proofs.Batches.{batch_shown}
use Rattle.session_run.proofs.Pages.{written}
use Rattle.session_run.proofs.listing.list_batch.Goals as goal

-- there are no more hits than records, whose number fits
pub overflow_cast-result : goal.overflow_cast-result
overflow_cast-result g c =
    let b = c.next_pages-batch.ensures.batch in
    let batch = c.next_pages-batch.result in
    let few = matched_few (pattern_of c.args.search.now.pattern)
    (records_of (fetched c.args.search.now.slot b.calls)) batch.hits.now b.matched in
    let fits : Fits w32 batch.tried = search rules in
    record { fits = omega (arith, few, b.tried, fits.fits) }

pub returns : goal.returns
returns g c =
    let batch = c.next_pages-batch.result in
    let out = c.args.out.now.items in
    batch_shown g.S.Service c.args.service.now c.next_pages-batch.new.service c.args.search.now _ batch
    c.next_pages-batch.ensures.batch c.next_pages-batch.follows.holds-at-none c.next_pages-batch.ensures.held
    c.next_pages-batch.ensures.bounds (is_ok c.push_hits.result) _ out c.push_hits.new.out.items c.progress_after.result
    (c.progress_after.ensures ∙ ap (λ (b : Bool). progress_by batch.fault b batch.from) c.is_ok-whole.ensures.value)
    refl
    (written batch.hits.now out c.push_hits.new.out.items c.push_hits.result c.push_hits.ensures.ok
    c.push_hits.ensures.err)
