use Rattle.std.proofs.Common.{false, subst, sym, true, ℕ}
use Rattle.session_run.specs.Made.{Uses}
use Rattle.session_run.specs.Walks.{Broke, Listing, Part, Whole}
use Rattle.session_run.proofs.Joined.{uses-more, uses-none}
use Rattle.session_run.proofs.Listed.{listing_counted, listing_cut, listing_more, listing_none, still_held}
use Rattle.session_run.proofs.listing.Walk.list_all.Goals as goal

pub loop-init : goal.loop-init
loop-init g c =
    let s = c.args.service.now in
    let old = c.args.self.now in
    let out = c.args.out.now.items in
    let new = c.requires.new in
    subst (λ (n : ℕ). Listing (Uses g.S.Service s s) old.search old.search n old.hits out true out) (sym new.tried)
    (subst (λ (n : ℕ). Listing (Uses g.S.Service s s) old.search old.search 0 n out true out) (sym new.hits)
    (listing_none (Uses g.S.Service s s) old.search out (uses-none g.met.S.Service.stays s) new.place new.need))

pub batch-requires-clause-held : goal.batch-requires-clause-held
batch-requires-clause-held g c _ _ = still_held g.S.Service c.loop.invariant c.requires.held

pub loop-preserved : goal.loop-preserved
loop-preserved g c =
    let more = c.in-More.ensures in
    let l = listing_more (λ xs ys a b. uses-more g.met.S.Service.joins g.met.S.Service.lands g.met.S.Service.same a b)
    c.loop.invariant more.goes in
    listing_counted l more.tried_is more.hits_is

pub returns-in-Ended : goal.returns-in-Ended
returns-in-Ended g c =
    let more = c.in-Ended.ensures in
    let l = listing_more (λ xs ys a b. uses-more g.met.S.Service.joins g.met.S.Service.lands g.met.S.Service.same a b)
    c.loop.invariant more.goes.0 in
    Whole (listing_counted l more.tried_is more.hits_is) more.goes.1

pub returns-in-Short : goal.returns-in-Short
returns-in-Short g c =
    let more = c.in-Short.ensures in
    Part _ _
    (listing_more (λ xs ys a b. uses-more g.met.S.Service.joins g.met.S.Service.lands g.met.S.Service.same a b)
    c.loop.invariant more.goes)

pub returns-in-Worn : goal.returns-in-Worn
returns-in-Worn g c =
    let more = c.in-Worn.ensures in
    Broke _ _ false
    (listing_more (λ xs ys a b. uses-more g.met.S.Service.joins g.met.S.Service.lands g.met.S.Service.same a b)
    c.loop.invariant more.goes.0) more.goes.1

pub returns : goal.returns
returns g c = Part c.loop.self.tried c.loop.self.hits (listing_cut c.loop.invariant)
