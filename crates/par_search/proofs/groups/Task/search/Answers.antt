use Rattle.std.proofs.Common.{◌≡◌, ◌+◌, ◌≤◌, ◌∙◌, ap, arith, drop, length, List, [], subst, sym, take, vec_capacity}
use Rattle.std.proofs.lemmas.List.{drop-take, length-drop, length-take, length-take-le, take-take}
use Rattle.smarts_parse.specs.Pattern.{pattern_of}
use Rattle.store_core.specs.Records.{PageTerm}
use Rattle.par_search.specs.Groups.{CanMatch, GoesOn, HasMatched}
use Rattle.par_search.specs.Shares.{AreSmall, records_in}
use Rattle.par_search.proofs.Grouping.{can-fetch-more, can-match, fetches-more, matched-more}
use Rattle.par_search.proofs.Joined.{makes-more}
use Rattle.par_search.proofs.Rooming.{same-length}
use Rattle.par_search.proofs.Small.{few-taken}
use Rattle.par_search.proofs.groups.Task.search.Goals as goal

pub search_group-more-requires-clause-can_fetch : goal.search_group-more-requires-clause-can_fetch
search_group-more-requires-clause-can_fetch g c κs within =
    let inv = c.loop-next.invariant in
    can-fetch-more c.requires.can_fetch inv.fetched inv.from

pub search_group-more-requires-clause-can_match : goal.search_group-more-requires-clause-can_match
search_group-more-requires-clause-can_match g c κs within =
    let inv = c.loop-next.invariant in
    let group = c.loop-next.group in
    let on : GoesOn c.loop-next.fetched = c.goes_on.ensures.0 c.loop-next-test.true in
    let end = group.end in
    let pages = c.loop-next.pages in
    let here = length-take-le end pages inv.within in
    let all : c.loop-next.fetched.count ≡ end = inv.fetched.fetched.whole on.0 on.1 ∙ here in
    let small : AreSmall (take end pages) = subst AreSmall (take-take end end pages (omega arith))
    (subst (λ n. AreSmall (take n (take end pages))) all inv.fetched.fetched.small) in
    can-match c.args.pages.now pages group.start end group.tried c.requires.can_search inv.fetched.room inv.matched
    (omega (arith, inv.order, all)) small
    (inv.tried ∙ ap (λ n. length (records_in (drop group.start (take n pages)))) all)

pub followed_by-fetched-requires-clause-few : goal.followed_by-fetched-requires-clause-few
followed_by-fetched-requires-clause-few g c =
    let before = c.loop-next.invariant.fetched in
    let more = c.search_group-more.ensures.fetched.fetched in
    let end = c.loop-next.group.end in
    let ahead = take c.min-next.result (drop end c.search_group-more.new.pages) in
    let here = few-taken c.loop-next.fetched.count (take end c.loop-next.pages) before.fetched.small in
    let there = few-taken c.search_group-more.result.count ahead more.small in
    let one : length (take end c.loop-next.pages) ≤ length c.loop-next.pages = simp length-take (omega arith) in
    let two : length ahead ≤ length c.search_group-more.new.pages = simp (length-take, length-drop) (omega arith) in
    let number = same-length (λ (p : PageTerm). p.room) c.args.pages.now c.loop-next.pages before.room in
    omega (
      arith,
      here,
      there,
      one,
      two,
      number,
      before.fetched.tried,
      more.tried,
      c.search_group-more.auto.pages,
      c.requires.can_fetch.few_pages,
    )

pub loop-next-preserved : goal.loop-next-preserved
loop-next-preserved g c =
    let inv = c.loop-next.invariant in
    let on : GoesOn c.loop-next.fetched = c.goes_on.ensures.0 c.loop-next-test.true in
    let end = c.loop-next.group.end in
    let next = c.min-next.result in
    let more = c.search_group-more.result in
    let old = c.loop-next.pages in
    let new = c.search_group-more.new.pages in
    let group = c.search_group-more.ensures in
    let both = c.followed_by-fetched.ensures in
    let all : c.loop-next.fetched.count ≡ end =
    inv.fetched.fetched.whole on.0 on.1 ∙ length-take-le end old inv.within in
    let count : end + more.count ≡ c.followed_by-fetched.result.count = omega (arith, all, both.count) in
    let short : length (take next (drop end new)) ≤ next = simp length-take (omega arith) in
    let some : more.count ≤ next = omega (arith, group.fetched.fetched.within, short) in
    record {
      fetched = fetches-more
          (λ a b d xs ys q r. makes-more g.met.S.Service.joins g.met.S.Service.lands g.met.S.Service.same q r)
          end next inv.fetched on inv.from group.fetched group.kept both;
      matched = subst (λ (l : List PageTerm). HasMatched (pattern_of c.args.self.now.pattern.now) l c.args.workers.now
          c.search_group-more.new.workers [] c.search_group-more.new.hits.items (vec_capacity c.args.hits.now)
          (vec_capacity c.search_group-more.new.hits)) (sym group.kept)
          (matched-more old c.loop-next.group.start end (omega (arith, inv.order, all)) inv.matched group.matched);
      order = omega (arith, count);
      within = omega (arith, c.min-next.ensures, c.search_group-more.auto.pages, inv.within);
      tried = group.fetched.fetched.tried
          ∙ ap (λ (l : List PageTerm). length (records_in l)) (take-take more.count next (drop end new) some
          ∙ sym (drop-take end more.count new) ∙ ap (λ n. drop end (take n new)) count);
      from = sym both.from;
    }

pub match_pages-requires-clause-can_match : goal.match_pages-requires-clause-can_match
match_pages-requires-clause-can_match g c κs within =
    let inv = c.loop-next.invariant in
    let start = c.loop-next.group.start in
    let end = c.loop-next.group.end in
    let count = c.loop-next.fetched.count in
    let pages = c.loop-next.pages in
    let few : count ≤ end = omega (arith, inv.fetched.fetched.within, length-take-le end pages inv.within) in
    subst (λ (l : List PageTerm). CanMatch (pattern_of c.args.self.now.pattern.now) l c.loop-next.group.tried
    c.loop-next.workers c.loop-next.hits.items (vec_capacity c.loop-next.hits)) (sym c.between-last.ensures)
    (can-match c.args.pages.now pages start count c.loop-next.group.tried c.requires.can_search inv.fetched.room
    inv.matched inv.order (subst AreSmall (take-take count end pages few) inv.fetched.fetched.small) inv.tried)

pub returns-clause-matched : goal.returns-clause-matched
returns-clause-matched g c =
    let inv = c.loop-next.invariant in
    matched-more c.loop-next.pages c.loop-next.group.start c.loop-next.fetched.count inv.order inv.matched
    (subst (λ (l : List PageTerm). HasMatched (pattern_of c.args.self.now.pattern.now) l c.loop-next.workers
    c.match_pages.new.workers c.loop-next.hits.items c.match_pages.new.hits.items (vec_capacity c.loop-next.hits)
    (vec_capacity c.match_pages.new.hits)) c.between-last.ensures c.match_pages.ensures)
