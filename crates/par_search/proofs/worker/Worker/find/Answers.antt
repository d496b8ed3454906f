use Rattle.std.proofs.Common.{◌≡◌, ◌+◌, ◌-◌, ◌++◌, ◌≤◌, ◌∙◌, ap, arith, drop, get_or, length, List, ◌∷◌, subst, suc, sym, take, ℕ}
use Rattle.std.proofs.Math.Seq.{drop-cons}
use Rattle.std.proofs.lemmas.List.{length-take}
use Rattle.smarts_parse.specs.Pattern.{pattern_of}
use Rattle.store_machine.specs.Answers.{AreMatched}
use Rattle.store_machine.specs.declared.machine.Found.{Found}
use Rattle.store_core.specs.Records.{PageTerm, Shared, founds}
use Rattle.par_search.specs.Shares.{records_in}
use Rattle.par_search.proofs.Joining.{founds-append, part-over}
use Rattle.par_search.proofs.worker.Worker.find.Goals as goal

pub loop-page-preserved : goal.loop-page-preserved
loop-page-preserved c =
    let p = pattern_of c.args.pattern.now in
    let pages = c.args.pages.now in
    let i = c.loop-page.page-index in
    let page = c.page-item.result in
    let records = c.records.result.now in
    let passed = c.cut.result.0.now in
    let part = c.cut-in-loop-page.result.0.now in
    let behind = c.cut.result.1.now in
    let skip = c.loop-page.skip in
    let left = c.loop-page.left in
    let inv = c.loop-page.invariant in
    let taken = inv.found.0 in
    let all = take c.args.count (drop c.args.start (records_in pages)) in
    let after = records_in (drop (i + 1) pages) in
    let next : suc i ≡ i + 1 = omega arith in
    let at : drop i pages ≡ get_or pages i page ∷ drop (i + 1) pages =
    drop-cons pages i page c.loop-page-test.true ∙ ap (λ (n : ℕ). get_or pages i page ∷ drop n pages) next in
    let here : records ≡ (get_or pages i page).records =
    c.records.ensures ∙ ap (λ (x : PageTerm). x.records) c.page-item.is in
    let from : records_in (drop i pages) ≡ records ++ after =
    ap records_in at ∙ ap (λ (l : List Shared). l ++ after) (sym here) in
    let whole : taken ++ take left (drop skip (records ++ after)) ≡ all =
    subst (λ (l : List Shared). taken ++ take left (drop skip l) ≡ all) from inv.found.2 in
    let skipped : length (take skip records) ≤ skip = simp length-take (omega arith) in
    let few : length (take left behind) ≤ left = simp length-take (omega arith) in
    let passes = ap (λ (l : List Shared). length l) c.cut.ensures.piece in
    let parts = ap (λ (l : List Shared). length l) c.cut-in-loop-page.ensures.piece in
    record {
      prepared = c.find_in.ensures.prepared;
      found = (
        taken ++ part,
        subst (λ (l : List Found). AreMatched p l c.find_in.new.hits.items) (sym (founds-append taken part))
            (c.find_in.ensures.matched (founds taken) inv.found.1),
        part-over taken records after passed behind part all skip (skip - length passed) left (left - length part) whole
            c.cut.ensures.piece c.cut.ensures.behind c.cut-in-loop-page.ensures.piece (omega (arith, skipped, passes))
            (omega (arith, few, parts)),
      );
      few = omega (arith, c.find_in.ensures.few, inv.few, few, parts);
      room = inv.room;
      share = c.find_in.ensures.capacity ∙ inv.share;
    }
