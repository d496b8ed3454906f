use Rattle.std.proofs.Common.{◌++◌, ◌∙◌, ap, arith, List, rules}
use Rattle.store_core.specs.Records.{PageTerm}
use Rattle.par_search.proofs.Grouping.{fetches-between}
use Rattle.par_search.proofs.groups.Task.search_group.Goals as goal

pub returns-clause-fetched : goal.returns-clause-fetched
returns-clause-fetched g c =
    let done = c.split_at_mut-done in
    let ahead = c.split_at_mut-ahead in
    let first = done.result.0.now in
    fetches-between first ahead.result.0.now _ ahead.result.1.now c.args.next c.args.group.end
    (done.ensures.value ∙ ap (λ (l : List PageTerm). first ++ l) ahead.ensures.value)
    (omega (arith, done.ensures.front_len)) (omega (arith, ahead.ensures.front_len)) (search rules)
