use Rattle.std.proofs.Common.{sym, ◌∙◌, subst, ◌<◌}
use Rattle.std.proofs.lemmas.Bool.{eqb-true}
use Rattle.path_print.proofs.Twins.{all_counted}
use Rattle.path_print.proofs.pattern.has_all.Goals as goal

pub returns : goal.returns
returns c = λ full bit lt.
    let size = c.count.ensures.length in
    all_counted c.args.print.now (sym c.count.ensures.value ∙ eqb-true c.count.result 1024 full ∙ sym size) bit
    (subst (λ n. bit < n) (sym size) lt)
