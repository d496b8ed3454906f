use Rattle.std.proofs.Common.{◌≡◌, ◌+◌, ◌-◌, ◌∙◌, ap, arith, drop, sym, take}
use Rattle.std.proofs.lemmas.List.{drop-take}
use Rattle.par_search.proofs.groups.between.Goals as goal

pub returns : goal.returns
returns c =
    let whole : c.args.start + (c.args.end - c.args.start) ≡ c.args.end = omega (arith, c.requires.order) in
    sym (drop-take c.args.start (c.args.end - c.args.start) c.args.pages.now)
    ∙ ap (λ n. drop c.args.start (take n c.args.pages.now)) whole
