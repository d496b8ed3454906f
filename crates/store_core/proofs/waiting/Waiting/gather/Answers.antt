use Rattle.std.proofs.Common.{◌++◌, ◌∙◌, [], ◌∷◌, ap, arith, length, length-append, List}
use Rattle.store_core.specs.Records.{Shared}
use Rattle.store_core.specs.Waiting.{present, values}
use Rattle.store_core.proofs.Waits.{one-waits}
use Rattle.store_core.proofs.waiting.Waiting.gather.Goals as goal

pub invariant_of-self : goal.invariant_of-self
invariant_of-self c =
    let shown = ap present c.push.ensures.items ∙ one-waits c.self.inside.records.items c.args.found in
    let long = length-append (present c.self.inside.records.items) (c.args.found.now ∷ []) in
    omega (arith, ap (λ (l : List Shared). length l) shown, long, c.self.invariant, c.push.ensures.len)

pub returns-then-not-is_full-clause-ok : goal.returns-then-not-is_full-clause-ok
returns-then-not-is_full-clause-ok c =
    ap (λ l. values (c.args.page.now.records ++ l))
    (ap present c.push.ensures.items
    ∙ (one-waits c.self.inside.records.items c.args.found ∙ ap (λ l. l ++ c.args.found.now ∷ []) c.self.view_is))
