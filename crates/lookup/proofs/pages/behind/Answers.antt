use Rattle.std.proofs.Common.{◌+◌, ◌∙◌, ap, sym}
use Rattle.store_core.specs.Records.{RecordTerm}
use Rattle.par_search.proofs.LastOne.{past-last}
use Rattle.lookup.proofs.pages.behind.Goals as goal

pub returns-in-Some : goal.returns-in-Some
returns-in-Some c =
    let id = c.id.ensures.id ∙ ap (λ (r : RecordTerm). r.id) c.deref.ensures in
    let past = past-last c.args.from c.args.records.now c.in-Some.record.now (sym c.in-Some.ensures.value) in
    ap (λ n. n + 1) id ∙ sym past
