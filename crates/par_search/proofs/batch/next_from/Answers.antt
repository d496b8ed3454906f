use Rattle.std.proofs.Common.{◌+◌, ◌∙◌, ap, sym}
use Rattle.store_machine.specs.Searches.{At}
use Rattle.store_core.specs.Records.{RecordTerm}
use Rattle.par_search.proofs.LastOne.{past-last}
use Rattle.par_search.proofs.batch.next_from.Goals as goal

pub returns-in-Some-clause-place : goal.returns-in-Some-clause-place
returns-in-Some-clause-place c =
    let id = c.id.ensures.id ∙ ap (λ (r : RecordTerm). r.id) c.deref.ensures in
    let past = past-last c.args.from c.args.records.now c.in-Some.record.now (sym c.in-Some.ensures.value) in
    rw c.if-last.false (ap At (ap (λ n. n + 1) id ∙ sym past))
