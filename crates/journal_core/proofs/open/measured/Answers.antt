use Rattle.std.proofs.Common.{Result, Ok, Err, OnOk, sym, ◌∙◌}
use Rattle.journal_core.proofs.LookLaws.{still_exactly}
use Rattle.journal_core.proofs.open.measured.Goals as goal

always_ok : {T E : Type 0} {R : Type 0} (result : Result T E) → R → OnOk result R
always_ok (Ok _) r = r
always_ok (Err _) r = tt

pub returns-clause-synced : goal.returns-clause-synced
returns-clause-synced g c = always_ok c.said.result (λ l told.
    let d = g.D.Disk.model in
    let looks = c.said.ensures.looks in
    still_exactly d c.sync.new.self c.said.new.disk looks l
    (c.in_ok-sync.ensures.synced l (sym c.in_ok-sync.ensures.content ∙ sym looks.narrows.same ∙ told)))
