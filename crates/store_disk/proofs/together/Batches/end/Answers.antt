use Rattle.std.proofs.lemmas.Result.{IfOk-weaker}
use Rattle.store_disk.proofs.Results.{on-damaged}
use Rattle.store_disk.proofs.together.Batches.end.Goals as goal

pub returns-clause-ok : goal.returns-clause-ok
returns-clause-ok g c = IfOk-weaker c.end.result _ _
    (λ memory made version base log t. made version base log (c.in_ok-make_all.ensures.come version base log t))
    c.end.ensures.ok

pub returns-clause-damaged : goal.returns-clause-damaged
returns-clause-damaged g c = on-damaged c.end.result
    (λ at stopped version base log t. stopped version base log (c.in_ok-make_all.ensures.come version base log t))
    c.end.ensures.damaged
