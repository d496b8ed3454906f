use Rattle.std.proofs.Common.{sym}
use Rattle.disk_pair.proofs.Puts.{on_fault, settle_shows, unsettled}
use Rattle.disk_pair.proofs.put.settle.Goals as goal

pub returns-then-doubt-clause-err : goal.returns-then-doubt-clause-err
returns-then-doubt-clause-err g c =
    let d = g.D.Disk.model in
    on_fault c.settle.result
    (λ stays flag. unsettled d c.args.journal.now c.settle.new.self c.settle.ensures.untold
    (sym c.if-doubt.ensures) flag stays)
    c.settle.ensures.failed c.settle.ensures.no_memory c.settle.ensures.in_doubt

pub returns-then-doubt-clause-moments : goal.returns-then-doubt-clause-moments
returns-then-doubt-clause-moments g c =
    let d = g.D.Disk.model in
    settle_shows d c.args.journal.now c.settle.new.self
    c.settle.ensures.untold (sym c.if-doubt.ensures) c.settle.ensures.moments
