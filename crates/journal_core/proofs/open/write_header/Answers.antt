use Rattle.std.proofs.Common.{ℕ, List, [], Some, ◌∙◌, ap, arith}
use Rattle.journal_core.specs.Records.{header, text}
use Rattle.journal_core.proofs.Created.{nil_of, text_on_nothing, torn_moments, torn_now}
use Rattle.journal_core.proofs.Told.{becomes_told}
use Rattle.journal_core.proofs.open.write_header.Goals as goal

pub returns-in-Ok-put-clause-ok : goal.returns-in-Ok-put-clause-ok
returns-in-Ok-put-clause-ok g c l told =
    let d = g.D.Disk.model in
    let len = c.in-Ok-eq0.ensures in
    let empty = nil_of l (omega (arith, len.length l told, c.in-Ok-eq0.field-0-is)) in
    let new = becomes_told (d.content c.len.new.self) (d.content c.put.new.disk) _ l (len.content ∙ told)
    c.in-Ok-put.ensures.content in
    let is = new ∙ ap (λ (k : List ℕ). Some k) (text_on_nothing l empty) in
    (empty, (is, c.in-Ok-put.ensures.synced (text header []) is))

pub returns-in-Ok-put-clause-images : goal.returns-in-Ok-put-clause-images
returns-in-Ok-put-clause-images g c =
    let d = g.D.Disk.model in
    let len = c.in-Ok-eq0.ensures in
    let new = c.put.new.disk in
    torn_now d c.args.disk.now c.len.new.self new (g.met.D.Disk.parts new) len.time
    len.images c.put.ensures.past c.put.ensures.moments
    (g.met.D.Disk.counts_now new) (g.met.D.Disk.whole new)

pub returns-in-Ok-put-clause-moments : goal.returns-in-Ok-put-clause-moments
returns-in-Ok-put-clause-moments g c =
    let d = g.D.Disk.model in
    let len = c.in-Ok-eq0.ensures in
    let new = c.put.new.disk in
    torn_moments d c.args.disk.now c.len.new.self new (g.met.D.Disk.parts new) len.time
    len.images c.put.ensures.past c.put.ensures.moments

pub returns-in-Err-Failed-clause-moments : goal.returns-in-Err-Failed-clause-moments
returns-in-Err-Failed-clause-moments g c =
    let d = g.D.Disk.model in
    let len = c.in-Ok-eq0.ensures in
    let new = c.put.new.disk in
    torn_moments d c.args.disk.now c.len.new.self new (g.met.D.Disk.parts new) len.time
    len.images c.put.ensures.past c.put.ensures.moments

pub returns-in-Err-NoMemory-clause-moments : goal.returns-in-Err-NoMemory-clause-moments
returns-in-Err-NoMemory-clause-moments g c =
    let d = g.D.Disk.model in
    let len = c.in-Ok-eq0.ensures in
    let new = c.put.new.disk in
    torn_moments d c.args.disk.now c.len.new.self new (g.met.D.Disk.parts new) len.time
    len.images c.put.ensures.past c.put.ensures.moments
