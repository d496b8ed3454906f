use Rattle.std.proofs.Common.{inl, inr, length}
use Rattle.compact_core.proofs.Results.{both_ok, always_err, ok_then}
use Rattle.compact_core.proofs.Tails.{each_kept, stands_torn, stands_written}
use Rattle.compact_core.proofs.Writes.{content_by, left_by, left_torn, told_torn}
use Rattle.compact_core.proofs.Wrote.{wrote}
use Rattle.compact_core.proofs.extend.extend.Goals as goal

pub returns-clause-ok : goal.returns-clause-ok
returns-clause-ok g c =
    let w = c.write_at.ensures in
    let bytes = c.args.bytes.now in
    both_ok c.write_at.result w.written w.images (λ becomes tears gate tail stands at.
    stands_written stands at bytes becomes
    (left_torn g.D.Disk.model c.args.disk.now c.write_at.new.self c.args.place (length bytes) tears))

pub returns-clause-wrote : goal.returns-clause-wrote
returns-clause-wrote g c =
    let d = g.D.Disk.model in
    ok_then c.write_at.result c.write_at.ensures.written (wrote c.args.place c.args.bytes.now
    (d.content c.args.disk.now) (d.content c.write_at.new.self) c.requires.start)

pub returns-clause-stays : goal.returns-clause-stays
returns-clause-stays g c =
    let d = g.D.Disk.model in
    let old = c.args.disk.now in
    let new = c.write_at.new.self in
    let w = c.write_at.ensures in
    let n = length c.args.bytes.now in
    always_err c.write_at.result (λ gate tail stands at. stands_torn stands at n
    (content_by c.args.place c.args.bytes.now (d.content old) (d.content new) c.write_at.result w.written
    w.failed_content w.no_memory_content)
    (left_by d old new c.args.place n c.write_at.result w.images w.failed_images w.no_memory_images))

pub returns-clause-each : goal.returns-clause-each
returns-clause-each g c gate tail stands at =
    let w = c.write_at.ensures in
    each_kept stands at (left_by g.D.Disk.model c.args.disk.now c.write_at.new.self c.args.place
    (length c.args.bytes.now) c.write_at.result w.images w.failed_images w.no_memory_images)

pub returns-clause-moments : goal.returns-clause-moments
returns-clause-moments g c gate tail stands at x m = elim (c.write_at.ensures.time.during x m) [
  | inl before ↦ stands.each x before
  | inr after ↦ returns-clause-each g c gate tail stands at x after
]

pub returns-clause-told : goal.returns-clause-told
returns-clause-told g c l told =
    let d = g.D.Disk.model in
    let old = c.args.disk.now in
    let new = c.write_at.new.self in
    let w = c.write_at.ensures in
    let k = told_torn c.args.place (length c.args.bytes.now) (d.content old) (d.content new) l told
    (content_by c.args.place c.args.bytes.now (d.content old) (d.content new) c.write_at.result w.written
    w.failed_content w.no_memory_content) in
    (k.0, k.1)
