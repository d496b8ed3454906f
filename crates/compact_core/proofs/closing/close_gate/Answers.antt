use Rattle.std.proofs.Common.{List, ℕ, inl, inr}
use Rattle.disk_edge.specs.Moments.{two_calls}
use Rattle.journal_core.specs.Fronts.{IsOpen}
use Rattle.compact_core.proofs.Gates.{gate_written}
use Rattle.compact_core.proofs.Writes.{left_by, keeps}
use Rattle.compact_core.proofs.closing.close_gate.Goals as goal

pub returns-then-branch-clause-stays : goal.returns-then-branch-clause-stays
returns-then-branch-clause-stays g c x i =
    let w = c.write_at.ensures in
    let left = left_by g.D.Disk.model c.must_close.new.disk c.write_at.new.self 0 1 c.write_at.result w.images
    w.failed_images w.no_memory_images in
    left.stays x (c.in_ok-must_close.ensures.looks.no_fewer x i)

pub returns-then-branch-clause-no_new : goal.returns-then-branch-clause-no_new
returns-then-branch-clause-no_new g c l told x i is_open =
    let d = g.D.Disk.model in
    let old = c.args.disk.now in
    let w = c.write_at.ensures in
    let left = left_by d c.must_close.new.disk c.write_at.new.self 0 1 c.write_at.result w.images w.failed_images
    w.no_memory_images in
    let t = left.from x i in
    gate_written (d.images old) l (λ y e. g.met.D.Disk.loose old l y e 0 told)
    (c.in_ok-must_close.ensures.open l told c.if-branch.true) t.0 x
    (c.in_ok-must_close.ensures.looks.narrows.no_more t.0 t.1) t.2 is_open

pub returns-then-branch-clause-moments : goal.returns-then-branch-clause-moments
returns-then-branch-clause-moments g c l told =
    let d = g.D.Disk.model in
    let old = c.args.disk.now in
    let new = c.write_at.new.self in
    let looks = c.in_ok-must_close.ensures.looks.narrows in
    two_calls d old c.must_close.new.disk new (λ (y : List ℕ). IsOpen y → d.images old y)
    (g.met.D.Disk.parts new) looks.past.later
    (keeps d c.must_close.new.disk new c.write_at.ensures.time)
    (λ y m is_open. looks.moments y m)
    (λ y m is_open. elim (c.write_at.ensures.time.during y m) [
      | inl before ↦ looks.no_more y before
      | inr after ↦ returns-then-branch-clause-no_new g c l told y after is_open
    ])
