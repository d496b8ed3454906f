use Rattle.std.proofs.Common.{inl, inr, List, ℕ, length, Option, OnOk, sym, subst, arith}
use Rattle.disk_edge.specs.Disk.{Exactly, TearsContent, IfTold}
use Rattle.disk_edge.specs.TornLaws.{torn_same}
use Rattle.journal_core.proofs.Results.{on_failed}
use Rattle.journal_core.proofs.Told.{done_tears}
use Rattle.journal_core.proofs.synced.put.Goals as goal

pub returns-clause-synced : goal.returns-clause-synced
returns-clause-synced g c =
    subst (λ (k : Option (List ℕ)). OnOk c.sync.result
    (IfTold k (λ l. Exactly l (g.D.Disk.model.images c.sync.new.self))))
    (sym c.sync.ensures.content) c.sync.ensures.synced

pub returns-clause-failed_content : goal.returns-clause-failed_content
returns-clause-failed_content g c =
    on_failed c.sync.result (TearsContent c.args.at (length c.args.bytes.now) (g.D.Disk.model.content c.args.disk.now)
    (g.D.Disk.model.content c.sync.new.self))
    (done_tears c.args.at c.args.bytes.now (g.D.Disk.model.content c.args.disk.now)
    (g.D.Disk.model.content c.write_at.new.self)
    (g.D.Disk.model.content c.sync.new.self)
    c.in_ok-write_at.ensures.written c.sync.ensures.content)

pub returns-clause-moments : goal.returns-clause-moments
returns-clause-moments g c image b =
    let d = g.D.Disk.model in
    let old = c.args.disk.now in
    let mid = c.write_at.new.self in
    let new = c.sync.new.self in
    elim (g.met.D.Disk.parts new (d.clock old) (d.clock mid) (d.clock new) image c.write_at.ensures.time.later
    c.sync.ensures.time.later b) [
      | inl first ↦ elim (c.write_at.ensures.time.during image (c.sync.ensures.time.no_more (d.clock old) (d.clock mid)
          image (omega arith) first)) [
            | inl before ↦ (image, before, torn_same c.args.at (length c.args.bytes.now) image)
            | inr after ↦ c.in_ok-write_at.ensures.images.from image after
          ]
      | inr second ↦ elim (c.sync.ensures.time.during image second) [
        | inl before ↦ c.in_ok-write_at.ensures.images.from image before
        | inr after ↦ c.in_ok-write_at.ensures.images.from image (c.sync.ensures.no_new image after)
      ]
    ]
