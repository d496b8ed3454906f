use Rattle.std.proofs.Common.{List, ℕ, Option, OnOk, inl, inr, sym, subst}
use Rattle.disk_edge.specs.Disk.{Exactly, IfTold}
use Rattle.disk_edge.specs.Moments.{two_calls}
use Rattle.journal_core.specs.Fronts.{IsOpen}
use Rattle.compact_core.proofs.Writes.{keeps}
use Rattle.compact_core.proofs.closing.close.Goals as goal

pub returns-clause-synced : goal.returns-clause-synced
returns-clause-synced g c =
    subst (λ (k : Option (List ℕ)). OnOk c.sync.result
    (IfTold k (λ l. Exactly l (g.D.Disk.model.images c.sync.new.self))))
    (sym c.sync.ensures.content) c.sync.ensures.synced

pub returns-clause-no_new : goal.returns-clause-no_new
returns-clause-no_new g c l told x i is_open =
    c.in_ok-close_gate.ensures.no_new l told x (c.sync.ensures.no_new x i) is_open

pub returns-clause-moments : goal.returns-clause-moments
returns-clause-moments g c l told =
    let d = g.D.Disk.model in
    let old = c.args.disk.now in
    let mid = c.close_gate.new.disk in
    let new = c.sync.new.self in
    let gate = c.in_ok-close_gate.ensures in
    two_calls d old mid new (λ (y : List ℕ). IsOpen y → d.images old y)
    (g.met.D.Disk.parts new) gate.past.later (keeps d mid new c.sync.ensures.time)
    (gate.moments l told)
    (λ y m is_open. elim (c.sync.ensures.time.during y m) [
      | inl before ↦ gate.no_new l told y before is_open
      | inr after ↦ gate.no_new l told y (c.sync.ensures.no_new y after) is_open
    ])
