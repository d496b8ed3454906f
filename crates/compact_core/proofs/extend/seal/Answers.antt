use Rattle.std.proofs.Common.{◌≡◌, ◌∙◌, ◌∷◌, [], List, ℕ, Option, OnOk, inl, inr, refl, take, sym, subst}
use Rattle.disk_edge.specs.Disk.{Exactly, IfTold}
use Rattle.disk_edge.specs.Moments.{two_calls}
use Rattle.compact_core.proofs.Gathering.{still_pending}
use Rattle.compact_core.proofs.Results.{ok_then}
use Rattle.compact_core.proofs.Tails.{stands_still}
use Rattle.compact_core.proofs.Writes.{keeps}
use Rattle.compact_core.proofs.extend.seal.Goals as goal

pub returns-clause-synced : goal.returns-clause-synced
returns-clause-synced g c =
    subst (λ (k : Option (List ℕ)). OnOk c.sync.result
    (IfTold k (λ l. Exactly l (g.D.Disk.model.images c.sync.new.self))))
    (sym c.sync.ensures.content) c.sync.ensures.synced

pub returns-clause-ok : goal.returns-clause-ok
returns-clause-ok g c = ok_then c.sync.result c.sync.ensures.synced (λ _ gate tail gathered at.
    stands_still (c.in_ok-extend_closed.ensures.ok gate tail gathered at) c.sync.ensures.content
    c.sync.ensures.no_new)

pub returns-clause-closed : goal.returns-clause-closed
returns-clause-closed g c = ok_then c.sync.result c.sync.ensures.synced (λ _ l told.
    c.in_ok-extend_closed.ensures.closed l (sym c.sync.ensures.content ∙ told))

pub returns-clause-stays : goal.returns-clause-stays
returns-clause-stays g c gate tail gathered at =
    let left = c.in_ok-extend_closed.ensures.stays gate tail gathered at in
    still_pending left refl (stands_still left.stands c.sync.ensures.content c.sync.ensures.no_new)

pub returns-clause-moments : goal.returns-clause-moments
returns-clause-moments g c gate tail gathered at =
    let d = g.D.Disk.model in
    let mid = c.extend_closed.new.disk in
    let new = c.sync.new.self in
    let first = c.in_ok-extend_closed.ensures in
    let each = (first.stays gate tail gathered at).stands.each in
    two_calls d c.args.disk.now mid new (λ (y : List ℕ). take 1 y ≡ gate ∷ [])
    (g.met.D.Disk.parts new) first.past.later (keeps d mid new c.sync.ensures.time)
    (first.moments gate tail gathered at)
    (λ y m. elim (c.sync.ensures.time.during y m) [
      | inl before ↦ each y before
      | inr after ↦ each y (c.sync.ensures.no_new y after)
    ])

pub returns-clause-told : goal.returns-clause-told
returns-clause-told g c l told =
    let k = c.in_ok-extend_closed.ensures.told l told in
    (k.0, c.sync.ensures.content ∙ k.1)
