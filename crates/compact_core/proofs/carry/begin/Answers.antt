use Rattle.std.proofs.Common.{[], List, ℕ, inl, subst, ◌∙◌, arith}
use Rattle.disk_edge.specs.Moments.{two_calls}
use Rattle.journal_core.specs.Fronts.{IsOpen}
use Rattle.compact_core.specs.Copies.{Stands}
use Rattle.compact_core.proofs.Gates.{not_open}
use Rattle.compact_core.proofs.Results.{ok_then, always_err}
use Rattle.compact_core.proofs.Tails.{closed_stands}
use Rattle.compact_core.proofs.carry.begin.Goals as goal

pub returns-clause-ok : goal.returns-clause-ok
returns-clause-ok g c = ok_then c.extend.result c.extend.ensures.ok (λ written l told.
    let d = g.D.Disk.model in
    let mid = c.close.new.disk in
    let new = c.extend.new.disk in
    let close = c.in_ok-close.ensures in
    let s = closed_stands d mid (close.told l told) close.synced close.closed in
    record {
      gate = s.gate;
      shut = s.shut;
      stands = subst (Stands d new s.gate) (c.deref.ensures.value ∙ c.in_ok-bytes.ensures)
          (written s.gate [] s.stands (omega arith));
    })

pub returns-clause-refused : goal.returns-clause-refused
returns-clause-refused g c = always_err c.extend.result (λ l told.
    let d = g.D.Disk.model in
    let mid = c.close.new.disk in
    let close = c.in_ok-close.ensures in
    let s = closed_stands d mid (close.told l told) close.synced close.closed in
    inl (λ x i. not_open s.gate x s.shut (c.extend.ensures.each s.gate [] s.stands (omega arith) x i)))

pub returns-clause-no_new : goal.returns-clause-no_new
returns-clause-no_new g c l told x i is_open =
    let d = g.D.Disk.model in
    let mid = c.close.new.disk in
    let close = c.in_ok-close.ensures in
    let s = closed_stands d mid (close.told l told) close.synced close.closed in
    absurd (not_open s.gate x s.shut (c.extend.ensures.each s.gate [] s.stands (omega arith) x i) is_open)

pub returns-clause-moments : goal.returns-clause-moments
returns-clause-moments g c l told =
    let d = g.D.Disk.model in
    let old = c.args.disk.now in
    let mid = c.close.new.disk in
    let new = c.extend.new.disk in
    let close = c.in_ok-close.ensures in
    let s = closed_stands d mid (close.told l told) close.synced close.closed in
    two_calls d old mid new (λ (y : List ℕ). IsOpen y → d.images old y)
    (g.met.D.Disk.parts new) close.past.later c.extend.ensures.past (close.moments l told)
    (λ y m is_open. absurd (not_open s.gate y s.shut
    (c.extend.ensures.moments s.gate [] s.stands (omega arith) y m) is_open))

pub returns-clause-told : goal.returns-clause-told
returns-clause-told g c l told =
    let k = c.in_ok-close.ensures.told l told in
    c.extend.ensures.told k.0 k.1
