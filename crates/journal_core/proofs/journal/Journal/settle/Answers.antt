use Rattle.std.proofs.Common.{◌≡◌, ◌∙◌, ap, sym, subst}
use Rattle.disk_edge.specs.Disk.{Tears, TearsContent}
use Rattle.disk_edge.specs.TornLaws.{torn_same}
use Rattle.journal_core.specs.Journal.{Doubts}
use Rattle.journal_core.specs.Records.{Opens, BeforeOrAfter}
use Rattle.journal_core.specs.Standing.{Standing}
use Rattle.journal_core.proofs.RecordLaws.{never_both, before_or_after}
use Rattle.journal_core.proofs.Results.{at_failed, at_no_memory}
use Rattle.journal_core.proofs.Steps.{gate, written_closed}
use Rattle.journal_core.proofs.Told.{becomes_told, becomes_untold, tears_told, tears_untold}
use Rattle.journal_core.proofs.Viewed.{at_view}
use Rattle.journal_core.proofs.journal.Journal.settle.Goals as goal

pub returns-in-Ok-clause-ok : goal.returns-in-Ok-clause-ok
returns-in-Ok-clause-ok g c front ps p q =
    let d = g.D.Disk.model in
    let r = subst (λ (j : Standing g.row.D.Denot). Doubts d j front ps p) (sym c.self.view_is) q in
    let old = c.self.inside.disk in
    let new = c.put.new.disk in
    let place = c.self.inside.place in
    let told = becomes_told (d.content old) (d.content new) _ r.told r.is_told c.in-Ok.ensures.content in
    let only = c.in-Ok.ensures.synced _ told in
    let staged = r.staged r.told (g.met.D.Disk.content_is_image old r.told r.is_told) in
    record {
      told = _;
      is_told = told;
      place = r.place;
      each = λ image i. subst (Opens front ps) (sym (only.only image i))
          (written_closed front ps p place r.place r.told staged);
    }

pub returns-in-Ok-clause-gone : goal.returns-in-Ok-clause-gone
returns-in-Ok-clause-gone g c front ps p q image i o =
    never_both front ps p image ((returns-in-Ok-clause-ok g c front ps p q).each image i) o

pub returns-in-Ok-clause-moments : goal.returns-in-Ok-clause-moments
returns-in-Ok-clause-moments g c front ps p q =
    let d = g.D.Disk.model in
    let r = subst (λ (j : Standing g.row.D.Denot). Doubts d j front ps p) (sym c.self.view_is) q in
    at_view d (BeforeOrAfter front ps p) _ _ c.put.new.disk c.self.view_is (λ image m. let t =
    c.put.ensures.moments image m in
    before_or_after front ps p image (gate front ps p c.self.inside.place r.place t.0 image (r.staged t.0 t.1) t.2))

-- the doubt stays, and so does an image that has the payload
pub returns-in-Err-Failed-clause-failed : goal.returns-in-Err-Failed-clause-failed
returns-in-Err-Failed-clause-failed g c front ps p q =
    let d = g.D.Disk.model in
    let r = subst (λ (j : Standing g.row.D.Denot). Doubts d j front ps p) (sym c.self.view_is) q in
    let old = c.self.inside.disk in
    let new = c.put.new.disk in
    let place = c.self.inside.place in
    let tears = at_failed c.in-Err-Failed.field-0 (Tears place 1 (d.images old) (d.images new))
    c.in-Err-Failed.field-0-is c.in-Err-Failed.ensures.failed in
    let content = at_failed c.in-Err-Failed.field-0 (TearsContent place 1 (d.content old) (d.content new))
    c.in-Err-Failed.field-0-is c.in-Err-Failed.ensures.failed_content in
    let told = tears_told place 1 (d.content old) (d.content new) r.told r.is_told content in
    record {
      told = told.0;
      is_told = told.1;
      place = r.place;
      each = λ image i. let t = tears.from image i in
          before_or_after front ps p image (gate front ps p place r.place t.0 image (r.staged t.0 t.1) t.2);
      some = (r.some.0, tears.all r.some.0 r.some.0 r.some.1 (torn_same place 1 r.some.0), r.some.2);
      staged = λ image i. let t = tears.from image i in gate front ps p place r.place t.0 image (r.staged t.0 t.1) t.2;
    }

pub returns-in-Err-Failed-clause-moments : goal.returns-in-Err-Failed-clause-moments
returns-in-Err-Failed-clause-moments g c front ps p q =
    let d = g.D.Disk.model in
    let r = subst (λ (j : Standing g.row.D.Denot). Doubts d j front ps p) (sym c.self.view_is) q in
    at_view d (BeforeOrAfter front ps p) _ _ c.put.new.disk c.self.view_is (λ image m. let t =
    c.put.ensures.moments image m in
    before_or_after front ps p image (gate front ps p c.self.inside.place r.place t.0 image (r.staged t.0 t.1) t.2))

pub returns-in-Err-NoMemory-clause-moments : goal.returns-in-Err-NoMemory-clause-moments
returns-in-Err-NoMemory-clause-moments g c front ps p q =
    let d = g.D.Disk.model in
    let r = subst (λ (j : Standing g.row.D.Denot). Doubts d j front ps p) (sym c.self.view_is) q in
    at_view d (BeforeOrAfter front ps p) _ _ c.put.new.disk c.self.view_is (λ image m. let t =
    c.put.ensures.moments image m in
    before_or_after front ps p image (gate front ps p c.self.inside.place r.place t.0 image (r.staged t.0 t.1) t.2))

-- a disk that tells nothing goes on so
pub returns-in-Ok-clause-untold : goal.returns-in-Ok-clause-untold
returns-in-Ok-clause-untold g c is =
    let d = g.D.Disk.model in
    becomes_untold (d.content c.self.inside.disk) (d.content c.put.new.disk) _ c.in-Ok.ensures.content
    (ap (λ (j : Standing g.row.D.Denot). d.content j.disk) c.self.view_is ∙ is)

pub returns-in-Err-Failed-clause-untold : goal.returns-in-Err-Failed-clause-untold
returns-in-Err-Failed-clause-untold g c is =
    let d = g.D.Disk.model in
    let content = at_failed c.in-Err-Failed.field-0 (TearsContent c.self.inside.place 1 (d.content c.self.inside.disk)
    (d.content c.put.new.disk)) c.in-Err-Failed.field-0-is c.in-Err-Failed.ensures.failed_content in
    tears_untold c.self.inside.place 1 (d.content c.self.inside.disk) (d.content c.put.new.disk) content
    (ap (λ (j : Standing g.row.D.Denot). d.content j.disk) c.self.view_is ∙ is)

pub returns-in-Err-NoMemory-clause-untold : goal.returns-in-Err-NoMemory-clause-untold
returns-in-Err-NoMemory-clause-untold g c is =
    let d = g.D.Disk.model in
    at_no_memory c.in-Err-NoMemory.field-0 (d.content c.put.new.disk ≡ d.content c.self.inside.disk)
    c.in-Err-NoMemory.field-0-is c.in-Err-NoMemory.ensures.no_memory_content
    ∙ (ap (λ (j : Standing g.row.D.Denot). d.content j.disk) c.self.view_is ∙ is)
