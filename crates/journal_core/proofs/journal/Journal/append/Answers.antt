use Rattle.std.proofs.Common.{◌≡◌, ◌+◌, inl, [], ◌∷◌, ◌++◌, length, refl, sym, ◌∙◌, ap, rules, subst, arith}
use Rattle.disk_edge.specs.Disk.{Same, Tears, TearsContent}
use Rattle.disk_edge.specs.Moments.{two_calls}
use Rattle.journal_core.specs.Journal.{Rests}
use Rattle.journal_core.specs.Records.{Opens, BeforeOrAfter}
use Rattle.journal_core.specs.Standing.{Standing}
use Rattle.journal_core.proofs.RecordLaws.{never_both, before_or_after, length-prefix_push}
use Rattle.journal_core.proofs.Results.{at_failed, at_no_memory}
use Rattle.journal_core.proofs.Steps.{behind, stage_done, stage_torn, written_open, stage_open}
use Rattle.journal_core.proofs.Told.{becomes_told, becomes_untold, tears_told, tears_untold, done_tears, keeps_gate}
use Rattle.journal_core.proofs.Viewed.{at_view}
use Rattle.journal_core.proofs.journal.Journal.append.Goals as goal

-- the record was not written, or not synced
pub returns-in-Err-Failed-clause-sure : goal.returns-in-Err-Failed-clause-sure
returns-in-Err-Failed-clause-sure g c front ps q =
    let r = subst (λ (j : Standing g.row.D.Denot). Rests g.D.Disk.model j front ps) (sym c.self.view_is) q in
    let d = g.D.Disk.model in
    let old = c.self.inside.disk in
    let mid = c.put.new.disk in
    let place = c.self.inside.place in
    let payload = c.args.payload.now in
    let tears = at_failed c.in-Err-Failed.field-0 (Tears (place + 1) (length c.deref.result.now) (d.images old)
    (d.images mid)) c.in-Err-Failed.field-0-is c.in-Err-Failed.ensures.failed in
    let content = at_failed c.in-Err-Failed.field-0 (TearsContent (place + 1) (length c.deref.result.now)
    (d.content old) (d.content mid)) c.in-Err-Failed.field-0-is c.in-Err-Failed.ensures.failed_content in
    let told = tears_told (place + 1) (length c.deref.result.now) (d.content old) (d.content mid) r.told r.is_told
    content in
    record {
      told = told.0;
      is_told = told.1;
      place = r.place;
      each = λ image i. let t = tears.from image i in
          behind front ps payload place r.place (length c.deref.result.now) t.0 image (r.each t.0 t.1) t.2;
    }

pub returns-in-Err-Failed-clause-no_image : goal.returns-in-Err-Failed-clause-no_image
returns-in-Err-Failed-clause-no_image g c front ps q image i o =
    never_both front ps c.args.payload.now image ((returns-in-Err-Failed-clause-sure g c front ps q).each image i) o

pub returns-in-Err-Failed-clause-moments : goal.returns-in-Err-Failed-clause-moments
returns-in-Err-Failed-clause-moments g c front ps q =
    let r = subst (λ (j : Standing g.row.D.Denot). Rests g.D.Disk.model j front ps) (sym c.self.view_is) q in
    let d = g.D.Disk.model in
    let old = c.self.inside.disk in
    let mid = c.put.new.disk in
    let place = c.self.inside.place in
    let payload = c.args.payload.now in
    at_view d (BeforeOrAfter front ps payload) _ _ mid c.self.view_is (λ image m. let t =
    c.put.ensures.moments image m in
    inl ((behind front ps payload place r.place (length c.deref.result.now) t.0 image (r.each t.0 t.1) t.2)))

pub returns-in-Err-NoMemory-clause-moments : goal.returns-in-Err-NoMemory-clause-moments
returns-in-Err-NoMemory-clause-moments g c front ps q =
    let r = subst (λ (j : Standing g.row.D.Denot). Rests g.D.Disk.model j front ps) (sym c.self.view_is) q in
    let d = g.D.Disk.model in
    let old = c.self.inside.disk in
    let mid = c.put.new.disk in
    let place = c.self.inside.place in
    let payload = c.args.payload.now in
    at_view d (BeforeOrAfter front ps payload) _ _ mid c.self.view_is (λ image m. let t =
    c.put.ensures.moments image m in
    inl ((behind front ps payload place r.place (length c.deref.result.now) t.0 image (r.each t.0 t.1) t.2)))

-- the gate was not written, or not synced
pub returns-in-Err-Failed-put-clause-doubt : goal.returns-in-Err-Failed-put-clause-doubt
returns-in-Err-Failed-put-clause-doubt g c front ps q =
    let r = subst (λ (j : Standing g.row.D.Denot). Rests g.D.Disk.model j front ps) (sym c.self.view_is) q in
    let d = g.D.Disk.model in
    let old = c.self.inside.disk in
    let mid = c.put.new.disk in
    let place = c.self.inside.place in
    let payload = c.args.payload.now in
    let new = c.put-2.new.disk in
    let stage = stage_done front ps payload place r.place c.requires.few c.deref.result.now (d.content old)
    (d.content mid) (d.images old) (d.images mid) r.told
    (c.deref.ensures.value ∙ c.in-Ok.ensures) r.is_told (g.met.D.Disk.content_is_image old r.told r.is_told) r.each
    c.in-Ok-put.ensures.content c.in-Ok-put.ensures.synced in
    let tears = at_failed c.in-Err-Failed-put.field-0 (Tears place 1 (d.images mid) (d.images new))
    c.in-Err-Failed-put.field-0-is c.in-Err-Failed-put.ensures.failed in
    let content = at_failed c.in-Err-Failed-put.field-0 (TearsContent place 1 (d.content mid) (d.content new))
    c.in-Err-Failed-put.field-0-is c.in-Err-Failed-put.ensures.failed_content in
    let told = tears_told place 1 (d.content mid) (d.content new) stage.bytes stage.told content in
    record {
      told = told.0;
      is_told = told.1;
      place = r.place;
      each = λ image i. let t = tears.from image i in
          before_or_after front ps payload image
          (stage_torn front ps payload place r.place (d.content mid) (d.images mid) stage t.0 image t.1 t.2);
      staged = λ image i. let t = tears.from image i in stage_torn front ps payload place r.place (d.content mid)
          (d.images mid) stage t.0 image t.1 t.2;
      some = stage_open front ps payload place r.place (d.content mid) (d.images mid) (d.images new) stage tears;
    }

pub invariant_of-self-in-Err-Failed-put : goal.invariant_of-self-in-Err-Failed-put
invariant_of-self-in-Err-Failed-put g c =
    let d = g.D.Disk.model in
    let old = c.self.inside.disk in
    let mid = c.put.new.disk in
    let new = c.put-2.new.disk in
    let place = c.self.inside.place in
    let ready = ap (λ (j : Standing g.row.D.Denot). j.ready) c.self.view_is ∙ c.requires.ready in
    let content = at_failed c.in-Err-Failed-put.field-0 (TearsContent place 1 (d.content mid) (d.content new))
    c.in-Err-Failed-put.field-0-is c.in-Err-Failed-put.ensures.failed_content in
    let gate = keeps_gate place 1 place (d.content mid) (d.content new) content
    (keeps_gate (place + 1) (length c.deref.result.now) place (d.content old) (d.content mid)
    (done_tears (place + 1) c.deref.result.now (d.content old) (d.content mid) (d.content mid)
    c.in-Ok-put.ensures.content refl) (c.self.invariant.gate ready)) in
    record {
      holds = search rules;
      gate = λ _. gate;
      in_doubt = λ _. (ready, search rules);
    }

pub returns-in-Err-Failed-put-clause-moments : goal.returns-in-Err-Failed-put-clause-moments
returns-in-Err-Failed-put-clause-moments g c front ps q =
    let r = subst (λ (j : Standing g.row.D.Denot). Rests g.D.Disk.model j front ps) (sym c.self.view_is) q in
    let d = g.D.Disk.model in
    let old = c.self.inside.disk in
    let mid = c.put.new.disk in
    let place = c.self.inside.place in
    let payload = c.args.payload.now in
    let new = c.put-2.new.disk in
    let stage = stage_done front ps payload place r.place c.requires.few c.deref.result.now (d.content old)
    (d.content mid) (d.images old) (d.images mid) r.told
    (c.deref.ensures.value ∙ c.in-Ok.ensures) r.is_told (g.met.D.Disk.content_is_image old r.told r.is_told) r.each
    c.in-Ok-put.ensures.content c.in-Ok-put.ensures.synced in
    at_view d (BeforeOrAfter front ps payload) _ _ new c.self.view_is (
    two_calls d old mid new (BeforeOrAfter front ps payload) (g.met.D.Disk.parts new)
    c.put.ensures.past.later c.put-2.ensures.past
    (λ image m. let t = c.put.ensures.moments image m in
    inl ((behind front ps payload place r.place (length c.deref.result.now) t.0 image (r.each t.0 t.1) t.2)))
    (λ image m. let t = c.put-2.ensures.moments image m in
    before_or_after front ps payload image
    (stage_torn front ps payload place r.place (d.content mid) (d.images mid) stage t.0 image t.1 t.2)))

-- no memory for the write of the gate
pub returns-in-Err-NoMemory-put-clause-no_memory : goal.returns-in-Err-NoMemory-put-clause-no_memory
returns-in-Err-NoMemory-put-clause-no_memory g c front ps q =
    let r = subst (λ (j : Standing g.row.D.Denot). Rests g.D.Disk.model j front ps) (sym c.self.view_is) q in
    let d = g.D.Disk.model in
    let old = c.self.inside.disk in
    let mid = c.put.new.disk in
    let place = c.self.inside.place in
    let payload = c.args.payload.now in
    let new = c.put-2.new.disk in
    let stage = stage_done front ps payload place r.place c.requires.few c.deref.result.now (d.content old)
    (d.content mid) (d.images old) (d.images mid) r.told
    (c.deref.ensures.value ∙ c.in-Ok.ensures) r.is_told (g.met.D.Disk.content_is_image old r.told r.is_told) r.each
    c.in-Ok-put.ensures.content c.in-Ok-put.ensures.synced in
    let same = at_no_memory c.in-Err-NoMemory-put.field-0 (Same (d.images mid) (d.images new))
    c.in-Err-NoMemory-put.field-0-is c.in-Err-NoMemory-put.ensures.no_memory in
    let content = at_no_memory c.in-Err-NoMemory-put.field-0 (d.content new ≡ d.content mid)
    c.in-Err-NoMemory-put.field-0-is c.in-Err-NoMemory-put.ensures.no_memory_content in
    record {
      told = stage.bytes;
      is_told = content ∙ stage.told;
      place = r.place;
      each = λ image i. subst (Opens front ps) (sym (stage.exactly.only image (same.no_more image i))) stage.opens;
    }

pub returns-in-Err-NoMemory-put-clause-moments : goal.returns-in-Err-NoMemory-put-clause-moments
returns-in-Err-NoMemory-put-clause-moments g c front ps q =
    let r = subst (λ (j : Standing g.row.D.Denot). Rests g.D.Disk.model j front ps) (sym c.self.view_is) q in
    let d = g.D.Disk.model in
    let old = c.self.inside.disk in
    let mid = c.put.new.disk in
    let place = c.self.inside.place in
    let payload = c.args.payload.now in
    let new = c.put-2.new.disk in
    let stage = stage_done front ps payload place r.place c.requires.few c.deref.result.now (d.content old)
    (d.content mid) (d.images old) (d.images mid) r.told
    (c.deref.ensures.value ∙ c.in-Ok.ensures) r.is_told (g.met.D.Disk.content_is_image old r.told r.is_told) r.each
    c.in-Ok-put.ensures.content c.in-Ok-put.ensures.synced in
    at_view d (BeforeOrAfter front ps payload) _ _ new c.self.view_is (
    two_calls d old mid new (BeforeOrAfter front ps payload) (g.met.D.Disk.parts new)
    c.put.ensures.past.later c.put-2.ensures.past
    (λ image m. let t = c.put.ensures.moments image m in
    inl ((behind front ps payload place r.place (length c.deref.result.now) t.0 image (r.each t.0 t.1) t.2)))
    (λ image m. let t = c.put-2.ensures.moments image m in
    before_or_after front ps payload image
    (stage_torn front ps payload place r.place (d.content mid) (d.images mid) stage t.0 image t.1 t.2)))

-- all is on the disk
pub returns-clause-ok : goal.returns-clause-ok
returns-clause-ok g c front ps q =
    let r = subst (λ (j : Standing g.row.D.Denot). Rests g.D.Disk.model j front ps) (sym c.self.view_is) q in
    let d = g.D.Disk.model in
    let old = c.self.inside.disk in
    let mid = c.put.new.disk in
    let place = c.self.inside.place in
    let payload = c.args.payload.now in
    let new = c.put-2.new.disk in
    let stage = stage_done front ps payload place r.place c.requires.few c.deref.result.now (d.content old)
    (d.content mid) (d.images old) (d.images mid) r.told
    (c.deref.ensures.value ∙ c.in-Ok.ensures) r.is_told (g.met.D.Disk.content_is_image old r.told r.is_told) r.each
    c.in-Ok-put.ensures.content c.in-Ok-put.ensures.synced in
    let told = becomes_told (d.content mid) (d.content new) _ stage.bytes stage.told c.in-Ok-put-2.ensures.content in
    let only = c.in-Ok-put-2.ensures.synced _ told in
    record {
      told = _;
      is_told = told;
      place = omega (arith, r.place, length-prefix_push front ps payload);
      each = λ image i. subst (Opens front (ps ++ payload ∷ [])) (sym (only.only image i))
          (written_open front ps payload place r.place stage.bytes stage.staged);
    }

pub returns-clause-moments : goal.returns-clause-moments
returns-clause-moments g c front ps q =
    let r = subst (λ (j : Standing g.row.D.Denot). Rests g.D.Disk.model j front ps) (sym c.self.view_is) q in
    let d = g.D.Disk.model in
    let old = c.self.inside.disk in
    let mid = c.put.new.disk in
    let place = c.self.inside.place in
    let payload = c.args.payload.now in
    let new = c.put-2.new.disk in
    let stage = stage_done front ps payload place r.place c.requires.few c.deref.result.now (d.content old)
    (d.content mid) (d.images old) (d.images mid) r.told
    (c.deref.ensures.value ∙ c.in-Ok.ensures) r.is_told (g.met.D.Disk.content_is_image old r.told r.is_told) r.each
    c.in-Ok-put.ensures.content c.in-Ok-put.ensures.synced in
    at_view d (BeforeOrAfter front ps payload) _ _ new c.self.view_is (
    two_calls d old mid new (BeforeOrAfter front ps payload) (g.met.D.Disk.parts new)
    c.put.ensures.past.later c.put-2.ensures.past
    (λ image m. let t = c.put.ensures.moments image m in
    inl ((behind front ps payload place r.place (length c.deref.result.now) t.0 image (r.each t.0 t.1) t.2)))
    (λ image m. let t = c.put-2.ensures.moments image m in
    before_or_after front ps payload image
    (stage_torn front ps payload place r.place (d.content mid) (d.images mid) stage t.0 image t.1 t.2)))

-- a disk that tells nothing goes on so
pub returns-in-Err-Failed-clause-untold : goal.returns-in-Err-Failed-clause-untold
returns-in-Err-Failed-clause-untold g c is =
    let d = g.D.Disk.model in
    let content = at_failed c.in-Err-Failed.field-0 (TearsContent (c.self.inside.place + 1) (length c.deref.result.now)
    (d.content c.self.inside.disk) (d.content c.put.new.disk)) c.in-Err-Failed.field-0-is
    c.in-Err-Failed.ensures.failed_content in
    tears_untold (c.self.inside.place + 1) (length c.deref.result.now) (d.content c.self.inside.disk)
    (d.content c.put.new.disk) content
    (ap (λ (j : Standing g.row.D.Denot). d.content j.disk) c.self.view_is ∙ is)

pub returns-in-Err-NoMemory-clause-untold : goal.returns-in-Err-NoMemory-clause-untold
returns-in-Err-NoMemory-clause-untold g c is =
    let d = g.D.Disk.model in
    at_no_memory c.in-Err-NoMemory.field-0 (d.content c.put.new.disk ≡ d.content c.self.inside.disk)
    c.in-Err-NoMemory.field-0-is c.in-Err-NoMemory.ensures.no_memory_content
    ∙ (ap (λ (j : Standing g.row.D.Denot). d.content j.disk) c.self.view_is ∙ is)

pub returns-in-Err-Failed-put-clause-untold : goal.returns-in-Err-Failed-put-clause-untold
returns-in-Err-Failed-put-clause-untold g c is =
    let d = g.D.Disk.model in
    let content = at_failed c.in-Err-Failed-put.field-0 (TearsContent c.self.inside.place 1 (d.content c.put.new.disk)
    (d.content c.put-2.new.disk)) c.in-Err-Failed-put.field-0-is c.in-Err-Failed-put.ensures.failed_content in
    tears_untold c.self.inside.place 1 (d.content c.put.new.disk) (d.content c.put-2.new.disk) content
    (becomes_untold (d.content c.self.inside.disk) (d.content c.put.new.disk) _ c.in-Ok-put.ensures.content
    (ap (λ (j : Standing g.row.D.Denot). d.content j.disk) c.self.view_is ∙ is))

pub returns-in-Err-NoMemory-put-clause-untold : goal.returns-in-Err-NoMemory-put-clause-untold
returns-in-Err-NoMemory-put-clause-untold g c is =
    let d = g.D.Disk.model in
    at_no_memory c.in-Err-NoMemory-put.field-0 (d.content c.put-2.new.disk ≡ d.content c.put.new.disk)
    c.in-Err-NoMemory-put.field-0-is c.in-Err-NoMemory-put.ensures.no_memory_content
    ∙ becomes_untold (d.content c.self.inside.disk) (d.content c.put.new.disk) _ c.in-Ok-put.ensures.content
    (ap (λ (j : Standing g.row.D.Denot). d.content j.disk) c.self.view_is ∙ is)

pub returns-clause-untold : goal.returns-clause-untold
returns-clause-untold g c is =
    let d = g.D.Disk.model in
    becomes_untold (d.content c.put.new.disk) (d.content c.put-2.new.disk) _ c.in-Ok-put-2.ensures.content
    (becomes_untold (d.content c.self.inside.disk) (d.content c.put.new.disk) _ c.in-Ok-put.ensures.content
    (ap (λ (j : Standing g.row.D.Denot). d.content j.disk) c.self.view_is ∙ is))
