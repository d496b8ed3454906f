use Rattle.std.proofs.Common.{◌≡◌, ◌+◌, inr, List, [], ◌∷◌, ◌++◌, length, ℕ, false, Option, IfNone, sym, ◌∙◌, subst, append-nil}
use Rattle.disk_edge.specs.Disk.{DiskModel}
use Rattle.journal_core.specs.Journal.{Reads}
use Rattle.journal_core.specs.Records.{IsShort}
use Rattle.journal_core.proofs.RecordLaws.{prefix_push}
use Rattle.journal_core.specs.Standing.{Standing}
use Rattle.commit_log.specs.Change.{IsNoChange}
use Rattle.commit_log.specs.declared.change.Wire.{Wire}
use Rattle.commit_log.proofs.Answered.{at_record, same_list}
use Rattle.commit_log.proofs.log.next_commit.Goals as goal

-- a journal that was not moved has read nothing more
none_more : {D : Type 0} (model : DiskModel D) (j : Standing D) (front : List ℕ) (ps : List (List ℕ))
    → Reads model j front ps → (more : List (List ℕ)) × Reads model j front (ps ++ more)
none_more model j front ps q = ([], subst (λ (qs : List (List ℕ)). Reads model j front qs) (sym (append-nil ps)) q)

pub returns-in-Ok-None-decode-clause-damaged : goal.returns-in-Ok-None-decode-clause-damaged
returns-in-Ok-None-decode-clause-damaged g c front ps q =
    let found = c.in-Ok-Some.ensures in
    let payload = c.in-Ok-Some.record.1.items in
    let d = g.D.Disk.model in
    let facts : (c.in-Ok-Some.record.0 ≡ c.args.journal.now.place) × IsShort payload
    × (c.next.new.self.place ≡ c.in-Ok-Some.record.0 + 5 + length payload) × (c.next.new.self.ready ≡ false) =
    at_record c.in-Ok-Some.field-0 c.in-Ok-Some.record (λ at p. (at ≡ c.args.journal.now.place) × IsShort p
    × (c.next.new.self.place ≡ at + 5 + length p) × (c.next.new.self.ready ≡ false)) c.in-Ok-Some.field-0-is
    found.record in
    let new = at_record c.in-Ok-Some.field-0 c.in-Ok-Some.record (λ at p. (f : List ℕ) (qs : List (List ℕ))
    → Reads d c.args.journal.now f qs → Reads d c.next.new.self f (qs ++ p ∷ []))
    c.in-Ok-Some.field-0-is found.reads front ps q in (
      facts.0 ∙ q.place,
      λ l told.
          let same = same_list new.told l (sym new.is_told ∙ found.looks.narrows.same ∙ told) in
          inr (record {
            payload = payload;
            rest = new.tail;
            is = sym same ∙ new.is ∙ prefix_push front ps payload new.tail;
            fit = q.fit;
            short = facts.1;
            none = subst IsNoChange c.deref.ensures.value
                (subst (λ (o : Option Wire). IfNone o (IsNoChange c.deref.result.now)) c.in-Ok-None-decode.field-0-is
                c.in-Ok-None-decode.ensures.none);
          }),
    )

-- the journal stands where it stood
pub returns-in-Err-clause-stands : goal.returns-in-Err-clause-stands
returns-in-Err-clause-stands g c front ps q =
    none_more g.D.Disk.model c.next.new.self front ps (c.in-Err.ensures.still_reads front ps q)

-- the journal stands behind the record, which is not read
pub returns-in-Ok-None-decode-clause-stands : goal.returns-in-Ok-None-decode-clause-stands
returns-in-Ok-None-decode-clause-stands g c front ps q =
    let d = g.D.Disk.model in (
      c.in-Ok-Some.record.1.items ∷ [],
      at_record c.in-Ok-Some.field-0 c.in-Ok-Some.record (λ at p. (f : List ℕ) (qs : List (List ℕ))
          → Reads d c.args.journal.now f qs → Reads d c.next.new.self f (qs ++ p ∷ []))
          c.in-Ok-Some.field-0-is c.in-Ok-Some.ensures.reads front ps q,
    )

pub returns-clause-stands : goal.returns-clause-stands
returns-clause-stands g c front ps q =
    let d = g.D.Disk.model in (
      c.in-Ok-Some.record.1.items ∷ [],
      at_record c.in-Ok-Some.field-0 c.in-Ok-Some.record (λ at p. (f : List ℕ) (qs : List (List ℕ))
          → Reads d c.args.journal.now f qs → Reads d c.next.new.self f (qs ++ p ∷ []))
          c.in-Ok-Some.field-0-is c.in-Ok-Some.ensures.reads front ps q,
    )
