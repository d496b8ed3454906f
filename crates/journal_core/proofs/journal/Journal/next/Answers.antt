use Rattle.std.proofs.Common.{◌≡◌, ℕ, List, ◌++◌, length, drop, sym, ◌∙◌, ap, subst, arith, length-drop}
use Rattle.std.proofs.lemmas.List.{drop_at}
use Rattle.journal_core.specs.Found.{IsFound}
use Rattle.journal_core.specs.Journal.{Reads}
use Rattle.journal_core.specs.Records.{IsBroken, prefix}
use Rattle.journal_core.specs.Standing.{Standing}
use Rattle.journal_core.specs.declared.record.Found.{Found}
use Rattle.journal_core.proofs.LookLaws.{still_exactly}
use Rattle.journal_core.proofs.RecordLaws.{prefix_push, length-prefix_push, all_short}
use Rattle.journal_core.proofs.Told.{some_is}
use Rattle.journal_core.proofs.journal.Journal.next.Goals as goal

pub invariant_of-self : goal.invariant_of-self
invariant_of-self g c =
    let place = c.self.inside.place in
    let none = ap (λ (j : Standing g.row.D.Denot). j.doubt) c.self.view_is ∙ c.requires.settled in
    record {
      holds = c.in-Ok-Shut.ensures.holds;
      gate = λ r l told.
          let found = subst (λ (f : Found). IsFound f (drop place l)) c.in-Ok-Shut.field-0-is
          (c.in-Ok-Shut.ensures.found l (sym c.in-Ok-Shut.ensures.looks.narrows.same ∙ told)) in
          omega (arith, ap length found.2, length-drop place l);
      in_doubt = λ r. absurd (cc (none, r));
    }

pub returns-in-Ok-Shut-clause-opens : goal.returns-in-Ok-Shut-clause-opens
returns-in-Ok-Shut-clause-opens g c front ps q =
    let d = g.D.Disk.model in
    let r = subst (λ (j : Standing g.row.D.Denot). Reads d j front ps) (sym c.self.view_is) q in
    let place = c.self.inside.place in
    let looks = c.in-Ok-Shut.ensures.looks in
    let found = subst (λ (f : Found). IsFound f (drop place r.told)) c.in-Ok-Shut.field-0-is
    (c.in-Ok-Shut.ensures.found r.told r.is_told) in
    let tail : drop place r.told ≡ r.tail = ap (λ (l : List ℕ). drop place l) r.is
    ∙ drop_at (prefix front ps) r.tail place (sym r.place) in
    record {
      told = r.told;
      is_told = looks.narrows.same ∙ r.is_told;
      place = r.place;
      each = λ image i. record {
        gate = found.0;
        rest = found.1;
        is = r.exactly.only image (looks.narrows.no_more image i) ∙ r.is
            ∙ ap (λ (l : List ℕ). prefix front ps ++ l) (sym tail ∙ found.2);
        shut = found.3;
        fit = r.fit;
      };
    }

pub returns-in-Ok-Record-clause-reads : goal.returns-in-Ok-Record-clause-reads
returns-in-Ok-Record-clause-reads g c front ps q =
    let d = g.D.Disk.model in
    let r = subst (λ (j : Standing g.row.D.Denot). Reads d j front ps) (sym c.self.view_is) q in
    let place = c.self.inside.place in
    let payload = c.in-Ok-Record.payload.items in
    let looks = c.in-Ok-Record.ensures.looks in
    let found = subst (λ (f : Found). IsFound f (drop place r.told)) c.in-Ok-Record.field-0-is
    (c.in-Ok-Record.ensures.found r.told r.is_told) in
    let tail : drop place r.told ≡ r.tail = ap (λ (l : List ℕ). drop place l) r.is
    ∙ drop_at (prefix front ps) r.tail place (sym r.place) in
    record {
      told = r.told;
      tail = found.0;
      is_told = looks.narrows.same ∙ r.is_told;
      exactly = still_exactly d c.self.inside.disk
          c.record_at.new.disk looks r.told r.exactly;
      is = r.is ∙ ap (λ (l : List ℕ). prefix front ps ++ l) (sym tail ∙ found.1)
          ∙ sym (prefix_push front ps payload found.0);
      place = omega (arith, r.place, length-prefix_push front ps payload, c.len.ensures);
      fit = all_short ps payload r.fit found.2;
    }

pub returns-in-Ok-Broken-clause-damaged : goal.returns-in-Ok-Broken-clause-damaged
returns-in-Ok-Broken-clause-damaged g c = (
  ap (λ (j : Standing g.row.D.Denot). j.place) c.self.view_is,
  λ front ps q l told.
      let d = g.D.Disk.model in
      let r = subst (λ (j : Standing g.row.D.Denot). Reads d j front ps) (sym c.self.view_is) q in
      let place = c.self.inside.place in
      let found = subst (λ (f : Found). IsFound f (drop place r.told)) c.in-Ok-Broken.field-0-is
      (c.in-Ok-Broken.ensures.found r.told r.is_told) in
      let tail : drop place r.told ≡ r.tail = ap (λ (t : List ℕ). drop place t) r.is
      ∙ drop_at (prefix front ps) r.tail place (sym r.place) in
      let same : r.told ≡ l = some_is r.told l (sym r.is_told ∙ ap (λ (j : Standing g.row.D.Denot). d.content j.disk)
      c.self.view_is ∙ told) in
      record {
        tail = r.tail;
        is = sym same ∙ r.is;
        broken = subst IsBroken tail found;
        fit = r.fit;
      },
)
