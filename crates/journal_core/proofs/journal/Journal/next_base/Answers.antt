use Rattle.std.proofs.Common.{◌≡◌, ◌∷◌, ◌++◌, [], ℕ, List, Option, Vec, length, drop, sym, ◌∙◌, ap, subst, arith, append_assoc, length-append}
use Rattle.std.specs.declared.alloc.Global.{Global}
use Rattle.std.specs.Int.{to_le_bytes, w32}
use Rattle.journal_core.specs.Found.{IsBase}
use Rattle.journal_core.specs.Fronts.{IsNoBase, front_of}
use Rattle.journal_core.specs.Journal.{Reads}
use Rattle.journal_core.proofs.LookLaws.{still_exactly}
use Rattle.journal_core.proofs.RecordLaws.{prefix_nil}
use Rattle.journal_core.specs.Records.{body}
use Rattle.journal_core.specs.declared.header.Header.{Header}
use Rattle.journal_core.specs.Standing.{Standing}
use Rattle.journal_core.proofs.FrontLaws.{at_front, front_push}
use Rattle.journal_core.proofs.Told.{some_is}
use Rattle.journal_core.proofs.journal.Journal.next_base.Goals as goal

pub returns-in-Ok-Some-clause-reads : goal.returns-in-Ok-Some-clause-reads
returns-in-Ok-Some-clause-reads g c base q =
    let d = g.D.Disk.model in
    let h = c.self.inside.header in
    let front = front_of h base in
    let place = c.self.inside.place in
    let p = c.in-Ok-Some.payload.items in
    let next = front_of c.args.self.now.header (base ++ p ∷ []) in
    let same = ap (λ (j : Standing g.row.D.Denot). j.header) c.self.view_is in
    let push : next ≡ front ++ body p = ap (λ (k : Header). front_of k (base ++ p ∷ [])) (sym same)
    ∙ front_push h base p in
    let r = subst (λ (j : Standing g.row.D.Denot). Reads d j (front_of j.header base) [])
    (sym c.self.view_is) q in
    let looks = c.in-Ok-Some.ensures.looks in
    let found = subst (λ (f : Option (Vec ℕ Global)). IsBase f (drop place r.told)) c.in-Ok-Some.field-0-is
    (c.in-Ok-Some.ensures.found r.told r.is_told) in
    let at = at_front front r.told r.tail place r.is r.place in
    let told : r.told ≡ next ++ found.0 = at.0 ∙ ap (λ (k : List ℕ). front ++ k) (sym at.2 ∙ found.1)
    ∙ sym (append_assoc front (body p) found.0) ∙ ap (λ (k : List ℕ). k ++ found.0) (sym push) in
    record {
      told = r.told;
      tail = found.0;
      is_told = looks.narrows.same ∙ r.is_told;
      exactly = still_exactly d c.self.inside.disk
          c.base_at.new.disk looks r.told r.exactly;
      is = told ∙ ap (λ (k : List ℕ). k ++ found.0) (sym (prefix_nil next));
      place = omega (
        arith,
        at.1,
        ap length (prefix_nil next),
        ap length push,
        length-append front (body p),
        length-append (to_le_bytes w32 (length p)) p,
        c.len.ensures,
      );
      fit = tt;
    }

pub returns-in-Ok-None-clause-damaged : goal.returns-in-Ok-None-clause-damaged
returns-in-Ok-None-clause-damaged g c = (
  ap (λ (j : Standing g.row.D.Denot). j.place) c.self.view_is,
  λ front q l told.
      let d = g.D.Disk.model in
      let place = c.self.inside.place in
      let r = subst (λ (j : Standing g.row.D.Denot). Reads d j front []) (sym c.self.view_is) q in
      let found = subst (λ (f : Option (Vec ℕ Global)). IsBase f (drop place r.told)) c.in-Ok-None.field-0-is
      (c.in-Ok-None.ensures.found r.told r.is_told) in
      let same : r.told ≡ l = some_is r.told l (sym r.is_told ∙ ap (λ (j : Standing g.row.D.Denot). d.content j.disk)
      c.self.view_is ∙ told) in
      let at = at_front front r.told r.tail place r.is r.place in
      record {
        tail = r.tail;
        is = sym same ∙ at.0;
        broken = subst IsNoBase at.2 found;
      },
)
