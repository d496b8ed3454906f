use Rattle.std.proofs.Common.{◌≡◌, ◌≢◌, ◌∷◌, ◌++◌, List, ℕ, [], drop, length, take, inr, refl, sym, subst, ap, ◌∙◌, arith}
use Rattle.disk_edge.specs.Disk.{written, Same, Tears}
use Rattle.disk_edge.specs.Moments.{AtEachMoment, two_calls}
use Rattle.disk_edge.specs.TornLaws.{torn_same, torn_written, length-written}
use Rattle.journal_core.specs.Fronts.{front_of}
use Rattle.journal_core.specs.Journal.{Rests}
use Rattle.journal_core.specs.Records.{Opens, prefix}
use Rattle.journal_core.specs.Standing.{Standing}
use Rattle.journal_core.specs.declared.format.TheConstants.{OPEN, CLOSED}
use Rattle.journal_core.specs.declared.header.Header.{Header}
use Rattle.compact_core.specs.Carrying.{Carrying}
use Rattle.compact_core.specs.Copies.{Copies, InDoubt, IsCopyOrShut, tail_of}
use Rattle.compact_core.proofs.Gates.{not_open}
use Rattle.compact_core.proofs.Gathering.{still_pending}
use Rattle.compact_core.proofs.Results.{at_failed, at_no_memory}
use Rattle.compact_core.proofs.Tails.{front_tail, sealed_torn, sealed_open, stands_still}
use Rattle.compact_core.proofs.Viewed.{at_view}
use Rattle.compact_core.proofs.Writes.{some_is, told_before, told_written, untold_written}
use Rattle.compact_core.proofs.Wrote.{still_closed}
use Rattle.compact_core.proofs.carry.Carry.finish.Goals as goal

pub returns-in-Err-Failed-clause-sure : goal.returns-in-Err-Failed-clause-sure
returns-in-Err-Failed-clause-sure g c base commits q x i =
    let d = g.D.Disk.model in
    let r = subst (λ (k : Carrying g.row.D.Denot). Copies d k base commits) (sym c.carry.view_is) q in
    not_open r.gate x r.shut
    ((c.seal.ensures.stays r.gate (tail_of c.carry.inside.header base commits) r.gathered r.place).stands.each x i)

pub returns-in-Err-Failed-clause-moments : goal.returns-in-Err-Failed-clause-moments
returns-in-Err-Failed-clause-moments g c base commits q =
    let d = g.D.Disk.model in
    let r = subst (λ (k : Carrying g.row.D.Denot). Copies d k base commits) (sym c.carry.view_is) q in
    at_view d (λ (h : Header). IsCopyOrShut h base commits) _ _ c.seal.new.disk c.carry.view_is
    (λ x m. inr (not_open r.gate x r.shut
    (c.seal.ensures.moments r.gate (tail_of c.carry.inside.header base commits) r.gathered r.place x m)))

pub returns-in-Err-NoMemory-clause-moments : goal.returns-in-Err-NoMemory-clause-moments
returns-in-Err-NoMemory-clause-moments g c base commits q =
    let d = g.D.Disk.model in
    let r = subst (λ (k : Carrying g.row.D.Denot). Copies d k base commits) (sym c.carry.view_is) q in
    at_view d (λ (h : Header). IsCopyOrShut h base commits) _ _ c.seal.new.disk c.carry.view_is
    (λ x m. inr (not_open r.gate x r.shut
    (c.seal.ensures.moments r.gate (tail_of c.carry.inside.header base commits) r.gathered r.place x m)))

pub returns-in-Err-NoMemory-put-clause-memory : goal.returns-in-Err-NoMemory-put-clause-memory
returns-in-Err-NoMemory-put-clause-memory g c base commits q =
    let d = g.D.Disk.model in
    let mid = c.seal.new.disk in
    let new = c.put.new.disk in
    let r = subst (λ (k : Carrying g.row.D.Denot). Copies d k base commits) (sym c.carry.view_is) q in
    let left = c.seal.ensures.stays r.gate (tail_of c.carry.inside.header base commits) r.gathered r.place in
    let none = c.in-Err-NoMemory-put in
    let same = at_no_memory none.field-0 (Same (d.images mid) (d.images new)) none.field-0-is none.ensures.no_memory in
    let still = at_no_memory none.field-0 (d.content new ≡ d.content mid) none.field-0-is
    none.ensures.no_memory_content in
    record {
      gate = r.gate;
      shut = r.shut;
      gathered = still_pending left c.seal.ensures.pending (stands_still left.stands still same.no_more);
      place = r.place;
      bases = r.bases;
      fit = r.fit;
      fit_commits = r.fit_commits;
    }

pub at_gate-requires : goal.at_gate-requires
at_gate-requires g c = record {
  gate = λ k told.
      let d = g.D.Disk.model in
      let mid = c.seal.new.disk in
      let new = c.put.new.disk in
      let becomes = c.in-Ok-put.ensures.content in
      let l = told_before (d.content mid) (d.content new) k
      (untold_written (d.content mid) (d.content new) (written 0 (OPEN ∷ [])) becomes) told in
      let is : written 0 (OPEN ∷ []) l.0 ≡ k = some_is (written 0 (OPEN ∷ []) l.0) k
      (sym (told_written (d.content mid) (d.content new) (written 0 (OPEN ∷ [])) l.0 l.1 becomes) ∙ told) in
      omega (arith, c.in-Ok.ensures.reaches l.0 l.1, length-written 0 (OPEN ∷ []) l.0, ap length is);
  shut = λ k told.
      let d = g.D.Disk.model in
      let mid = c.seal.new.disk in
      let new = c.put.new.disk in
      let becomes = c.in-Ok-put.ensures.content in
      let l = told_before (d.content mid) (d.content new) k
      (untold_written (d.content mid) (d.content new) (written 0 (OPEN ∷ [])) becomes) told in
      let is : written 0 (OPEN ∷ []) l.0 ≡ k = some_is (written 0 (OPEN ∷ []) l.0) k
      (sym (told_written (d.content mid) (d.content new) (written 0 (OPEN ∷ [])) l.0 l.1 becomes) ∙ told) in
      subst (λ (m : List ℕ). take 1 (drop c.carry.inside.place m) ≢ OPEN ∷ []) is
      (still_closed c.carry.inside.place OPEN l.0 (omega arith) (c.in-Ok.ensures.closed l.0 l.1));
}

pub returns-in-Ok-put-clause-ok : goal.returns-in-Ok-put-clause-ok
returns-in-Ok-put-clause-ok g c base commits q =
    let d = g.D.Disk.model in
    let mid = c.seal.new.disk in
    let new = c.put.new.disk in
    let h = c.carry.inside.header in
    let r = subst (λ (k : Carrying g.row.D.Denot). Copies d k base commits) (sym c.carry.view_is) q in
    let s = c.in-Ok.ensures.ok r.gate (tail_of h base commits) r.gathered r.place in
    let l = r.gate ∷ ((tail_of h base commits ++ CLOSED ∷ []) ++ s.rest) in
    let told = told_written (d.content mid) (d.content new) (written 0 (OPEN ∷ [])) l s.is_told
    c.in-Ok-put.ensures.content in
    let only = c.in-Ok-put.ensures.synced (written 0 (OPEN ∷ []) l) told in
    let front = ap (λ (k : Carrying g.row.D.Denot). front_of k.header base) c.carry.view_is in
    subst (λ (j : Standing g.row.D.Denot). Rests d j (front_of c.args.self.header base) commits)
    (sym c.at_gate.ensures) (record {
      told = written 0 (OPEN ∷ []) l;
      is_told = told;
      place = omega (
        arith,
        r.place,
        ap length (front_tail h base commits),
        ap (λ (f : List ℕ). length (prefix f commits)) front,
      );
      each = λ x i. subst (λ (f : List ℕ). Opens f commits x) front (subst (Opens (front_of h base) commits)
          (sym (only.only x i)) (sealed_open h base commits r.gate s.rest r.fit_commits));
    })

pub returns-in-Ok-put-clause-told : goal.returns-in-Ok-put-clause-told
returns-in-Ok-put-clause-told g c l told =
    let d = g.D.Disk.model in
    let mid = c.seal.new.disk in
    let new = c.put.new.disk in
    let k = c.seal.ensures.told l (ap (λ (s : Carrying g.row.D.Denot). d.content s.disk) c.carry.view_is ∙ told) in (
      written 0 (OPEN ∷ []) k.0,
      ap (λ (j : Standing g.row.D.Denot). d.content j.disk) c.at_gate.ensures
          ∙ told_written (d.content mid) (d.content new) (written 0 (OPEN ∷ [])) k.0 k.1
          c.in-Ok-put.ensures.content,
    )

pub returns-in-Ok-put-clause-moments : goal.returns-in-Ok-put-clause-moments
returns-in-Ok-put-clause-moments g c base commits q =
    let d = g.D.Disk.model in
    let old = c.carry.inside.disk in
    let mid = c.seal.new.disk in
    let new = c.put.new.disk in
    let h = c.carry.inside.header in
    let r = subst (λ (k : Carrying g.row.D.Denot). Copies d k base commits) (sym c.carry.view_is) q in
    let s = c.in-Ok.ensures.ok r.gate (tail_of h base commits) r.gathered r.place in
    let e = c.in-Ok.ensures.synced _ s.is_told in
    subst (λ (j : Standing g.row.D.Denot). AtEachMoment d c.args.self.disk j.disk
    (IsCopyOrShut c.args.self.header base commits)) (sym c.at_gate.ensures)
    (at_view d (λ (h : Header). IsCopyOrShut h base commits) _ _ new c.carry.view_is
    (two_calls d old mid new (IsCopyOrShut h base commits) (g.met.D.Disk.parts new)
    c.seal.ensures.past.later c.put.ensures.past
    (λ x m. inr (not_open r.gate x r.shut
    (c.seal.ensures.moments r.gate (tail_of h base commits) r.gathered r.place x m)))
    (λ x m. let t = c.put.ensures.moments x m in
    sealed_torn h base commits r.gate s.rest t.0 x r.fit_commits (e.only t.0 t.1) t.2)))

pub returns-in-Err-NoMemory-put-clause-moments : goal.returns-in-Err-NoMemory-put-clause-moments
returns-in-Err-NoMemory-put-clause-moments g c base commits q =
    let d = g.D.Disk.model in
    let old = c.carry.inside.disk in
    let mid = c.seal.new.disk in
    let new = c.put.new.disk in
    let h = c.carry.inside.header in
    let r = subst (λ (k : Carrying g.row.D.Denot). Copies d k base commits) (sym c.carry.view_is) q in
    let s = c.in-Ok.ensures.ok r.gate (tail_of h base commits) r.gathered r.place in
    let e = c.in-Ok.ensures.synced _ s.is_told in
    at_view d (λ (h : Header). IsCopyOrShut h base commits) _ _ new c.carry.view_is
    (two_calls d old mid new (IsCopyOrShut h base commits) (g.met.D.Disk.parts new)
    c.seal.ensures.past.later c.put.ensures.past
    (λ x m. inr (not_open r.gate x r.shut
    (c.seal.ensures.moments r.gate (tail_of h base commits) r.gathered r.place x m)))
    (λ x m. let t = c.put.ensures.moments x m in
    sealed_torn h base commits r.gate s.rest t.0 x r.fit_commits (e.only t.0 t.1) t.2))

pub returns-in-Err-Failed-put-clause-moments : goal.returns-in-Err-Failed-put-clause-moments
returns-in-Err-Failed-put-clause-moments g c base commits q =
    let d = g.D.Disk.model in
    let old = c.carry.inside.disk in
    let mid = c.seal.new.disk in
    let new = c.put.new.disk in
    let h = c.carry.inside.header in
    let r = subst (λ (k : Carrying g.row.D.Denot). Copies d k base commits) (sym c.carry.view_is) q in
    let s = c.in-Ok.ensures.ok r.gate (tail_of h base commits) r.gathered r.place in
    let e = c.in-Ok.ensures.synced _ s.is_told in
    at_view d (λ (h : Header). IsCopyOrShut h base commits) _ _ new c.carry.view_is
    (two_calls d old mid new (IsCopyOrShut h base commits) (g.met.D.Disk.parts new)
    c.seal.ensures.past.later c.put.ensures.past
    (λ x m. inr (not_open r.gate x r.shut
    (c.seal.ensures.moments r.gate (tail_of h base commits) r.gathered r.place x m)))
    (λ x m. let t = c.put.ensures.moments x m in
    sealed_torn h base commits r.gate s.rest t.0 x r.fit_commits (e.only t.0 t.1) t.2))

pub returns-in-Err-Failed-put-clause-doubt : goal.returns-in-Err-Failed-put-clause-doubt
returns-in-Err-Failed-put-clause-doubt g c base commits q =
    let d = g.D.Disk.model in
    let mid = c.seal.new.disk in
    let new = c.put.new.disk in
    let r = subst (λ (k : Carrying g.row.D.Denot). Copies d k base commits) (sym c.carry.view_is) q in
    let h = c.carry.inside.header in
    let s = c.in-Ok.ensures.ok r.gate (tail_of h base commits) r.gathered r.place in
    let l = r.gate ∷ ((tail_of h base commits ++ CLOSED ∷ []) ++ s.rest) in
    let e = c.in-Ok.ensures.synced l s.is_told in
    let tears = at_failed c.in-Err-Failed-put.field-0 (Tears 0 1 (d.images mid) (d.images new))
    c.in-Err-Failed-put.field-0-is c.in-Err-Failed-put.ensures.failed in
    subst (λ (k : Carrying g.row.D.Denot). InDoubt (d.images new) k.header base commits) c.carry.view_is (record {
      each = λ x i. let t = tears.from x i in
          sealed_torn h base commits r.gate s.rest t.0 x r.fit_commits (e.only t.0 t.1) t.2;
      some = (
        written 0 (OPEN ∷ []) l,
        tears.all (written 0 (OPEN ∷ []) l) l e.is (torn_written 0 (OPEN ∷ []) l),
        sealed_open h base commits r.gate s.rest r.fit_commits,
      );
      not_all = (l, tears.all l l e.is (torn_same 0 1 l), not_open r.gate l r.shut refl);
    })
