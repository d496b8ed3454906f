use Rattle.std.proofs.Common.{Vec, ◌≡◌, ◌⊎◌, ◌+◌, ℕ, List, [], ◌∷◌, ◌++◌, length, Option, sym, ◌∙◌, ap, subst, append_assoc, length-append, arith}
use Rattle.std.proofs.lemmas.List.{length-map}
use Rattle.std.specs.declared.alloc.Global.{Global}
use Rattle.journal_core.specs.Fronts.{BreaksBase, front_of}
use Rattle.journal_core.specs.Journal.{Reads}
use Rattle.journal_core.proofs.LookLaws.{looks_twice}
use Rattle.journal_core.specs.declared.header.Header.{Header}
use Rattle.commit_log.specs.Base.{Follows, TakesBase, UnreadBase, base_payloads, entries_of, last_id}
use Rattle.commit_log.specs.Entry.{Entry, entry_of, written}
use Rattle.commit_log.specs.declared.base.BaseEntry.{BaseEntry}
use Rattle.commit_log.proofs.Answered.{on_damaged, on_err}
use Rattle.commit_log.proofs.BaseTaken.{entries_push, last_push, payloads_push, takes_more}
use Rattle.commit_log.proofs.base_log.read_base.Goals as goal

pub loop-at-preserved : goal.loop-at-preserved
loop-at-preserved g c =
    let d = g.D.Disk.model in
    let was = c.loop-at.invariant in
    let h = c.args.journal.now.header in
    let found = c.loop-at.found.items in
    let one : ℕ × BaseEntry = (c.in-Ok-Some.at, c.in-Ok-Some.entry) in
    let e = entry_of c.in-Ok-Some.entry in
    let new = c.next_entry.new.journal in
    let items : c.push.new.self.items ≡ found ++ one ∷ [] = c.in_ok-push-in-Ok-Some.ensures.items in
    let facts = rw c.in-Ok-Some.field-0-is at c.in-Ok-Some.ensures.entry in
    let read = rw c.in-Ok-Some.field-0-is at c.in-Ok-Some.ensures.reads in
    let follows : Follows h.base_version (last_id 0 (entries_of found)) e =
    subst (λ (n : ℕ). Follows h.base_version n e) was.last
    (subst (λ (k : Header). Follows k.base_version c.loop-at.last e) was.header facts.1) in
    let place : new.place ≡ c.loop-at.journal.place + 4 + length (written e) =
    facts.3 ∙ ap (λ (n : ℕ). n + 4 + length (written e)) facts.0 in
    let same : base_payloads (entries_of found) ++ written e ∷ [] ≡ base_payloads (entries_of c.push.new.self.items) =
    sym (payloads_push (entries_of found) e) ∙ ap (λ (es : List Entry). base_payloads es) (sym (entries_push found one))
    ∙ ap (λ (l : List (ℕ × BaseEntry)). base_payloads (entries_of l)) (sym items) in
    record {
      settled = c.in-Ok-Some.ensures.settled;
      header = c.in-Ok-Some.ensures.header ∙ was.header;
      takes = subst (λ (l : List (ℕ × BaseEntry)). TakesBase h.base_version c.args.journal.now.place l new.place)
          (sym items)
          (subst (λ (n : ℕ). TakesBase h.base_version c.args.journal.now.place (found ++ one ∷ []) n) (sym place)
          (takes_more h.base_version c.args.journal.now.place c.loop-at.journal.place found one was.takes facts.0
          follows
          facts.2));
      last = sym (last_push 0 (entries_of found) e)
          ∙ ap (λ (es : List Entry). last_id 0 es) (sym (entries_push found one))
          ∙ ap (λ (l : List (ℕ × BaseEntry)). last_id 0 (entries_of l)) (sym items);
      count = omega (arith, ap length items, length-append found (one ∷ []), facts.4, was.count);
      none = λ zero. absurd (omega (arith, zero, was.count, facts.4));
      reads = λ before q.
          let at = subst (λ (k : Header). Reads d c.loop-at.journal
          (front_of k (before ++ base_payloads (entries_of found))) []) (sym was.header) (was.reads before q) in
          let next = subst (λ (k : Header). Reads d new
          (front_of k ((before ++ base_payloads (entries_of found)) ++ written e ∷ [])) []) was.header
          (read (before ++ base_payloads (entries_of found)) at) in
          subst (λ (ps : List (List ℕ)). Reads d new (front_of h ps) [])
          (append_assoc before (base_payloads (entries_of found)) (written e ∷ [])
          ∙ ap (λ (ps : List (List ℕ)). before ++ ps) same) next;
      looks = looks_twice d g.met.D.Disk.parts c.args.journal.now.disk c.loop-at.journal.disk new.disk was.looks
          c.in-Ok-Some.ensures.looks;
    }

-- the journal stands behind the entries that were taken, and the one that found no room
pub returns-in_err-push-in-Ok-Some-clause-stands : goal.returns-in_err-push-in-Ok-Some-clause-stands
returns-in_err-push-in-Ok-Some-clause-stands g c =
    on_err c.from_residual.result _ (λ before q.
    let d = g.D.Disk.model in
    let was = c.loop-at.invariant in
    let h = c.args.journal.now.header in
    let taken = base_payloads (entries_of c.loop-at.found.items) in
    let e = entry_of c.in-Ok-Some.entry in
    let read = rw c.in-Ok-Some.field-0-is at c.in-Ok-Some.ensures.reads in
    let at = subst (λ (k : Header). Reads d c.loop-at.journal (front_of k (before ++ taken)) []) (sym was.header)
    (was.reads before q) in
    let next = subst (λ (k : Header). Reads d c.next_entry.new.journal
    (front_of k ((before ++ taken) ++ written e ∷ [])) []) was.header (read (before ++ taken) at) in (
      taken ++ written e ∷ [],
      subst (λ (ps : List (List ℕ)). Reads d c.next_entry.new.journal (front_of h ps) [])
          (append_assoc before taken (written e ∷ [])) next,
    ))

pub returns-in_err-push-in-Ok-Some-clause-looks : goal.returns-in_err-push-in-Ok-Some-clause-looks
returns-in_err-push-in-Ok-Some-clause-looks g c =
    looks_twice g.D.Disk.model g.met.D.Disk.parts c.args.journal.now.disk c.loop-at.journal.disk
    c.next_entry.new.journal.disk c.loop-at.invariant.looks c.in-Ok-Some.ensures.looks

pub returns-in-Err-clause-damaged : goal.returns-in-Err-clause-damaged
returns-in-Err-clause-damaged g c =
    let was = c.loop-at.invariant in
    let h = c.args.journal.now.header in
    let entries = entries_of c.loop-at.found.items in
    on_damaged (Option (ℕ × BaseEntry)) (Vec (ℕ × BaseEntry) Global) c.in-Err.fault _ _ (λ at damage before q l told.
    let base = before ++ base_payloads entries in
    let there = subst (λ (k : Header). Reads g.D.Disk.model c.loop-at.journal (front_of k base) []) (sym was.header)
    (was.reads before q) in
    let here = damage base there in
    let found = here.1 l (was.looks.narrows.same ∙ told) in
    record {
      entries = entries;
      are = was.takes.entries;
      few = omega (
        arith,
        was.count,
        c.in-Err.ensures.some_left,
        length-map c.loop-at.found.items (λ (o : ℕ × BaseEntry). entry_of o.1),
      );
      place = here.0 ∙ ap (λ (k : Header). length (front_of k base)) was.header;
      damage = subst (λ (n : ℕ). BreaksBase (front_of h base) l ⊎ UnreadBase h.base_version n (front_of h base) l)
          was.last (subst (λ (k : Header). BreaksBase (front_of k base) l
          ⊎ UnreadBase k.base_version c.loop-at.last (front_of k base) l) was.header found);
    }) c.in-Err.ensures.damaged
