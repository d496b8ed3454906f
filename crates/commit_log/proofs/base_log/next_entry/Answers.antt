use Rattle.std.proofs.Common.{◌≡◌, ◌<◌, ◌≤◌, ◌^◌, inl, inr, List, [], ◌∷◌, ◌++◌, length, ℕ, false, true, Option, Some, Vec, IfNone, sym, ◌∙◌, ap, subst, arith, append-nil, append_assoc}
use Rattle.std.specs.declared.alloc.Global.{Global}
use Rattle.disk_edge.specs.Disk.{DiskModel}
use Rattle.journal_core.proofs.FrontLaws.{front_push}
use Rattle.journal_core.specs.Fronts.{front_of}
use Rattle.journal_core.specs.Journal.{Reads}
use Rattle.journal_core.proofs.RecordLaws.{prefix_nil}
use Rattle.journal_core.specs.Records.{IsShort, body}
use Rattle.journal_core.specs.Standing.{Standing}
use Rattle.journal_core.specs.declared.header.Header.{Header}
use Rattle.commit_log.specs.Base.{Follows, UnreadBase}
use Rattle.commit_log.specs.Entry.{Entry, IsInRange, IsNoEntry, entry_of, written}
use Rattle.commit_log.specs.declared.base.BaseEntry.{BaseEntry}
use Rattle.commit_log.proofs.Answered.{on_damaged, same_list}
use Rattle.commit_log.proofs.OneEntry.{is_in_range, one_entry}
use Rattle.commit_log.proofs.base_log.next_entry.Goals as goal

-- no entry that may follow is read from a payload from which none in range is read
none_in_range : (version last : ℕ) (p : List ℕ) → version < 2 ^ 32 → IsNoEntry p → (e : Entry) → Follows version last e
    → p ≡ written e → ⊥
none_in_range version last p fits none e f is = none e (is_in_range version last e fits f) is

-- nor from one that is written for an entry that may not
none_other : (version last : ℕ) (p : List ℕ) (d : Entry) → version < 2 ^ 32 → IsInRange d → p ≡ written d
    → (Follows version last d → ⊥) → (e : Entry) → Follows version last e → p ≡ written e → ⊥
none_other version last p d fits range is not e f same =
    not (subst (Follows version last) (one_entry e d (is_in_range version last e fits f) range (sym same ∙ is)) f)

-- a base record that was read, behind the front before it
unread : {D : Type 0} (model : DiskModel D) (new : Standing D) (h : Header) (last : ℕ) (base : List (List ℕ))
    (p l : List ℕ) → 1 ≤ length p → IsShort p → ((e : Entry) → Follows h.base_version last e → p ≡ written e → ⊥)
    → model.content new.disk ≡ Some l → Reads model new (front_of h (base ++ p ∷ [])) []
    → UnreadBase h.base_version last (front_of h base) l
unread model new h last base p l some short none told r =
    let front = front_of h (base ++ p ∷ []) in
    record {
      payload = p;
      rest = r.tail;
      is = same_list l r.told (sym told ∙ r.is_told) ∙ r.is ∙ ap (λ (f : List ℕ). f ++ r.tail) (prefix_nil front)
          ∙ ap (λ (f : List ℕ). f ++ r.tail) (front_push h base p)
          ∙ append_assoc (front_of h base) (body p) r.tail;
      some = some;
      short = short;
      none = none;
    }

pub returns-in-Err-clause-damaged : goal.returns-in-Err-clause-damaged
returns-in-Err-clause-damaged g c =
    on_damaged (Option (ℕ × Vec ℕ Global)) (Option (ℕ × BaseEntry)) c.in-Err.fault _ _ (λ at h base q. (
      h.0 ∙ q.place ∙ ap length (prefix_nil (front_of c.args.journal.now.header base)),
      λ l told. inl (h.1 (front_of c.args.journal.now.header base) q l told),
    )) c.in-Err.ensures.damaged

pub returns-in-Err-clause-stands : goal.returns-in-Err-clause-stands
returns-in-Err-clause-stands g c base q =
    let h = c.args.journal.now.header in (
      [],
      subst (λ (b : List (List ℕ)). Reads g.D.Disk.model c.next_base.new.self (front_of h b) []) (sym (append-nil base))
          (c.in-Err.ensures.still_reads (front_of h base) q),
    )

pub returns-in-Ok-Some-decode_base-clause-damaged : goal.returns-in-Ok-Some-decode_base-clause-damaged
returns-in-Ok-Some-decode_base-clause-damaged g c base q =
    let d = g.D.Disk.model in
    let h = c.args.journal.now.header in
    let found = c.in-Ok-Some.ensures in
    let p = c.in-Ok-Some.record.1.items in
    let facts = rw c.in-Ok-Some.field-0-is at found.record in
    let reads = rw c.in-Ok-Some.field-0-is at found.reads in
    let version : c.header-version.result.base_version ≡ h.base_version = ap (λ (k : Header). k.base_version)
    c.header-version.ensures in
    let fits : h.base_version < 2 ^ 32 = omega (arith, version) in
    let entry = entry_of c.in-Ok-Some-decode_base.entry in
    let some = rw c.in-Ok-Some-decode_base.field-0-is at c.in-Ok-Some-decode_base.ensures.some in
    let is : p ≡ written entry = sym c.deref.ensures.value ∙ some.1 in
    let not : Follows h.base_version c.args.last entry → ⊥ = λ f. absurd (none
    (sym (c.follows.ensures.no (subst (λ (v : ℕ). Follows v c.args.last entry) (sym version) f))
    ∙ c.if-follows.false)) in (
      facts.0 ∙ q.place ∙ ap length (prefix_nil (front_of h base)),
      λ l told. inr (unread d c.next_base.new.self h c.args.last base p l facts.2 facts.1
          (none_other h.base_version c.args.last p entry fits some.0 is not) (found.looks.narrows.same ∙ told)
          (reads base q)),
    )
  where
    none : true ≡ false → ⊥
    none e = cc e

pub returns-in-Ok-None-decode_base-clause-damaged : goal.returns-in-Ok-None-decode_base-clause-damaged
returns-in-Ok-None-decode_base-clause-damaged g c base q =
    let d = g.D.Disk.model in
    let h = c.args.journal.now.header in
    let found = c.in-Ok-Some.ensures in
    let p = c.in-Ok-Some.record.1.items in
    let facts = rw c.in-Ok-Some.field-0-is at found.record in
    let reads = rw c.in-Ok-Some.field-0-is at found.reads in
    let version : c.header-version.result.base_version ≡ h.base_version = ap (λ (k : Header). k.base_version)
    c.header-version.ensures in
    let fits : h.base_version < 2 ^ 32 = omega (arith, version) in
    let no_entry : IsNoEntry p = subst IsNoEntry c.deref.ensures.value
    (subst (λ (o : Option BaseEntry). IfNone o (IsNoEntry c.deref.result.now)) c.in-Ok-None-decode_base.field-0-is
    c.in-Ok-None-decode_base.ensures.none) in (
      facts.0 ∙ q.place ∙ ap length (prefix_nil (front_of h base)),
      λ l told. inr (unread d c.next_base.new.self h c.args.last base p l facts.2 facts.1
          (none_in_range h.base_version c.args.last p fits no_entry) (found.looks.narrows.same ∙ told) (reads base q)),
    )
