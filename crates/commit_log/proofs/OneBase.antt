-- Bytes have one base, or are damaged in it at one place.
use Rattle.std.proofs.Common.{◌≡◌, ◌⊎◌, inl, inr, ⊎_elim, ◌<◌, ◌^◌, ℕ, List, [], ◌∷◌, ◌++◌, length, drop, refl, sym, ◌∙◌, ap, subst, arith, append_assoc}
use Rattle.std.proofs.lemmas.List.{drop_at}
use Rattle.journal_core.specs.Fronts.{BreaksBase, IsHeader, base_records, behind_gate, front_of}
use Rattle.journal_core.proofs.RecordLaws.{same_body}
use Rattle.journal_core.specs.Records.{IsShort, body}
use Rattle.journal_core.specs.declared.format.TheConstants.{OPEN}
use Rattle.journal_core.specs.declared.header.Header.{Header}
use Rattle.commit_log.specs.Base.{AreEntries, DamagesBase, Follows, HasBase, UnreadBase, base_payloads, last_id}
use Rattle.commit_log.specs.Entry.{Entry, written}
use Rattle.commit_log.proofs.OneEntry.{is_in_range, one_entry}

-- one entry more stands at the front of these bytes, which may follow an identifier
record Further (version last : ℕ) (bytes : List ℕ) : Type 0 where
  e : Entry
  rest : List ℕ
  follows : Follows version last e
  short : IsShort (written e)
  is : bytes ≡ body (written e) ++ rest

-- of two rows of entries at the front of the same bytes, one begins the other
abbrev Aligned : ℕ → ℕ → List Entry → List Entry → List ℕ → List ℕ → Type 0
Aligned version last es fs t u = (es ≡ fs)
    ⊎ ((Further version (last_id last es) t × (length es < length fs))
    ⊎ (Further version (last_id last fs) u × (length fs < length es)))

further : (version last : ℕ) (e : Entry) (es : List Entry) (t u : List ℕ) → AreEntries version last (e ∷ es)
    → t ≡ base_records (base_payloads (e ∷ es)) ++ u → Further version last t
further version last e es t u all is = record {
  e = e;
  rest = base_records (base_payloads es) ++ u;
  follows = all.0;
  short = all.1;
  is = is ∙ append_assoc (body (written e)) (base_records (base_payloads es)) u;
}

behind_first : (version last : ℕ) (e f : Entry) (es fs : List Entry) (t u : List ℕ) → e ≡ f
    → Aligned version e.id es fs t u → Aligned version last (e ∷ es) (f ∷ fs) t u
behind_first version last e f es fs t u same (inl rest) = inl (λ i. same i ∷ rest i)
behind_first version last e f es fs t u same (inr (inl more)) = inr (inl (more.0, omega (arith, more.1)))
behind_first version last e f es fs t u same (inr (inr more)) = inr (inr (
  subst (λ (g : Entry). Further version (last_id g.id fs) u) same more.0,
  omega (arith, more.1),
))

aligned : (version last : ℕ) (es fs : List Entry) (t u : List ℕ) → version < 2 ^ 32 → AreEntries version last es
    → AreEntries version last fs → base_records (base_payloads es) ++ t ≡ base_records (base_payloads fs) ++ u
    → Aligned version last es fs t u
aligned version last [] [] t u fits p q is = inl refl
aligned version last [] (f ∷ fs) t u fits p q is =
    inr (inl (further version last f fs t u q is, omega arith))
aligned version last (e ∷ es) [] t u fits p q is =
    inr (inr (further version last e es u t p (sym is), omega arith))
aligned version last (e ∷ es) (f ∷ fs) t u fits p q is =
    let same = same_body (written e) (written f) (base_records (base_payloads es) ++ t)
    (base_records (base_payloads fs) ++ u) p.1 q.1
    (sym (append_assoc (body (written e)) (base_records (base_payloads es)) t) ∙ is
    ∙ append_assoc (body (written f)) (base_records (base_payloads fs)) u) in
    let first : e ≡ f = one_entry e f (is_in_range version last e fits p.0) (is_in_range version last f fits q.0)
    same.0 in
    behind_first version last e f es fs t u first (aligned version e.id es fs t u fits p.2
    (subst (λ (g : Entry). AreEntries version g.id fs) (sym first) q.2) same.1)

-- the base records of bytes behind their header
behind_header : (h : Header) (es : List Entry) (t bytes : List ℕ) → bytes ≡ front_of h (base_payloads es) ++ t
    → drop 20 bytes ≡ base_records (base_payloads es) ++ t
unfolding front_of
behind_header h es t bytes is = ap (λ (l : List ℕ). drop 20 l)
    (is ∙ append_assoc (OPEN ∷ behind_gate h) (base_records (base_payloads es)) t)
    ∙ drop_at (OPEN ∷ behind_gate h) (base_records (base_payloads es) ++ t) 20 refl

same_bytes : (h : Header) (es fs : List Entry) (t u bytes : List ℕ) → IsHeader h
    → AreEntries h.base_version 0 es → AreEntries h.base_version 0 fs
    → bytes ≡ front_of h (base_payloads es) ++ t → bytes ≡ front_of h (base_payloads fs) ++ u
    → Aligned h.base_version 0 es fs t u
same_bytes h es fs t u bytes range p q is also = aligned h.base_version 0 es fs t u range.base_version p q
    (sym (behind_header h es t bytes is) ∙ behind_header h fs u bytes also)

-- what stands behind entries that no entry follows
record Halts (h : Header) (es : List Entry) (bytes : List ℕ) : Type 0 where
  tail : List ℕ
  is : bytes ≡ front_of h (base_payloads es) ++ tail
  halts : Further h.base_version (last_id 0 es) tail → ⊥

halts_at : (h : Header) (left at : ℕ) (bytes : List ℕ) (d : DamagesBase h [] left at bytes) → Halts h d.entries bytes
halts_at h left at bytes d = ⊎_elim
    (λ (b : BreaksBase (front_of h (base_payloads d.entries)) bytes). record {
      tail = b.tail;
      is = b.is;
      halts = λ f. b.broken (written f.e) f.rest (omega arith) f.short f.is;
    })
    (λ (u : UnreadBase h.base_version (last_id 0 d.entries) (front_of h (base_payloads d.entries)) bytes). record {
      tail = body u.payload ++ u.rest;
      is = u.is;
      halts = λ f. u.none f.e f.follows (same_body u.payload (written f.e) u.rest f.rest u.short f.short f.is).0;
    })
    d.damage

pub one_base : (h : Header) (es fs : List Entry) (bytes : List ℕ) → IsHeader h → HasBase h es bytes
    → HasBase h fs bytes → es ≡ fs
one_base h es fs bytes range a b = elim (same_bytes h es fs a.rest b.rest bytes range a.are b.are a.is b.is) [
  | inl same ↦ same
  | inr other ↦ absurd (⊎_elim
      (λ (m : Further h.base_version (last_id 0 es) a.rest × (length es < length fs)).
      omega (arith, m.1, a.count, b.count))
      (λ (m : Further h.base_version (last_id 0 fs) b.rest × (length fs < length es)).
      omega (arith, m.1, a.count, b.count)) other)
]

pub one_damage : (h : Header) (left a b : ℕ) (bytes : List ℕ) → IsHeader h → DamagesBase h [] left a bytes
    → DamagesBase h [] left b bytes → a ≡ b
one_damage h left a b bytes range d e =
    let s = halts_at h left a bytes d in
    let t = halts_at h left b bytes e in
    elim (same_bytes h d.entries e.entries s.tail t.tail bytes range d.are e.are s.is t.is) [
      | inl same ↦ d.place ∙ ap (λ (es : List Entry). length (front_of h (base_payloads es))) same ∙ sym e.place
      | inr other ↦ absurd (⊎_elim
          (λ (m : Further h.base_version (last_id 0 d.entries) s.tail × (length d.entries < length e.entries)).
          s.halts m.0)
          (λ (m : Further h.base_version (last_id 0 e.entries) t.tail × (length e.entries < length d.entries)).
          t.halts m.0) other)
    ]

pub base_or_damage : (h : Header) (es : List Entry) (at : ℕ) (bytes : List ℕ) → IsHeader h → HasBase h es bytes
    → DamagesBase h [] h.base_count at bytes → ⊥
base_or_damage h es at bytes range a d =
    let s = halts_at h h.base_count at bytes d in
    elim (same_bytes h es d.entries a.rest s.tail bytes range a.are d.are a.is s.is) [
      | inl same ↦ omega (arith, d.few, a.count, ap (λ (l : List Entry). length l) same)
      | inr other ↦ ⊎_elim
          (λ (m : Further h.base_version (last_id 0 es) a.rest × (length es < length d.entries)).
          omega (arith, m.1, a.count, d.few))
          (λ (m : Further h.base_version (last_id 0 d.entries) s.tail × (length d.entries < length es)).
          s.halts m.0) other
    ]
