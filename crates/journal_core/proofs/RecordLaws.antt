-- Laws of opening bytes. For callers.
use Rattle.std.proofs.Common.{◌≡◌, ◌≢◌, ◌⊎◌, inl, inr, ⊎_elim, ℕ, ◌+◌, take, drop, List, [], ◌∷◌, ◌++◌, length, refl, sym, ◌∙◌, ap, arith, append_assoc, length-append}
use Rattle.std.proofs.lemmas.List.{append-nil, take_at, drop_at}
use Rattle.std.proofs.lemmas.Bool.{cases_eq}
use Rattle.std.proofs.lemmas.Nat.{from_le_bytes-to_le_bytes_4}
use Rattle.std.specs.Int.{to_le_bytes, from_le_bytes, w32}
use Rattle.std.specs.List.{AllByRecursion}
use Rattle.journal_core.specs.Records.{IsShort, header, body, records, prefix, text, Opens, IsBroken, Breaks, IsNoJournal, Staged, BeforeOrAfter}
use Rattle.journal_core.specs.declared.format.TheConstants.{OPEN, CLOSED}

length-body : (payload : List ℕ) → length (body payload) ≡ 4 + length payload
length-body payload = length-append (to_le_bytes w32 (length payload)) payload

records_push : (payloads : List (List ℕ)) (payload rest : List ℕ) → records (payloads ++ payload ∷ []) ++ rest
    ≡ records payloads ++ OPEN ∷ (body payload ++ rest)
records_push [] payload rest = ap (λ (l : List ℕ). OPEN ∷ (l ++ rest)) (append-nil (body payload))
records_push (p ∷ payloads) payload rest = ap (λ (l : List ℕ). OPEN ∷ l)
    (append_assoc (body p) (records (payloads ++ payload ∷ [])) rest
    ∙ ap (λ (l : List ℕ). body p ++ l) (records_push payloads payload rest)
    ∙ sym (append_assoc (body p) (records payloads) (OPEN ∷ (body payload ++ rest))))

-- one record more
pub prefix_push : (front : List ℕ) (payloads : List (List ℕ)) (payload rest : List ℕ)
    → prefix front (payloads ++ payload ∷ []) ++ rest ≡ prefix front payloads ++ OPEN ∷ (body payload ++ rest)
unfolding prefix
prefix_push front payloads payload rest =
    append_assoc front (records (payloads ++ payload ∷ [])) rest
    ∙ ap (λ (l : List ℕ). front ++ l) (records_push payloads payload rest)
    ∙ sym (append_assoc front (records payloads) (OPEN ∷ (body payload ++ rest)))

pub length-prefix_push : (front : List ℕ) (payloads : List (List ℕ)) (payload : List ℕ)
    → length (prefix front (payloads ++ payload ∷ [])) ≡ length (prefix front payloads) + 5 + length payload
length-prefix_push front payloads payload =
    let same : prefix front (payloads ++ payload ∷ []) ≡ prefix front payloads ++ OPEN ∷ (body payload ++ []) =
    sym (append-nil (prefix front (payloads ++ payload ∷ []))) ∙ prefix_push front payloads payload [] in
    omega (
      arith,
      ap length same,
      length-append (prefix front payloads) (OPEN ∷ (body payload ++ [])),
      length-append (body payload) [],
      length-body payload,
    )

pub prefix_nil : (front : List ℕ) → prefix front [] ≡ front
unfolding prefix
prefix_nil front = append-nil front

pub all_short : (payloads : List (List ℕ)) (payload : List ℕ) → AllByRecursion IsShort payloads → IsShort payload
    → AllByRecursion IsShort (payloads ++ payload ∷ [])
all_short [] payload fit few = (few, tt)
all_short (p ∷ payloads) payload fit few = (fit.0, all_short payloads payload fit.1 few)

-- two records at the front of the same bytes have payloads of one length
same_length : (p q rest rest' : List ℕ) → IsShort p → IsShort q → body p ++ rest ≡ body q ++ rest' → length p ≡ length q
same_length p q rest rest' fit fit' is =
    let fields : to_le_bytes w32 (length p) ≡ to_le_bytes w32 (length q) =
    sym (take_at (to_le_bytes w32 (length p)) (p ++ rest) 4 refl)
    ∙ ap (λ (l : List ℕ). take 4 l) (sym (append_assoc (to_le_bytes w32 (length p)) p rest) ∙ is
    ∙ append_assoc (to_le_bytes w32 (length q)) q rest')
    ∙ take_at (to_le_bytes w32 (length q)) (q ++ rest') 4 refl in
    sym (from_le_bytes-to_le_bytes_4 (length p) (omega (arith, fit))) ∙ ap (λ (l : List ℕ). from_le_bytes w32 l) fields
    ∙ from_le_bytes-to_le_bytes_4 (length q) (omega (arith, fit'))

pub same_body : (p q rest rest' : List ℕ) → IsShort p → IsShort q → body p ++ rest ≡ body q ++ rest' → (p ≡ q)
    × (rest ≡ rest')
same_body p q rest rest' fit fit' is =
    let len = same_length p q rest rest' fit fit' is in
    let behind : p ++ rest ≡ q ++ rest' =
    sym (drop_at (to_le_bytes w32 (length p)) (p ++ rest) 4 refl)
    ∙ ap (λ (l : List ℕ). drop 4 l) (sym (append_assoc (to_le_bytes w32 (length p)) p rest) ∙ is
    ∙ append_assoc (to_le_bytes w32 (length q)) q rest')
    ∙ drop_at (to_le_bytes w32 (length q)) (q ++ rest') 4 refl in (
      sym (take_at p rest (length p) refl) ∙ ap (λ (l : List ℕ). take (length p) l) behind
          ∙ take_at q rest' (length p) (sym len),
      sym (drop_at p rest (length p) refl) ∙ ap (λ (l : List ℕ). drop (length p) l) behind
          ∙ drop_at q rest' (length p) (sym len),
    )

same_tail : (a b : ℕ) (xs ys : List ℕ) → a ∷ xs ≡ b ∷ ys → xs ≡ ys
same_tail a b xs ys is = cc is

same_head : (a b : ℕ) (xs ys : List ℕ) → a ∷ xs ≡ b ∷ ys → a ≡ b
same_head a b xs ys is = cc is

-- Records go on: after `ps` the bytes begin with one more record, and so does the longer list `qs`.
pub record GoesOn (ps qs : List (List ℕ)) (bytes : List ℕ) : Type 0 where
  pub payload : List ℕ
  pub rest : List ℕ
  pub more : List (List ℕ)
  pub is : bytes ≡ OPEN ∷ (body payload ++ rest)
  pub short : IsShort payload
  pub longer : qs ≡ ps ++ payload ∷ more

abbrev Compared : List (List ℕ) → List (List ℕ) → List ℕ → List ℕ → Type 0
Compared ps qs t u = ((ps ≡ qs) × (t ≡ u)) ⊎ (GoesOn ps qs t ⊎ GoesOn qs ps u)

later : (p q : List ℕ) (ps qs : List (List ℕ)) (t : List ℕ) → p ≡ q → GoesOn ps qs t → GoesOn (p ∷ ps) (q ∷ qs) t
later p q ps qs t same on = record {
  payload = on.payload;
  rest = on.rest;
  more = on.more;
  is = on.is;
  short = on.short;
  longer = λ i. sym same i ∷ on.longer i;
}

compare_records : (ps qs : List (List ℕ)) (t u : List ℕ) → AllByRecursion IsShort ps → AllByRecursion IsShort qs
    → records ps ++ t ≡ records qs ++ u → Compared ps qs t u
compare_records [] [] t u fp fq is = inl (refl, is)
compare_records [] (q ∷ qs) t u fp fq is = inr (inl (record {
  payload = q;
  rest = records qs ++ u;
  more = qs;
  is = is ∙ ap (λ (l : List ℕ). OPEN ∷ l) (append_assoc (body q) (records qs) u);
  short = fq.0;
  longer = refl;
}))
compare_records (p ∷ ps) [] t u fp fq is = inr (inr (record {
  payload = p;
  rest = records ps ++ t;
  more = ps;
  is = sym is ∙ ap (λ (l : List ℕ). OPEN ∷ l) (append_assoc (body p) (records ps) t);
  short = fp.0;
  longer = refl;
}))
compare_records (p ∷ ps) (q ∷ qs) t u fp fq is =
    let behind = same_tail OPEN OPEN ((body p ++ records ps) ++ t) ((body q ++ records qs) ++ u) is in
    let same = same_body p q (records ps ++ t) (records qs ++ u) fp.0 fq.0 (sym (append_assoc (body p) (records ps) t)
    ∙ behind ∙ append_assoc (body q) (records qs) u) in
    elim (compare_records ps qs t u fp.1 fq.1 same.1) [
      | inl rest ↦ inl ((λ i. same.0 i ∷ rest.0 i), rest.1)
      | inr on ↦ inr (⊎_elim (λ x. inl (later p q ps qs t same.0 x)) (λ y. inr (later q p qs ps u (sym same.0) y)) on)
    ]

-- Two readings of the same bytes are one, or one of them goes on.
pub compare : (front : List ℕ) (ps qs : List (List ℕ)) (t u : List ℕ) → AllByRecursion IsShort ps
    → AllByRecursion IsShort qs
    → prefix front ps ++ t ≡ prefix front qs ++ u → Compared ps qs t u
unfolding prefix
compare front ps qs t u fp fq is =
    let behind : records ps ++ t ≡ records qs ++ u =
    sym (drop_at front (records ps ++ t) (length front) refl)
    ∙ ap (λ (l : List ℕ). drop (length front) l) (sym (append_assoc front (records ps) t) ∙ is
    ∙ append_assoc front (records qs) u) ∙ drop_at front (records qs ++ u) (length front) refl in
    compare_records ps qs t u fp fq behind

-- no record is at the front of these bytes
unfoldable pub NoRecord : List ℕ → Type 0
NoRecord bytes = (ps qs : List (List ℕ)) → GoesOn ps qs bytes → ⊥

unique_prefix : (front : List ℕ) (ps qs : List (List ℕ)) (t u : List ℕ) → AllByRecursion IsShort ps
    → AllByRecursion IsShort qs
    → NoRecord t → NoRecord u
    → prefix front ps ++ t ≡ prefix front qs ++ u → (ps ≡ qs) × (t ≡ u)
unfolding NoRecord
unique_prefix front ps qs t u fp fq nt nu is = ⊎_elim (λ same. same) (λ on. absurd (⊎_elim (nt ps qs) (nu qs ps) on))
    (compare front ps qs t u fp fq is)

pub shut_none : (gate : ℕ) (rest : List ℕ) → gate ≢ OPEN → NoRecord (gate ∷ rest)
unfolding NoRecord
shut_none gate rest shut ps qs on = shut (same_head gate OPEN rest (body on.payload ++ on.rest) on.is)

pub broken_none : (tail : List ℕ) → IsBroken tail → NoRecord tail
unfolding NoRecord
broken_none [] broken ps qs on = cc on.is
broken_none (gate ∷ rest) broken ps qs on =
    broken.1 on.payload on.rest on.short (same_tail gate OPEN rest (body on.payload ++ on.rest) on.is)

-- if one reading has no record after it, the other reading goes on to there
pub leads_to : (front : List ℕ) (ps qs : List (List ℕ)) (t u : List ℕ) → AllByRecursion IsShort ps
    → AllByRecursion IsShort qs
    → NoRecord u → prefix front ps ++ t ≡ prefix front qs ++ u
    → ((ps ≡ qs) × (t ≡ u)) ⊎ GoesOn ps qs t
unfolding NoRecord
leads_to front ps qs t u fp fq nu is = ⊎_elim (λ same. inl same)
    (λ on. ⊎_elim (λ x. inr x) (λ y. absurd (nu qs ps y)) on)
    (compare front ps qs t u fp fq is)

pub one_list : (front : List ℕ) (ps qs : List (List ℕ)) (bytes : List ℕ) → Opens front ps bytes → Opens front qs bytes
    → ps ≡ qs
one_list front ps qs bytes o r = (unique_prefix front ps qs (o.gate ∷ o.rest) (r.gate ∷ r.rest) o.fit r.fit
    (shut_none o.gate o.rest o.shut) (shut_none r.gate r.rest r.shut) (sym o.is ∙ r.is)).0

pub one_break : (front : List ℕ) (ps qs : List (List ℕ)) (bytes : List ℕ) → Breaks front ps bytes
    → Breaks front qs bytes → ps ≡ qs
one_break front ps qs bytes o r = (unique_prefix front ps qs o.tail r.tail o.fit r.fit (broken_none o.tail o.broken)
    (broken_none r.tail r.broken) (sym o.is ∙ r.is)).0

not_broken : (gate : ℕ) (rest tail : List ℕ) → gate ≢ OPEN → gate ∷ rest ≡ tail → IsBroken tail → ⊥
not_broken gate rest [] shut is broken = cc is
not_broken gate rest (g ∷ r) shut is broken = shut (same_head gate g rest r is ∙ broken.0)

pub not_both : (front : List ℕ) (ps qs : List (List ℕ)) (bytes : List ℕ) → Opens front ps bytes
    → Breaks front qs bytes → ⊥
not_both front ps qs bytes o r =
    not_broken o.gate o.rest r.tail o.shut (unique_prefix front ps qs (o.gate ∷ o.rest) r.tail o.fit r.fit
    (shut_none o.gate o.rest o.shut) (broken_none r.tail r.broken) (sym o.is ∙ r.is)).1 r.broken

has_header : (ps : List (List ℕ)) (tail bytes : List ℕ) → bytes ≡ prefix header ps ++ tail → IsNoJournal bytes → ⊥
unfolding prefix
has_header ps tail bytes is none = none (records ps ++ tail) (is ∙ append_assoc header (records ps) tail)

pub opens_header : (ps : List (List ℕ)) (bytes : List ℕ) → Opens header ps bytes → IsNoJournal bytes → ⊥
opens_header ps bytes o = has_header ps (o.gate ∷ o.rest) bytes o.is

pub breaks_header : (ps : List (List ℕ)) (bytes : List ℕ) → Breaks header ps bytes → IsNoJournal bytes → ⊥
breaks_header ps bytes o = has_header ps o.tail bytes o.is

pub text_opens : (front : List ℕ) (ps : List (List ℕ)) (rest : List ℕ) → AllByRecursion IsShort ps
    → Opens front ps (text front ps ++ rest)
text_opens front ps rest fit = record {
  gate = CLOSED;
  rest = rest;
  is = append_assoc (prefix front ps) (CLOSED ∷ []) rest;
  shut =
      λ e. omega (arith, e);
  fit = fit;
}

longer : (ps : List (List ℕ)) (p : List ℕ) → ps ≡ ps ++ p ∷ [] → ⊥
longer ps p is = omega (arith, ap (λ (l : List (List ℕ)). length l) is, length-append ps (p ∷ []))

-- bytes that open to payloads do not open to these and one more
pub never_both : (front : List ℕ) (ps : List (List ℕ)) (p bytes : List ℕ) → Opens front ps bytes
    → Opens front (ps ++ p ∷ []) bytes → ⊥
never_both front ps p bytes o r = longer ps p (one_list front ps (ps ++ p ∷ []) bytes o r)

module _ (front : List ℕ) (payloads : List (List ℕ)) where
  -- after an open gate the record counts
  pub opened : (payload bytes rest : List ℕ) → AllByRecursion IsShort payloads → IsShort payload
      → bytes ≡ prefix front payloads ++ OPEN ∷ (body payload ++ CLOSED ∷ rest)
      → Opens front (payloads ++ payload ∷ []) bytes
  opened payload bytes rest fit few is = record {
    gate = CLOSED;
    rest = rest;
    fit = all_short payloads payload fit few;
    is = is ∙ sym (prefix_push front payloads payload (CLOSED ∷ rest));
    shut = λ e. omega (arith, e);
  }

  pub before_or_after : (payload bytes : List ℕ) → Staged front payloads payload bytes
      → BeforeOrAfter front payloads payload bytes
  before_or_after payload bytes e = elim (cases_eq e.gate OPEN) [
    | inl is_open ↦ inr (opened payload bytes e.rest e.fit e.few (e.is
        ∙ ap (λ (b : ℕ). prefix front payloads ++ b ∷ (body payload ++ CLOSED ∷ e.rest)) is_open))
    | inr shut ↦ inl (record {
      gate = e.gate;
      rest = body payload ++ CLOSED ∷ e.rest;
      is = e.is;
      shut = shut;
      fit =
          e.fit;
    })
  ]
