-- What stands in front of the commits of an open disk is one header and one base.
use Rattle.std.proofs.Common.{◌≡◌, ◌⊎◌, ◌<◌, ◌^◌, ◌++◌, ◌∙◌, ap, append_assoc, arith, inl, inr, length, List, [], ◌∷◌, refl, Some, sym, subst, take, ℕ}
use Rattle.std.proofs.lemmas.List.{append-nil, length-map, take_at}
use Rattle.std.specs.Int.{from_le_bytes, to_le_bytes, w32}
use Rattle.commit_log.specs.Base.{DamagesBase, HasBase, base_payloads}
use Rattle.commit_log.specs.Entry.{Entry, written}
use Rattle.journal_core.proofs.FrontLaws.{formats_differ, part_peeked}
use Rattle.journal_core.specs.Fronts.{IsHeader, IsPeeked, base_records, behind_gate, first_format, front_of, header_of, no_base, number_at, second_format}
use Rattle.journal_core.specs.Records.{body, prefix, records}
use Rattle.journal_core.specs.declared.format.TheConstants.{OPEN}
use Rattle.journal_core.specs.declared.header.Header.{Header}
use Rattle.store_disk.specs.Loads.{DamagesStates, IsBegun, IsLate}

-- behind what stands in front there is something
pub behind : (front : List ℕ) (ps : List (List ℕ)) (rest bytes : List ℕ) → bytes ≡ prefix front ps ++ rest
    → bytes ≡ front ++ (records ps ++ rest)
unfolding prefix
behind front ps rest bytes is = is ∙ append_assoc front (records ps) rest

-- one header is peeked at
pub one-peeked : (h k : Header) (bytes : List ℕ) → IsPeeked (Some h) bytes → IsPeeked (Some k) bytes → h ≡ k
one-peeked h k bytes (inl o) (inl p) = o.1 ∙ sym p.1
one-peeked h k bytes (inl o) (inr p) = absurd (formats_differ (take 8 bytes) o.0 p.1)
one-peeked h k bytes (inr o) (inl p) = absurd (formats_differ (take 8 bytes) p.0 o.1)
one-peeked h k bytes (inr o) (inr p) = o.2 ∙ sym p.2

front-parts : (h : Header) (base : List (List ℕ)) → front_of h base ≡ front_of h [] ++ base_records base
unfolding front_of
front-parts h base =
    ap (λ (l : List ℕ). (OPEN ∷ l) ++ base_records base) (sym (append-nil (behind_gate h)))

begins-first : (front rest bytes : List ℕ) → front ≡ first_format → bytes ≡ front ++ rest → take 8 bytes ≡ first_format
begins-first front rest bytes first is = ap (λ (l : List ℕ). take 8 l) (is ∙ ap (λ (f : List ℕ). f ++ rest) first)
    ∙ take_at first_format rest 8 refl

begins-second : (h : Header) (base : List (List ℕ)) (front rest bytes : List ℕ) → front ≡ front_of h base
    → bytes ≡ front ++ rest → take 8 bytes ≡ second_format
unfolding front_of
begins-second h base front rest bytes second is =
    ap (λ (l : List ℕ). take 8 l) (is ∙ ap (λ (f : List ℕ). f ++ rest) second)

-- the two formats of what stands in front
abbrev IsFormat : Header → List (List ℕ) → List ℕ → Type 0
IsFormat h base front = ((front ≡ first_format) × (h ≡ no_base) × (base ≡ [])) ⊎ (front ≡ front_of h base)

-- a disk on which a whole base stands
pub record WholeBase (bytes : List ℕ) : Type 0 where
  pub header : Header
  pub entries : List Entry
  pub front : List ℕ
  pub rest : List ℕ
  pub begun : IsBegun header entries front
  pub is : bytes ≡ front ++ rest

-- its header is peeked at
pub whole-peeked : (bytes : List ℕ) (w : WholeBase bytes) → IsPeeked (Some w.header) bytes
whole-peeked bytes w = elim w.begun.is.is [
  | inl one ↦ part_peeked w.header w.front w.rest bytes (record { is = inl (one.0, one.1, refl); fit = tt })
      w.begun.is.range w.is
  | inr two ↦ part_peeked w.header (front_of w.header []) (base_records (base_payloads w.entries) ++ w.rest) bytes
      (record { is = inr refl; fit = tt }) w.begun.is.range
      (w.is ∙ (ap (λ (f : List ℕ). f ++ w.rest) (two ∙ front-parts w.header (base_payloads w.entries))
      ∙ append_assoc (front_of w.header []) (base_records (base_payloads w.entries)) w.rest))
]

counted : (bytes : List ℕ) (w : WholeBase bytes) → length w.entries ≡ w.header.base_count
counted bytes w = sym (length-map w.entries written) ∙ sym w.begun.is.count

has-base : (bytes : List ℕ) (w : WholeBase bytes) → w.front ≡ front_of w.header (base_payloads w.entries)
    → HasBase w.header w.entries bytes
has-base bytes w two = record {
  rest = w.rest;
  is = w.is ∙ ap (λ (f : List ℕ). f ++ w.rest) two;
  are = w.begun.are;
  count = counted bytes w;
}

no-entries : (es : List Entry) → base_payloads es ≡ [] → es ≡ []
no-entries [] e = refl
no-entries (x ∷ xs) e = cc e

-- what is in front of the commits of a whole base is one header, its entries, and bytes
pub record SameBegun (bytes : List ℕ) (w v : WholeBase bytes) : Type 0 where
  pub header : w.header ≡ v.header
  pub entries : w.entries ≡ v.entries
  pub front : w.front ≡ v.front

-- the laws of a base, of any bytes
abbrev pub OneBase : Type 0
OneBase = (h : Header) (es fs : List Entry) (bytes : List ℕ) → IsHeader h → HasBase h es bytes → HasBase h fs bytes
    → es ≡ fs

abbrev pub BasesApart : Type 0
BasesApart = (h : Header) (es : List Entry) (at : ℕ) (bytes : List ℕ) → IsHeader h → HasBase h es bytes
    → DamagesBase h [] h.base_count at bytes → ⊥

module _ (one_base : OneBase) (apart : BasesApart) where
  pub one-begun : (bytes : List ℕ) (w v : WholeBase bytes) → SameBegun bytes w v
  one-begun bytes w v = go w.begun.is.is v.begun.is.is
    where
      same : w.header ≡ v.header
      same = one-peeked w.header v.header bytes (whole-peeked bytes w) (whole-peeked bytes v)

      go : IsFormat w.header (base_payloads w.entries) w.front → IsFormat v.header (base_payloads v.entries) v.front
          → SameBegun bytes w v
      go (inl o) (inl p) = record {
        header = same;
        entries = no-entries w.entries o.2 ∙ sym (no-entries v.entries p.2);
        front = o.0 ∙ sym p.0;
      }
      go (inl o) (inr p) = absurd (formats_differ (take 8 bytes) (begins-first w.front w.rest bytes o.0 w.is)
          (begins-second v.header (base_payloads v.entries) v.front v.rest bytes p v.is))
      go (inr o) (inl p) = absurd (formats_differ (take 8 bytes) (begins-first v.front v.rest bytes p.0 v.is)
          (begins-second w.header (base_payloads w.entries) w.front w.rest bytes o w.is))
      go (inr o) (inr p) =
          let entries = one_base w.header w.entries v.entries bytes w.begun.is.range (has-base bytes w o)
          (subst (λ (h : Header). HasBase h v.entries bytes) (sym same) (has-base bytes v p)) in
          record {
            header = same;
            entries = entries;
            front = o ∙ ((λ i. front_of (same i) (base_payloads (entries i))) ∙ sym p);
          }

  -- a base that is whole is not late, nor damaged
  pub not-late : (at : ℕ) (bytes : List ℕ) → WholeBase bytes → IsLate at bytes → ⊥
  not-late at bytes w d =
      let same = one-peeked w.header d.header bytes (whole-peeked bytes w) d.is in
      omega (arith, ap (λ (h : Header). h.base_version) same, d.late, w.begun.few)

  pub not-damaged : (at : ℕ) (bytes : List ℕ) → WholeBase bytes → DamagesStates at bytes → ⊥
  not-damaged at bytes w d = go w.begun.is.is
    where
      same : w.header ≡ d.header
      same = one-peeked w.header d.header bytes (whole-peeked bytes w) d.is

      damage : DamagesBase w.header [] w.header.base_count at bytes
      damage = subst (λ (h : Header). DamagesBase h [] h.base_count at bytes) (sym same) d.damage

      go : IsFormat w.header (base_payloads w.entries) w.front → ⊥
      go (inl o) =
          let none : w.header.base_count ≡ 0 = ap (λ (h : Header). h.base_count) o.1 in omega (arith, none, damage.few)
      go (inr o) = apart w.header w.entries at bytes w.begun.is.range (has-base bytes w o) damage

-- the header of a base that is damaged has four bytes for each number
in-four : (n : ℕ) → from_le_bytes w32 (to_le_bytes w32 n) < 2 ^ 32
in-four n = omega arith

number-is : (at n : ℕ) (bytes shaped : List ℕ) → bytes ≡ shaped
    → number_at at shaped ≡ from_le_bytes w32 (to_le_bytes w32 n) → number_at at bytes < 2 ^ 32
number-is at n bytes shaped shape is =
    omega (arith, ap (λ (l : List ℕ). number_at at l) shape ∙ is, in-four n)

shaped-header : (h : Header) (base : List (List ℕ)) (tail bytes : List ℕ) → h ≡ header_of bytes
    → bytes ≡ front_of h base ++ tail → IsHeader h
unfolding front_of
shaped-header h base tail bytes peeked is =
    let shape : bytes ≡ (OPEN ∷ behind_gate h) ++ (base_records base ++ tail) =
    is ∙ append_assoc (OPEN ∷ behind_gate h) (base_records base) tail in
    record {
      generation = omega (
        arith,
        ap (λ (k : Header). k.generation) peeked,
        number-is 8 h.generation bytes _ shape refl,
      );
      base_version = omega (
        arith,
        ap (λ (k : Header). k.base_version) peeked,
        number-is 12 h.base_version bytes _ shape refl,
      );
      base_count = omega (
        arith,
        ap (λ (k : Header). k.base_count) peeked,
        number-is 16 h.base_count bytes _ shape refl,
      );
    }

pub states-header : (at : ℕ) (bytes : List ℕ) (d : DamagesStates at bytes) → IsHeader d.header
states-header at bytes d = elim d.is [
  | inl one ↦ subst IsHeader (sym one.1)
      (record { generation = omega arith; base_version = omega arith; base_count = omega arith })
  | inr two ↦ elim d.damage.damage [
    | inl b ↦ shaped-header d.header (base_payloads d.damage.entries) b.tail bytes two.2 b.is
    | inr u ↦ shaped-header d.header (base_payloads d.damage.entries) (body u.payload ++ u.rest) bytes two.2 u.is
  ]
]
