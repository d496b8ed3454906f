-- What stands in front of the commits is read one way. For callers.
use Rattle.std.proofs.Common.{◌≡◌, inl, inr, ℕ, List, [], ◌∷◌, ◌++◌, length, take, drop, refl, sym, ◌∙◌, ap, subst, arith, append_assoc}
use Rattle.std.proofs.lemmas.List.{take_at}
use Rattle.std.proofs.lemmas.Nat.{from_le_bytes-to_le_bytes_4}
use Rattle.std.specs.List.{AllByRecursion}
use Rattle.journal_core.specs.Fronts.{IsFront, IsHeader, base_records, behind_gate, first_format, front_of, number_at, second_format}
use Rattle.journal_core.proofs.FrontLaws.{formats_differ}
use Rattle.journal_core.proofs.RecordLaws.{one_list, same_body}
use Rattle.journal_core.specs.Records.{IsShort, Opens, body, prefix, records}
use Rattle.journal_core.specs.declared.format.TheConstants.{OPEN}
use Rattle.journal_core.specs.declared.header.Header.{Header}

-- base records of so many payloads
same_bases : (ps qs : List (List ℕ)) (t u : List ℕ) → AllByRecursion IsShort ps → AllByRecursion IsShort qs
    → length ps ≡ length qs → base_records ps ++ t ≡ base_records qs ++ u → ps ≡ qs
same_bases [] [] t u fp fq len is = refl
same_bases [] (q ∷ qs) t u fp fq len is = absurd (omega (arith, len))
same_bases (p ∷ ps) [] t u fp fq len is = absurd (omega (arith, len))
same_bases (p ∷ ps) (q ∷ qs) t u fp fq len is =
    let same = same_body p q (base_records ps ++ t) (base_records qs ++ u) fp.0 fq.0
    (sym (append_assoc (body p) (base_records ps) t) ∙ is ∙ append_assoc (body q) (base_records qs) u) in
    let rest = same_bases ps qs t u fp.1 fq.1 (omega (arith, len)) same.1 in
    λ i. same.0 i ∷ rest i

-- what is behind the header of a disk that is open in format 2
shape : (h : Header) (base commits : List (List ℕ)) (gate : ℕ) (rest bytes : List ℕ)
    → bytes ≡ prefix (front_of h base) commits ++ gate ∷ rest
    → bytes ≡ (OPEN ∷ behind_gate h) ++ (base_records base ++ (records commits ++ gate ∷ rest))
unfolding prefix front_of
shape h base commits gate rest bytes is = is
    ∙ ap (λ (l : List ℕ). (OPEN ∷ behind_gate h) ++ l) (append_assoc (base_records base) (records commits)
    (gate ∷ rest))

module _ (h : Header) (more bytes : List ℕ) (range : IsHeader h) (is : bytes ≡ (OPEN ∷ behind_gate h) ++ more) where
  number_8 : number_at 8 bytes ≡ h.generation
  number_8 = ap (λ (l : List ℕ). number_at 8 l) is ∙ from_le_bytes-to_le_bytes_4 h.generation range.generation

  number_12 : number_at 12 bytes ≡ h.base_version
  number_12 = ap (λ (l : List ℕ). number_at 12 l) is ∙ from_le_bytes-to_le_bytes_4 h.base_version range.base_version

  number_16 : number_at 16 bytes ≡ h.base_count
  number_16 = ap (λ (l : List ℕ). number_at 16 l) is ∙ from_le_bytes-to_le_bytes_4 h.base_count range.base_count

  second_eight : take 8 bytes ≡ second_format
  second_eight = ap (λ (l : List ℕ). take 8 l) is

  behind : drop 20 bytes ≡ more
  behind = ap (λ (l : List ℕ). drop 20 l) is

first_eight : (commits : List (List ℕ)) (gate : ℕ) (rest bytes : List ℕ)
    → bytes ≡ prefix first_format commits ++ gate ∷ rest → take 8 bytes ≡ first_format
unfolding prefix
first_eight commits gate rest bytes is =
    ap (λ (l : List ℕ). take 8 l) (is ∙ append_assoc first_format (records commits) (gate ∷ rest))
    ∙ take_at first_format (records commits ++ gate ∷ rest) 8 refl

at_first : (f : List ℕ) (cs : List (List ℕ)) (bytes : List ℕ) (o : Opens f cs bytes) → f ≡ first_format
    → bytes ≡ prefix first_format cs ++ o.gate ∷ o.rest
at_first f cs bytes o one = o.is ∙ ap (λ (l : List ℕ). prefix l cs ++ o.gate ∷ o.rest) one

at_second : (h : Header) (b : List (List ℕ)) (f : List ℕ) (cs : List (List ℕ)) (bytes : List ℕ)
    (o : Opens f cs bytes) → f ≡ front_of h b → bytes ≡ prefix (front_of h b) cs ++ o.gate ∷ o.rest
at_second h b f cs bytes o two = o.is ∙ ap (λ (l : List ℕ). prefix l cs ++ o.gate ∷ o.rest) two

-- two readings of a front are one
pub record OneFront (h k : Header) (base base' : List (List ℕ)) (front front' : List ℕ) : Type 0 where
  pub header : h ≡ k
  pub bases : base ≡ base'
  pub fronts : front ≡ front'

pub one_front : (h k : Header) (base base' : List (List ℕ)) (front front' : List ℕ) (commits commits' : List (List ℕ))
    (bytes : List ℕ) → IsFront h base front → IsFront k base' front' → Opens front commits bytes
    → Opens front' commits' bytes → OneFront h k base base' front front'
one_front h k base base' front front' commits commits' bytes f e o r = elim f.is [
  | inl one ↦ elim e.is [
    | inl also ↦ record {
      header = one.1 ∙ sym also.1;
      bases = one.2 ∙ sym also.2;
      fronts = one.0 ∙ sym also.0;
    }
    | inr two ↦ absurd (formats_differ (take 8 bytes)
        (first_eight commits o.gate o.rest bytes (at_first front commits bytes o one.0))
        (second_eight k _ bytes e.range (shape k base' commits' r.gate r.rest bytes
        (at_second k base' front' commits' bytes r two))))
  ]
  | inr two ↦ elim e.is [
    | inl one ↦ absurd (formats_differ (take 8 bytes)
        (first_eight commits' r.gate r.rest bytes (at_first front' commits' bytes r one.0))
        (second_eight h _ bytes f.range (shape h base commits o.gate o.rest bytes
        (at_second h base front commits bytes o two))))
    | inr also ↦
        let p = shape h base commits o.gate o.rest bytes (at_second h base front commits bytes o two) in
        let q = shape k base' commits' r.gate r.rest bytes (at_second k base' front' commits' bytes r also) in
        let g : h.generation ≡ k.generation = sym (number_8 h _ bytes f.range p) ∙ number_8 k _ bytes e.range q in
        let v : h.base_version ≡ k.base_version = sym (number_12 h _ bytes f.range p)
        ∙ number_12 k _ bytes e.range q in
        let n : h.base_count ≡ k.base_count = sym (number_16 h _ bytes f.range p) ∙ number_16 k _ bytes e.range q in
        let same : h ≡ k = λ i. record { generation = g i; base_version = v i; base_count = n i } in
        let bases : base ≡ base' = same_bases base base' _ _ f.fit e.fit (sym f.count ∙ n ∙ e.count)
        (sym (behind h _ bytes f.range p) ∙ behind k _ bytes e.range q) in
        record {
          header = same;
          bases = bases;
          fronts = two ∙ (λ i. front_of (same i) (bases i)) ∙ sym also;
        }
  ]
]

-- two readings of the bytes of one disk are one
pub one_commits : (h k : Header) (base base' : List (List ℕ)) (front front' : List ℕ) (commits commits' : List
    (List ℕ)) (bytes : List ℕ) → IsFront h base front → IsFront k base' front' → Opens front commits bytes
    → Opens front' commits' bytes → commits ≡ commits'
one_commits h k base base' front front' commits commits' bytes f e o r =
    let same = one_front h k base base' front front' commits commits' bytes f e o r in
    one_list front' commits commits' bytes (subst (λ (l : List ℕ). Opens l commits bytes) same.fronts o) r
