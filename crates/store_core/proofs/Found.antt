-- Records that are found, by identifier ascending: those from an identifier on.
use Rattle.std.proofs.Common.{◌≡◌, ◌+◌, ◌++◌, ◌<◌, ◌≤◌, ◌∙◌, add-one, ap, arith, AllPairs, Bool, cond, Contains, false, inl, inr, le-leb, length, length-append, List, [], ◌∷◌, nat_le, refl, slice_index, subst, suc, sym, take, true, zero, ℕ}
use Rattle.std.proofs.Math.Seq.{take-append_seam}
use Rattle.std.proofs.lemmas.Bool.{lt-leb}
use Rattle.std.proofs.lemmas.Bool.Decides.{nat_tests}
use Rattle.std.proofs.lemmas.List.{length-map}
use Rattle.std.proofs.lemmas.List.Kept.{AllPairs-from_increasing}
use Rattle.std.specs.Arc.{arc_value}
use Rattle.std.specs.List.Sorted.{IsStrictlyIncreasing}
use Rattle.store_machine.specs.Answers.{from_on, ids}
use Rattle.store_machine.specs.declared.machine.Found.{Found}
use Rattle.store_core.specs.Records.{Shared, found_of, founds}
use Rattle.store_machine.proofs.Members.{contains-here, contains-split, contains-there}

-- each is below all later ones
abbrev pub Rises : List Found → Type 0
Rises [] = Unit {0}
Rises (r ∷ rs) = ((q : Found) → Contains rs q → r.id < q.id) × Rises rs

has-id : (rs : List Found) (r : Found) → Contains rs r → Contains (ids rs) r.id
has-id [] r c = absurd (omega (arith, c.1))
has-id (q ∷ qs) r c =
    elim (contains-split q r qs c) [
      | inl e ↦ contains-here q.id r.id (ids qs) (ap (λ (x : Found). x.id) e)
      | inr d ↦ contains-there q.id r.id (ids qs) (has-id qs r d)
    ]

rises-pairs : (rs : List Found) → AllPairs (λ x y. x < y) (ids rs) → Rises rs
rises-pairs [] up = tt
rises-pairs (r ∷ rs) up = (
  λ q c.
      let d = has-id rs q c in
      let less = up 0 (suc d.0) q.id (omega arith) (let w = d.1 in omega (arith, w)) in
      subst (λ n. r.id < n) d.2 less,
  rises-pairs rs (λ i j d less within. up (suc i) (suc j) d (omega (arith, less)) (omega (arith, within))),
)

pub rises : (rs : List Found) → IsStrictlyIncreasing (ids rs) → Rises rs
rises rs up = rises-pairs rs (AllPairs-from_increasing (ids rs) up)

pub increases : (rs : List Found) → Rises rs → IsStrictlyIncreasing (ids rs)
increases [] h k less = absurd (omega (arith, less))
increases (r ∷ []) h k less = absurd (omega (arith, less))
increases (r ∷ q ∷ qs) h zero less = h.0 q (contains-here q q qs refl)
increases (r ∷ q ∷ qs) h (suc k) less =
    let rest : slice_index (ids (q ∷ qs)) k < slice_index (ids (q ∷ qs)) (k + 1) = increases (q ∷ qs) h.1 k
    (omega (arith, less)) in
    rw add-one (rw add-one at rest)

-- from one identifier on, and from another
pub on-same : (a b : ℕ) (rs : List Found) → ((r : Found) → Contains rs r → nat_le a r.id ≡ nat_le b r.id)
    → from_on a rs ≡ from_on b rs
on-same a b [] same = refl
on-same a b (r ∷ rs) same =
    ap (λ t. cond t (r ∷ from_on a rs) (from_on a rs)) (same r (contains-here r r rs refl))
    ∙ ap (λ l. cond (nat_le b r.id) (r ∷ l) l) (on-same a b rs (λ q c. same q (contains-there r q rs c)))

pub on-none : (a : ℕ) (rs : List Found) → ((r : Found) → Contains rs r → r.id < a) → from_on a rs ≡ []
on-none a [] below = refl
on-none a (r ∷ rs) below =
    ap (λ t. cond t (r ∷ from_on a rs) (from_on a rs)) (lt-leb a r.id (below r (contains-here r r rs refl)))
    ∙ on-none a rs (λ q c. below q (contains-there r q rs c))

both-le : (a b n : ℕ) → (a ≤ n → b ≤ n) → (b ≤ n → a ≤ n) → nat_le a n ≡ nat_le b n
both-le a b n f g = grind (arith, nat_tests, f, g)

pub on-from : (a b : ℕ) (rs : List Found) → a ≤ b → ((r : Found) → Contains rs r → a ≤ r.id → b ≤ r.id)
    → from_on a rs ≡ from_on b rs
on-from a b rs le later = on-same a b rs (λ r c. both-le a b r.id (later r c) (λ up. omega (arith, le, up)))

pub on-first : (rs : List Found) (r : Found) → Rises rs → Contains rs r
    → from_on r.id rs ≡ r ∷ from_on (r.id + 1) rs
on-first [] r up c = absurd (omega (arith, c.1))
on-first (q ∷ qs) r up c =
    elim (contains-split q r qs c) [
      | inl e ↦
          let same : r.id ≡ q.id = ap (λ (x : Found). x.id) (sym e) in
          ap (λ t. cond t (q ∷ from_on r.id qs) (from_on r.id qs)) (le-leb r.id q.id (omega (arith, same)))
          ∙ (ap (λ x. x ∷ from_on r.id qs) e
          ∙ (ap (λ l. r ∷ l) (on-from r.id (r.id + 1) qs (omega arith)
          (λ x d le. let above = up.0 x d in omega (arith, above, same)))
          ∙ ap (λ t. r ∷ cond t (q ∷ from_on (r.id + 1) qs) (from_on (r.id + 1) qs))
          (sym (lt-leb (r.id + 1) q.id (omega (arith, same))))))
      | inr d ↦
          let above = up.0 r d in
          ap (λ t. cond t (q ∷ from_on r.id qs) (from_on r.id qs)) (lt-leb r.id q.id above)
          ∙ (on-first qs r up.1 d
          ∙ ap (λ t. r ∷ cond t (q ∷ from_on (r.id + 1) qs) (from_on (r.id + 1) qs))
          (sym (lt-leb (r.id + 1) q.id (omega (arith, above)))))
    ]

-- pages
take-short : (xs : List Found) (n : ℕ) → length xs ≤ n → xs ≡ take n xs
take-short [] zero less = refl
take-short [] (suc n) less = refl
take-short (x ∷ xs) zero less = absurd (omega (arith, less))
take-short (x ∷ xs) (suc n) less = ap (λ l. x ∷ l) (take-short xs n (omega (arith, less)))

length-founds : (page : List Shared) → length (founds page) ≡ length page
length-founds page = length-map page (λ r. found_of (arc_value r))

-- the page of all that follow, and whether it is the last
abbrev pub IsAnswer : ℕ → List Shared → Bool → List Found → Type 0
IsAnswer limit page last all = (founds page ≡ take limit all) × (last ≡ nat_le (length all) limit)

pub at-end : (page : List Shared) (limit : ℕ) (all : List Found) → length page ≤ limit → all ≡ founds page
    → IsAnswer limit page true all
at-end page limit all few whole =
    let short : length all ≤ limit = omega (arith, few, ap (λ l. length l) whole, length-founds page) in
    (sym whole ∙ take-short all limit short, sym (le-leb (length all) limit short))

pub at-limit : (page : List Shared) (limit : ℕ) (all rest : List Found) (r : Found) → length page ≡ limit
    → all ≡ founds page ++ r ∷ rest → IsAnswer limit page false all
at-limit page limit all rest r full is =
    let count : length (founds page) ≡ limit = length-founds page ∙ full in
    let more : limit < length all = omega
    (arith, ap (λ l. length l) is, length-append (founds page) (r ∷ rest), count) in (
      sym (take-append_seam (founds page) (r ∷ rest)) ∙ (ap (λ n. take n (founds page ++ r ∷ rest)) count
          ∙ ap (λ l. take limit l) (sym is)),
      sym (lt-leb (length all) limit more),
    )
