-- A breadth-first search as it goes on: begun, one more atom marked, one more atom done, and what its marks say.
use Rattle.std.proofs.Common.{ℕ, suc, zero, ◌+◌, ◌-◌, ◌<◌, ◌≤◌, ◌≡◌, ◌≢◌, ◌⊎◌, inl, inr, false, cond, eqb, List, [], ◌∷◌, ◌++◌, length, get_or, set, replicate, refl, sym, ap, ◌∙◌, arith}
use Rattle.std.specs.List.{count_by, slice_index}
use Rattle.std.proofs.lemmas.Bool.{cases_lt, cases_eq, ne_eqb}
use Rattle.std.proofs.lemmas.List.{get_or_append_left, get_or_push, length_push, length-set, length-replicate, get_or-set_same, get_or-set_other, get_or-replicate, get_or_past, get_or_default}
use Rattle.std.proofs.lemmas.List.Elements.{Contains-append_left, Contains-push}
use Rattle.std.proofs.lemmas.List.Sums.{sum_by-cons, sum_by-set}
use Rattle.ring_find.specs.Walk.{Walk}
use Rattle.ring_find.specs.Search.{IsSearch, mark_at}
use Rattle.ring_find.proofs.Walks.{IsMark}

count-replicate : (n : ℕ) → count_by (λ m. eqb m 0) (replicate n 0) ≡ n
count-replicate zero = refl
count-replicate (suc n) =
    let rest = count-replicate n in
    let e : count_by (λ m. eqb m 0) (replicate (suc n) 0) ≡ 1 + count_by (λ m. eqb m 0) (replicate n 0) =
    sum_by-cons (λ m. cond (eqb m 0) 1 0) 0 (replicate n 0) in
    omega arith

-- one zero fewer
count-set : (marks : List ℕ) (w m : ℕ) → w < length marks → get_or marks w 0 ≡ 0
    → count_by (λ m. eqb m 0) (set marks w (m + 1)) + 1 ≡ count_by (λ m. eqb m 0) marks
count-set marks w m h zero_w =
    let e = sum_by-set (λ m. cond (eqb m 0) 1 0) marks w (m + 1) 0 h in
    let some : eqb (m + 1) 0 ≡ false = ne_eqb (m + 1) 0 (λ q. omega arith) in
    let e' = rw (zero_w, some) at e in
    omega arith

pub no_mark : (n v : ℕ) → slice_index (replicate n 0) v ≡ 0
no_mark n v = elim (cases_lt v n) [
  | inl l ↦ get_or-replicate n v 0 0 l
  | inr l ↦ let blank : List ℕ = replicate n 0 in
      get_or_past blank v 0 (rw length-replicate l)
]

pub search_start : (S : ℕ → ℕ → Type 0) (n x : ℕ) → x < n → IsSearch S n x (set (replicate n 0) x 1) (x ∷ []) 0
search_start S n x h =
    let blank : List ℕ = replicate n 0 in
    let size : length blank ≡ n = length-replicate n 0 in
    let there : x < length blank = omega arith in
    let new : get_or (set blank x 1) x 0 ≡ 1 = get_or-set_same blank x 1 0 there in
    let old : (v : ℕ) → v ≢ x → get_or (set blank x 1) v 0 ≡ 0 = λ v ne. get_or-set_other blank x v 1 0 ne
    ∙ no_mark n v in
    let first : (i : ℕ) → i < 1 → get_or (set blank x 1) (get_or (x ∷ []) i 0) 0 ≡ 1 = λ i l. let is : i ≡ 0 =
    omega arith in rw is new in
    record {
      size = length-set blank x 1 ∙ size;
      count = let e = count-set blank x 0 there (no_mark n x) in let f = count-replicate n in omega arith;
      within = omega arith;
      start = new;
      walk = λ v d is. elim (cases_eq v x) [
        | inl e ↦ let same : get_or (set blank x 1) v 0 ≡ 1 = ap (λ k. get_or (set blank x 1) k 0) e ∙ new in
            let none : d ≡ 0 = omega arith in rw none (sym e)
        | inr ne ↦ absurd (let o = old v ne in omega arith)
      ];
      queued = λ v some. elim (cases_eq v x) [ inl e ↦ (0, omega arith, sym e) | inr ne ↦ absurd (some (old v ne)) ];
      marked = λ i l. let e = first i l in omega arith;
      low = λ i l. let e = first i l in omega arith;
      rises = λ i j le l. let e = first i (omega arith) in let f = first j l in omega arith;
      near = λ i j le l k. let e = first i l in let f = first j k in omega arith;
      past = λ i v l s. absurd (omega arith);
    }

pub search_push : (S : ℕ → ℕ → Type 0) (n x : ℕ) (marks queue : List ℕ) (next w : ℕ) → IsSearch S n x marks queue next
    → next < length queue → S (get_or queue next 0) w → w < n → get_or marks w 0 ≡ 0
    → IsSearch S n x (set marks w (mark_at marks queue next + 1)) (queue ++ w ∷ []) next
search_push S n x marks queue next w h here step within fresh =
    let q : ℕ = length queue in
    let m : ℕ = mark_at marks queue next in
    let marks' : List ℕ = set marks w (m + 1) in
    let queue' : List ℕ = queue ++ w ∷ [] in
    let there : w < length marks = omega (arith, h.size) in
    let long : length queue' ≡ q + 1 = length_push queue w in
    let oldq : (i : ℕ) → i < q → get_or queue' i 0 ≡ get_or queue i 0 = λ i l. get_or_append_left queue (w ∷ []) 0 i
    l in
    let newq : get_or queue' q 0 ≡ w = get_or_push queue w 0 q refl in
    let apart : (i : ℕ) → i < q → get_or queue i 0 ≢ w = λ i l e.
    let some = h.marked i l in
    let none : mark_at marks queue i ≡ 0 = ap (λ v. get_or marks v 0) e ∙ fresh in
    omega arith in
    let oldm : (v : ℕ) → v ≢ w → get_or marks' v 0 ≡ get_or marks v 0 = λ v ne. get_or-set_other marks w v (m + 1) 0
    ne in
    let newm : get_or marks' w 0 ≡ m + 1 = get_or-set_same marks w (m + 1) 0 there in
    let olda : (i : ℕ) → i < q → mark_at marks' queue' i ≡ mark_at marks queue i = λ i l.
    ap (λ v. get_or marks' v 0) (oldq i l) ∙ oldm (get_or queue i 0) (apart i l) in
    let newa : (i : ℕ) → i ≡ q → mark_at marks' queue' i ≡ m + 1 = λ i e. ap (λ k. get_or marks' (get_or queue' k 0) 0)
    e ∙ ap (λ v. get_or marks' v 0) newq ∙ newm in
    let split : (i : ℕ) → i < length queue' → (i < q) ⊎ (i ≡ q) = λ i l. elim (cases_lt i q) [
      | inl a ↦ inl a
      | inr a ↦
          inr (omega arith)
    ] in
    record {
      size = length-set marks w (m + 1) ∙ h.size;
      count = let e = count-set marks w m there fresh in let f = h.count in omega arith;
      within = let e = h.within in omega arith;
      start = oldm x (λ e. let f : get_or marks w 0 ≡ 1 = rw e at h.start in omega arith) ∙ h.start;
      walk = λ v d is. elim (cases_eq v w) [
        | inl e ↦
            let some = h.marked next here in
            let from : Walk S x (get_or queue next 0) (m - 1) = h.walk (get_or queue next 0) (m - 1) (omega arith) in
            let same : get_or marks' v 0 ≡ m + 1 = ap (λ k. get_or marks' k 0) e ∙ newm in
            let count : d ≡ suc (m - 1) = omega arith in
            rw (count, e) (get_or queue next 0, from, step)
        | inr ne ↦ h.walk v d (sym (oldm v ne) ∙ is)
      ];
      queued = λ v some. elim (cases_eq v w) [
        | inl e ↦ rw e (Contains-push queue w)
        | inr ne ↦ Contains-append_left queue (w ∷ []) v (h.queued v (λ z. some (oldm v ne ∙ z)))
      ];
      marked = λ i l. elim (split i l) [ inl a ↦ rw (olda i a) (h.marked i a) | inr e ↦ rw (newa i e) (omega arith) ];
      low = λ i l. elim (split i l) [
        | inl a ↦ rw (olda i a) (h.low i a)
        | inr e ↦
            rw (newa i e) (let f = h.low next here in omega arith)
      ];
      rises = λ i j le l. elim (split j l) [
        | inl b ↦ let a : i < q = omega arith in rw (olda i a, olda j b) (h.rises i j le b)
        | inr f ↦ elim (split i (omega arith)) [
          | inl a ↦ rw (olda i a, newa j f) (h.near next i (omega arith) here a)
          | inr e ↦ rw (newa i e, newa j f) (omega arith)
        ]
      ];
      near = λ i j le k l. elim (split i k) [
        | inl a ↦ elim (split j l) [
          | inl b ↦ rw (olda i a, olda j b) (h.near i j le a b)
          | inr f ↦ rw (olda i a, newa j f) (let r = h.rises next i le a in omega arith)
        ]
        | inr e ↦ elim (split j l) [
          | inl b ↦ rw (newa i e, olda j b) (let r = h.near next j (omega arith) here b in omega arith)
          | inr f ↦ rw (newa i e, newa j f) (omega arith)
        ]
      ];
      past = λ i v l s.
          let a : i < q = let e = h.within in omega arith in
          let s' : S (get_or queue i 0) v = rw (oldq i a) at s in
          let p = h.past i v l s' in
          let ne : v ≢ w = λ e. let z : get_or marks v 0 ≡ 0 = ap (λ k. get_or marks k 0) e ∙ fresh in
          omega (arith, p.0) in
          rw (olda i a, oldm v ne) p;
    }

pub search_next : (S : ℕ → ℕ → Type 0) (n x : ℕ) (marks queue : List ℕ) (next : ℕ) → IsSearch S n x marks queue next
    → next < length queue → ((v : ℕ) → S (get_or queue next 0) v → (0 < get_or marks v 0)
    × (get_or marks v 0 ≤ mark_at marks queue next + 1)) → IsSearch S n x marks queue (next + 1)
search_next S n x marks queue next h here steps = record {
  size = h.size;
  count = h.count;
  within = omega arith;
  start = h.start;
  walk = h.walk;
  queued = h.queued;
  marked = h.marked;
  low = h.low;
  rises = h.rises;
  near = λ i j le k l. h.near i j (omega arith) k l;
  past = λ i v l s. elim (cases_lt i next) [
    | inl a ↦ h.past i v a s
    | inr b ↦
        let e : i ≡ next = omega arith in
        rw e (steps v (rw e at s))
  ];
}

-- the search has found what is as near as the atom that comes next
reached : (S : ℕ → ℕ → Type 0) (n x : ℕ) (marks queue : List ℕ) (next : ℕ) → IsSearch S n x marks queue next → (w m : ℕ)
    → Walk S x w m → (next < length queue → m + 1 ≤ mark_at marks queue next) → (0 < get_or marks w 0)
    × (get_or marks w 0 ≤ m + 1)
reached S n x marks queue next h w zero walk soon =
    let e : get_or marks w 0 ≡ 1 = rw walk at h.start in
    (omega arith, omega arith)
reached S n x marks queue next h w (suc m) walk soon =
    let z : ℕ = walk.0 in
    let before = reached S n x marks queue next h z m walk.1 (λ l. let more = soon l in omega arith) in
    let place = h.queued z (λ e. omega (arith, before.0)) in
    let i : ℕ = place.0 in
    let is : get_or queue i 0 ≡ z = get_or_default queue i 0 z place.1 ∙ place.2 in
    let mark : mark_at marks queue i ≡ get_or marks z 0 = ap (λ v. get_or marks v 0) is in
    let done : i < next = elim (cases_lt i next) [
      | inl l ↦ l
      | inr l ↦
          let k : next < length queue = omega (arith, place.1) in
          let r = h.rises next i l place.1 in
          let more = soon k in
          absurd (omega (arith, before.1))
    ] in
    let step : S (get_or queue i 0) w = rw is walk.2 in
    let p = h.past i w done step in
    (p.0, omega (arith, p.1, before.1))

-- once the atom is marked, or the queue is done, its mark is right
pub search_done : (S : ℕ → ℕ → Type 0) (n x : ℕ) (marks queue : List ℕ) (next y : ℕ) → IsSearch S n x marks queue next
    → (get_or marks y 0 ≢ 0) ⊎ (length queue ≤ next) → IsMark S x y (get_or marks y 0)
search_done S n x marks queue next y h end =
    elim (cases_eq (get_or marks y 0) 0) [
      | inl none ↦ inl (
        none,
        λ m w. elim end [
          | inl some ↦ some none
          | inr all ↦ let r = reached S n x marks queue next h y m w (λ l. absurd (omega arith)) in omega (arith, r.0)
        ],
      )
      | inr some ↦
          let d : ℕ = get_or marks y 0 - 1 in
          let is : get_or marks y 0 ≡ suc d = omega arith in
          inr (
            d,
            is,
            record {
              walk = h.walk y d is;
              least = λ m w. elim (cases_lt m d) [
                | inr l ↦ l
                | inl l ↦
                    let place = h.queued y some in
                    let j : ℕ = place.0 in
                    let at : get_or queue j 0 ≡ y = get_or_default queue j 0 y place.1 ∙ place.2 in
                    let mark : mark_at marks queue j ≡ get_or marks y 0 = ap (λ v. get_or marks v 0) at in
                    let r = reached S n x marks queue next h y m w (λ k. let near =
                    h.near next j (omega arith) k place.1 in omega arith) in
                    absurd (omega (arith, r.1))
              ];
            },
          )
    ]
