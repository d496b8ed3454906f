-- Distances from the target of a search as they spread.
use Rattle.std.proofs.Common.{ℕ, zero, suc, ◌+◌, ◌<◌, ◌≤◌, ◌≡◌, ◌≢◌, ◌⊎◌, inl, inr, false, cond, eqb, List, [], ◌∷◌, ◌++◌, length, get_or, set, replicate, count_by, refl, sym, ap, ◌∙◌, arith}
use Rattle.std.proofs.lemmas.Bool.{cases_lt, cases_eq, ne_eqb}
use Rattle.std.proofs.lemmas.List.{get_or_append_left, get_or_push, length_push, length-set, length-replicate, get_or-set_same, get_or-set_other, get_or-replicate, get_or_past, get_or_default}
use Rattle.std.proofs.lemmas.List.Elements.{Contains-append_left, Contains-push}
use Rattle.std.proofs.lemmas.List.Sums.{sum_by-cons, sum_by-set}
use Rattle.aromatic.specs.declared.links.Link.{Link}
use Rattle.aromatic.specs.Links.{AreClosed, AreMutual, IsLinked}
use Rattle.aromatic.specs.Distances.{AreDistances, IsSpread, distance_at}

count-far : (n : ℕ) → count_by (λ d. eqb d 18) (replicate n 18) ≡ n
count-far zero = refl
count-far (suc n) =
    let rest = count-far n in
    let e : count_by (λ d. eqb d 18) (replicate (suc n) 18) ≡ 1 + count_by (λ d. eqb d 18) (replicate n 18) =
    sum_by-cons (λ d. cond (eqb d 18) 1 0) 18 (replicate n 18) in
    omega arith

-- one atom fewer at 18
count-nearer : (distances : List ℕ) (w v : ℕ) → w < length distances → get_or distances w 0 ≡ 18 → v < 18
    → count_by (λ d. eqb d 18) (set distances w v) + 1 ≡ count_by (λ d. eqb d 18) distances
count-nearer distances w v h far near =
    let e = sum_by-set (λ d. cond (eqb d 18) 1 0) distances w v 0 h in
    let now : eqb v 18 ≡ false = ne_eqb v 18 (λ q. omega arith) in
    let e' = rw (far, now) at e in
    omega arith

blank-at : (n a : ℕ) → a < n → ◌≡◌ {A = ℕ} (get_or (replicate n 18) a 0) 18
blank-at n a l = get_or-replicate n a 18 0 l

blank-most : (n a : ℕ) → get_or (replicate n 18) a 0 ≤ 18
blank-most n a = elim (cases_lt a n) [
  | inl l ↦ let e = blank-at n a l in omega arith
  | inr l ↦
      let blank : List ℕ = replicate n 18 in
      let e : get_or blank a 0 ≡ 0 = get_or_past blank a 0 (rw length-replicate l) in
      omega arith
]

-- the target alone
pub spread-start : (links : List (List Link)) (target : ℕ) (distances : List ℕ) → target < length links
    → distances ≡ replicate (length links) 18 → IsSpread links target (set distances target 0) (target ∷ []) 0
spread-start links target distances h is =
    let n : ℕ = length links in
    let size : length distances ≡ n = ap length is ∙ length-replicate n 18 in
    let there : target < length distances = omega arith in
    let far : get_or distances target 0 ≡ 18 = rw is (blank-at n target h) in
    let new : get_or (set distances target 0) target 0 ≡ 0 = get_or-set_same distances target 0 0 there in
    let old : (a : ℕ) → a ≢ target → get_or (set distances target 0) a 0 ≡ get_or distances a 0 = λ a ne.
    get_or-set_other distances target a 0 0 ne in
    let alone : (i : ℕ) → i < 1 → get_or (target ∷ []) i 0 ≡ target = λ i l. let z : i ≡ 0 = omega arith in rw z refl in
    record {
      count = length-set distances target 0 ∙ size;
      here = new;
      most = λ a. elim (cases_eq a target) [
        | inl e ↦ rw (e, new) (omega arith)
        | inr ne ↦ rw (old a ne, is) (blank-most n a)
      ];
      queued = λ a l near. elim (cases_eq a target) [
        | inl e ↦ (0, omega arith, sym e)
        | inr ne ↦
            let within : a < n = omega (arith, length-set distances target 0) in
            let e : get_or (set distances target 0) a 0 ≡ 18 = old a ne ∙ ap (λ xs. get_or xs a 0) is
            ∙ blank-at n a within in
            absurd (near e)
      ];
      in_range = λ i l. rw (alone i l) h;
      near = λ i l. rw (alone i l, new) (omega arith);
      rises = λ i j le l. rw (alone i (omega arith), alone j l, new) (omega arith);
      close = λ i j le l k. rw (alone i l, alone j k, new) (omega arith);
      done = λ i m l link. absurd (omega arith);
      room =
          let e = count-nearer distances target 0 there far (omega arith) in
          let f : count_by (λ d. eqb d 18) distances ≡ n = rw is (count-far n) in
          omega arith;
    }

-- an atom at 18 comes nearer, and into the queue
pub spread-push : (links : List (List Link)) (target : ℕ) (distances queue : List ℕ) (head w v : ℕ)
    → IsSpread links target distances queue head → head < length queue → w < length links → get_or distances w 0 ≡ 18
    → distance_at distances queue head + 1 ≡ v → v < 18 → IsSpread links target (set distances w v) (queue ++ w ∷ [])
    head
spread-push links target distances queue head w v h inside within far farther near =
    let q : ℕ = length queue in
    let distances' : List ℕ = set distances w v in
    let queue' : List ℕ = queue ++ w ∷ [] in
    let size = h.count in
    let there : w < length distances = omega arith in
    let long : length queue' ≡ q + 1 = length_push queue w in
    let old_place : (i : ℕ) → i < q → get_or queue' i 0 ≡ get_or queue i 0 = λ i l. get_or_append_left queue (w ∷ []) 0
    i l in
    let new_place : get_or queue' q 0 ≡ w = get_or_push queue w 0 q refl in
    let new : get_or distances' w 0 ≡ v = get_or-set_same distances w v 0 there in
    let old : (a : ℕ) → a ≢ w → get_or distances' a 0 ≡ get_or distances a 0 = λ a ne.
    get_or-set_other distances w a v 0 ne in
    let apart : (i : ℕ) → i < q → get_or queue i 0 ≢ w = λ i l e.
    let close = h.near i l in
    let e' : get_or distances (get_or queue i 0) 0 ≡ 18 = ap (λ a. get_or distances a 0) e ∙ far in
    omega arith in
    let below : (a : ℕ) → get_or distances' a 0 ≤ get_or distances a 0 = λ a. elim (cases_eq a w) [
      | inl e ↦ rw (e, new, far) (omega arith)
      | inr ne ↦ let e = old a ne in omega arith
    ] in
    let old_at : (i : ℕ) → i < q → distance_at distances' queue' i ≡ distance_at distances queue i = λ i l.
    ap (λ a. get_or distances' a 0) (old_place i l) ∙ old (get_or queue i 0) (apart i l) in
    let new_at : (i : ℕ) → i ≡ q → distance_at distances' queue' i ≡ v = λ i e.
    ap (λ k. get_or distances' (get_or queue' k 0) 0) e ∙ ap (λ a. get_or distances' a 0) new_place ∙ new in
    let split : (i : ℕ) → i < length queue' → (i < q) ⊎ (i ≡ q) = λ i l. elim (cases_lt i q) [
      | inl a ↦ inl a
      | inr a ↦
          inr (omega arith)
    ] in
    record {
      count = length-set distances w v ∙ size;
      here = old target (λ e. let z : get_or distances target 0 ≡ 18 = rw e far in let z' = h.here in omega arith)
          ∙ h.here;
      most = λ a. let e = below a in let f = h.most a in omega arith;
      queued = λ a l close. elim (cases_eq a w) [
        | inl e ↦ rw e (Contains-push queue w)
        | inr ne ↦
            let l' : a < length distances = omega (arith, length-set distances w v) in
            Contains-append_left queue (w ∷ []) a (h.queued a l' (λ e. close (old a ne ∙ e)))
      ];
      in_range = λ i l. elim (cases_lt i q) [
        | inl a ↦ rw (old_place i a) (h.in_range i a)
        | inr a ↦ let e : i ≡ q = omega arith in rw (e, new_place) within
      ];
      near = λ i l. elim (split i l) [
        | inl a ↦ rw (old_at i a) (h.near i a)
        | inr a ↦ rw (new_at i a) near
      ];
      rises = λ i j le l. elim (split j l) [
        | inl b ↦
            let a : i < q = omega arith in
            rw (old_at i a, old_at j b) (h.rises i j le b)
        | inr b ↦ elim (split i (omega arith)) [
          | inl a ↦ let e = h.close head i (omega arith) inside a in rw (old_at i a, new_at j b) (omega arith)
          | inr a ↦ rw (new_at i a, new_at j b) (omega arith)
        ]
      ];
      close = λ i j le l k. elim (split i l) [
        | inl a ↦ elim (split j k) [
          | inl b ↦ rw (old_at i a, old_at j b) (h.close i j le a b)
          | inr b ↦ let e = h.rises head i le a in rw (old_at i a, new_at j b) (omega arith)
        ]
        | inr a ↦ elim (split j k) [
          | inl b ↦ let e = h.close head j (omega arith) inside b in rw (new_at i a, old_at j b) (omega arith)
          | inr b ↦ rw (new_at i a, new_at j b) (omega arith)
        ]
      ];
      done = λ i m l link.
          let l' : i < q = omega arith in
          let link' = rw (old_place i l') at link in
          let e = h.done i m l link' in
          let f = below m in
          rw (old_at i l') (omega arith);
      room = let e = count-nearer distances w v there far near in let f = h.room in omega arith;
    }

-- all atoms of the queue are done
pub spread-end : (links : List (List Link)) (target : ℕ) (distances queue : List ℕ) (head : ℕ) → AreClosed links
    → AreMutual links → IsSpread links target distances queue head → length queue ≤ head
    → AreDistances links target distances
spread-end links target distances queue head closed both_ways h all = record {
  count = h.count;
  here = h.here;
  falls = λ a n link.
      let most = h.most a in
      let size = h.count in
      let within : n < length links = closed a n link in
      elim (cases_lt (get_or distances n 0) 18) [
        | inl near ↦
            let place = h.queued n (omega arith) (λ e. omega arith) in
            let at : get_or queue place.0 0 ≡ n = get_or_default queue place.0 0 n place.1 ∙ place.2 in
            let back : IsLinked links (get_or queue place.0 0) a = rw at (both_ways a n link) in
            let l : place.0 < head = omega (arith, place.1) in
            rw at at (h.done place.0 a l back)
        | inr far ↦ omega arith
      ];
}

-- the links of the atom at the head, one after another
pub record IsVisit (links : List (List Link)) (target head atom farther : ℕ) (nexts : List Link)
    (distances queue : List ℕ) (k : ℕ) : Type 0 where
  pub spread : IsSpread links target distances queue head
  pub inside : head < length queue
  pub here : get_or queue head 0 ≡ atom
  pub distance : get_or distances atom 0 + 1 ≡ farther
  pub done : (j : ℕ) (d : Link) → j < k → get_or distances (get_or nexts j d).to 0 ≤ farther

pub visit-push : (links : List (List Link)) (target head atom farther : ℕ) (nexts : List Link)
    (distances queue : List ℕ) (k : ℕ) (d : Link) → IsVisit links target head atom farther nexts distances queue k
    → farther < 18 → k < length nexts → (get_or nexts k d).to < length links → get_or distances (get_or nexts k d).to 0
    ≡ 18 → IsVisit links target head atom farther nexts (set distances (get_or nexts k d).to farther)
    (queue ++ (get_or nexts k d).to ∷ []) (k + 1)
visit-push links target head atom farther nexts distances queue k d h near inside within far =
    let w : ℕ = (get_or nexts k d).to in
    let size = h.spread.count in
    let there : w < length distances = omega arith in
    let new : get_or (set distances w farther) w 0 ≡ farther = get_or-set_same distances w farther 0 there in
    let old : (a : ℕ) → a ≢ w → get_or (set distances w farther) a 0 ≡ get_or distances a 0 = λ a ne.
    get_or-set_other distances w a farther 0 ne in
    let step = h.distance in
    let apart : atom ≢ w = λ e.
    let e' : get_or distances atom 0 ≡ 18 = rw e far in
    omega arith in
    record {
      spread = spread-push links target distances queue head w farther h.spread h.inside within far (rw h.here step)
          near;
      inside = let e = length_push queue w in let f = h.inside in omega arith;
      here = get_or_append_left queue (w ∷ []) 0 head h.inside ∙ h.here;
      distance = rw (old atom apart) h.distance;
      done = λ j c low. elim (cases_eq (get_or nexts j c).to w) [
        | inl e ↦ rw (e, new) (omega arith)
        | inr ne ↦ elim (cases_lt j k) [
          | inl l ↦ rw (old (get_or nexts j c).to ne) (h.done j c l)
          | inr l ↦
              let e : j ≡ k = omega arith in
              absurd (ne (ap (λ i. (get_or nexts i c).to) e ∙ ap (λ m. m.to) (get_or_default nexts k c d inside)))
        ]
      ];
    }

-- a link to an atom that has a distance already
pub visit-skip : (links : List (List Link)) (target head atom farther : ℕ) (nexts : List Link)
    (distances queue : List ℕ) (k : ℕ) (d : Link) → IsVisit links target head atom farther nexts distances queue k
    → k < length nexts → (get_or nexts k d).to < length links → get_or distances (get_or nexts k d).to 0 ≢ 18
    → IsVisit links target head atom farther nexts distances queue (k + 1)
visit-skip links target head atom farther nexts distances queue k d h inside within old =
    let w : ℕ = (get_or nexts k d).to in
    let size = h.spread.count in
    let place = h.spread.queued w (omega arith) old in
    let at : get_or queue place.0 0 ≡ w = get_or_default queue place.0 0 w place.1 ∙ place.2 in
    let near = rw (at, h.here) at (h.spread.close head place.0 (omega arith) h.inside place.1) in
    let step = h.distance in
    let low : get_or distances w 0 ≤ farther = omega arith in
    record {
      spread = h.spread;
      inside = h.inside;
      here = h.here;
      distance = h.distance;
      done = λ j c low'. elim (cases_lt j k) [
        | inl l ↦ h.done j c l
        | inr l ↦
            let e : j ≡ k = omega arith in
            let same : (get_or nexts j c).to ≡ w = ap (λ i. (get_or nexts i c).to) e
            ∙ ap (λ m. m.to) (get_or_default nexts k c d inside) in
            rw same low
      ];
    }
