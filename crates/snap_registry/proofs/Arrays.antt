-- Pins in two lists: one more, and one less.
use Rattle.std.proofs.Common.{◌≡◌, ◌≢◌, ◌==◌, ◌+◌, ◌++◌, ◌<◌, ◌≤◌, ◌∙◌, AllPairs, ap, ap₂, arith, Contains, drop, eq-eqb, eqb-true, filter, get_or, length, List, [], ◌∷◌, map, not, refl, slice_index, slice_set, subst, suc, sym, take, true, zero, ℕ}
use borrow.Rule.Slice.PartMut.{mid_of, put_mid}
use Rattle.std.proofs.Math.Seq.{take_all}
use Rattle.std.proofs.lemmas.Grind.{get_or_default_zero}
use Rattle.std.proofs.lemmas.List.{get_or-take, length-append, length-take-le, take-append-le, take_more, take_more_set}
use Rattle.std.specs.List.{remove}
use Rattle.std.proofs.lemmas.Bool.{cond-false, cond-true, false_from_ne_true}
use Rattle.snap_registry.specs.Pins.{IsFree, is_other, pins_of}
use Rattle.snap_registry.specs.declared.Pin.{Pin}

pub pins-length : (ss vs : List ℕ) → length vs ≡ length ss → length (pins_of ss vs) ≡ length ss
pins-length [] vs e = refl
pins-length (s ∷ ss) [] e = absurd (omega (arith, e))
pins-length (s ∷ ss) (v ∷ vs) e = ap (λ n. suc n) (pins-length ss vs (omega (arith, e)))

pub pins-versions : (ss vs : List ℕ) → length vs ≡ length ss → map (λ (p : Pin). p.version) (pins_of ss vs) ≡ vs
pins-versions [] [] e = refl
pins-versions [] (v ∷ vs) e = absurd (omega (arith, e))
pins-versions (s ∷ ss) [] e = absurd (omega (arith, e))
pins-versions (s ∷ ss) (v ∷ vs) e = ap (λ l. v ∷ l) (pins-versions ss vs (omega (arith, e)))

pub pins-pushed : (ss vs : List ℕ) (s v : ℕ) → length vs ≡ length ss
    → pins_of (ss ++ s ∷ []) (vs ++ v ∷ []) ≡ pins_of ss vs ++ record { slot = s; version = v } ∷ []
pins-pushed [] [] s v e = refl
pins-pushed [] (w ∷ vs) s v e = absurd (omega (arith, e))
pins-pushed (r ∷ ss) [] s v e = absurd (omega (arith, e))
pins-pushed (r ∷ ss) (w ∷ vs) s v e = ap (λ l. record { slot = r; version = w } ∷ l)
    (pins-pushed ss vs s v (omega (arith, e)))

-- this slot is not among these
abbrev pub Misses : ℕ → List ℕ → Type 0
Misses slot [] = Unit {0}
Misses slot (s ∷ ss) = (s ≢ slot) × Misses slot ss

pub misses : (slot : ℕ) (ss : List ℕ) → ((k : ℕ) (d : ℕ) → k < length ss → get_or ss k d ≢ slot) → Misses slot ss
misses slot [] h = tt
misses slot (s ∷ ss) h = (h 0 0 (omega arith), misses slot ss (λ k d less. h (suc k) d (omega (arith, less))))

pub pins-free : (slot : ℕ) (ss vs : List ℕ) → Misses slot ss → IsFree slot (pins_of ss vs)
pins-free slot [] vs m k d less = absurd (omega (arith, less))
pins-free slot (s ∷ ss) [] m k d less = absurd (omega (arith, less))
pins-free slot (s ∷ ss) (v ∷ vs) m zero d less = m.0
pins-free slot (s ∷ ss) (v ∷ vs) m (suc k) d less = pins-free slot ss vs m.1 k d (omega (arith, less))

is-other : (s slot : ℕ) → s ≢ slot → not (s == slot) ≡ true
is-other s slot apart = ap not (false_from_ne_true (s == slot) (λ t. apart (eqb-true s slot t)))

others-stay : (slot : ℕ) (ss vs : List ℕ) → Misses slot ss → filter (is_other slot) (pins_of ss vs) ≡ pins_of ss vs
others-stay slot [] vs m = refl
others-stay slot (s ∷ ss) [] m = refl
others-stay slot (s ∷ ss) (v ∷ vs) m =
    let p : Pin = record { slot = s; version = v } in
    cond-true (not (s == slot)) (p ∷ filter (is_other slot) (pins_of ss vs)) (filter (is_other slot) (pins_of ss vs))
    (is-other s slot m.0) ∙ ap (λ l. p ∷ l) (others-stay slot ss vs m.1)

-- no slot stands twice
abbrev pub Differ : List ℕ → Type 0
Differ [] = Unit {0}
Differ (s ∷ ss) = Misses s ss × Differ ss

pub differ : (ss : List ℕ) → ((i j : ℕ) (d : ℕ) → i < j → j < length ss → get_or ss i d ≢ get_or ss j d) → Differ ss
differ [] h = tt
differ (s ∷ ss) h = (
  misses s ss (λ k d less e. h 0 (suc k) d (omega arith) (omega (arith, less)) (sym e)),
  differ ss
      (λ i j d less within. h (suc i) (suc j) d (omega (arith, less)) (omega (arith, within))),
)

misses-at : (slot : ℕ) (ss : List ℕ) (i : ℕ) → Misses slot ss → i < length ss → slice_index ss i ≢ slot
misses-at slot [] i m less e = omega (arith, less)
misses-at slot (s ∷ ss) zero m less e = m.0 e
misses-at slot (s ∷ ss) (suc i) m less e = misses-at slot ss i m.1 (omega (arith, less)) e

-- without the pin at a place there are the others
pub pins-removed : (slot : ℕ) (ss vs : List ℕ) (i : ℕ) → Differ ss → length vs ≡ length ss → i < length ss
    → slice_index ss i ≡ slot
    → pins_of (remove ss i) (remove vs i) ≡ filter (is_other slot) (pins_of ss vs)
pins-removed slot [] vs i apart e less at = absurd (omega (arith, less))
pins-removed slot (s ∷ ss) [] i apart e less at = absurd (omega (arith, e))
pins-removed slot (s ∷ ss) (v ∷ vs) zero apart e less at =
    let p : Pin = record { slot = s; version = v } in
    sym (cond-false (not (s == slot)) (p ∷ filter (is_other slot) (pins_of ss vs))
    (filter (is_other slot) (pins_of ss vs)) (ap not (eq-eqb s slot at))
    ∙ others-stay slot ss vs (subst (λ k. Misses k ss) at apart.0))
pins-removed slot (s ∷ ss) (v ∷ vs) (suc i) apart e less at =
    let p : Pin = record { slot = s; version = v } in
    let other : s ≢ slot = λ same. misses-at s ss i apart.0 (omega (arith, less)) (at ∙ sym same) in
    ap (λ l. p ∷ l) (pins-removed slot ss vs i apart.1 (omega (arith, e)) (omega (arith, less)) at)
    ∙ sym (cond-true (not (s == slot)) (p ∷ filter (is_other slot) (pins_of ss vs))
    (filter (is_other slot) (pins_of ss vs)) (is-other s slot other))

rotated-first : (n x : ℕ) (xs : List ℕ) → n ≤ length xs → take n ((take n xs ++ x ∷ []) ++ drop n xs) ≡ take n xs
rotated-first n x xs le =
    let l : length (take n xs) ≡ n = length-take-le n xs le in
    take-append-le n (take n xs ++ x ∷ []) (drop n xs) (omega (arith, l, length-append (take n xs) (x ∷ [])))
    ∙ (take-append-le n (take n xs) (x ∷ []) (omega (arith, l)) ∙ take_all n (take n xs) (omega (arith, l)))

-- with w numbers from a place on rotated by one place
abbrev pub turned : ℕ → ℕ → List ℕ → List ℕ
turned a w xs = put_mid a w xs (drop 1 (mid_of a w xs) ++ take 1 (mid_of a w xs))

-- up to the last of them, one is gone
pub rotated : (a k n : ℕ) (xs : List ℕ) → n ≡ a + k → a + k < length xs
    → take n (turned a (suc k) xs) ≡ remove (take (suc n) xs) a
rotated a k n [] e less = absurd (omega (arith, less))
rotated zero k n (x ∷ xs) e less =
    let same : k ≡ n = omega (arith, e) in
    subst (λ j. take n ((take j xs ++ x ∷ []) ++ drop j xs) ≡ take n xs) (sym same)
    (rotated-first n x xs (omega (arith, e, less)))
rotated (suc a) k zero (x ∷ xs) e less = absurd (omega (arith, e))
rotated (suc a) k (suc n) (x ∷ xs) e less = ap (λ l. x ∷ l) (rotated a k n xs (omega (arith, e)) (omega (arith, less)))

-- The first n of two arrays, as a registry holds them.
pub held-count : (n : ℕ) (ss vs : List ℕ) → n ≤ length ss → length vs ≡ length ss
    → length (pins_of (take n ss) (take n vs)) ≡ n
held-count n ss vs le e =
    let s : length (take n ss) ≡ n = length-take-le n ss le in
    let v : length (take n vs) ≡ n = length-take-le n vs (omega (arith, le, e)) in
    pins-length (take n ss) (take n vs) (v ∙ sym s) ∙ s

pub held-versions : (n : ℕ) (ss vs : List ℕ) → n ≤ length ss → length vs ≡ length ss
    → map (λ (p : Pin). p.version) (pins_of (take n ss) (take n vs)) ≡ take n vs
held-versions n ss vs le e =
    let s : length (take n ss) ≡ n = length-take-le n ss le in
    let v : length (take n vs) ≡ n = length-take-le n vs (omega (arith, le, e)) in
    pins-versions (take n ss) (take n vs) (v ∙ sym s)

pub held-pushed : (n v : ℕ) (ss vs : List ℕ) → n < length ss → length vs ≡ length ss
    → pins_of (take (n + 1) ss) (take (n + 1) (slice_set vs n v)) ≡ pins_of (take n ss) (take n vs)
    ++ record { slot = get_or ss n 0; version = v } ∷ []
held-pushed n v ss vs less e =
    let s : length (take n ss) ≡ n = length-take-le n ss (omega (arith, less)) in
    let w : length (take n vs) ≡ n = length-take-le n vs (omega (arith, less, e)) in
    let slots : take (n + 1) ss ≡ take n ss ++ get_or ss n 0 ∷ [] = take_more ss n 0 less in
    let versions : take (n + 1) (slice_set vs n v) ≡ take n vs ++ v ∷ [] = take_more_set vs n v (omega (arith, less, e))
    in
    ap₂ pins_of slots versions ∙ pins-pushed (take n ss) (take n vs) (get_or ss n 0) v (w ∙ sym s)

pub held-free : (n : ℕ) (ss vs : List ℕ) → AllPairs (λ s t. s ≢ t) ss → n < length ss
    → IsFree (get_or ss n 0) (pins_of (take n ss) (take n vs))
held-free n ss vs apart less =
    pins-free (get_or ss n 0) (take n ss) (take n vs)
    (misses (get_or ss n 0) (take n ss) (λ k d within. early k d
    (omega (arith, within, length-take-le n ss (omega (arith, less))))))
  where
    early : (k d : ℕ) → k < n → get_or (take n ss) k d ≢ get_or ss n 0
    early k d before same = apart k n 0 before less (sym (get_or_default_zero ss k d (omega (arith, before, less)))
        ∙ (sym (get_or-take n ss k d before) ∙ same))

pub held-removed : (a k n slot : ℕ) (ss vs : List ℕ) → AllPairs (λ s t. s ≢ t) ss → length vs ≡ length ss → n ≡ a + k
    → a + k < length ss → slice_index ss a ≡ slot
    → pins_of (remove (take (suc n) ss) a) (remove (take (suc n) vs) a) ≡ filter (is_other slot)
    (pins_of (take (suc n) ss) (take (suc n) vs))
held-removed a k n slot ss vs apart e same less at =
    let s : length (take (suc n) ss) ≡ suc n = length-take-le (suc n) ss (omega (arith, same, less)) in
    let v : length (take (suc n) vs) ≡ suc n = length-take-le (suc n) vs (omega (arith, same, less, e)) in
    pins-removed slot (take (suc n) ss) (take (suc n) vs) a
    (differ (take (suc n) ss) (λ i j d before within. pair i j d before (omega (arith, within, s))))
    (v ∙ sym s) (omega (arith, s, same)) (get_or-take (suc n) ss a 0 (omega (arith, same)) ∙ at)
  where
    pair : (i j d : ℕ) → i < j → j < suc n → get_or (take (suc n) ss) i d ≢ get_or (take (suc n) ss) j d
    pair i j d before within e =
        apart i j d before (omega (arith, within, same, less))
        (sym (get_or-take (suc n) ss i d (omega (arith, before, within))) ∙ (e ∙ get_or-take (suc n) ss j d within))

-- the slot of a pin stands among the slots
pub slot-held : (p : Pin) (ss vs : List ℕ) → Contains (pins_of ss vs) p → Contains ss p.slot
slot-held p [] vs c = absurd (omega (arith, c.1))
slot-held p (s ∷ ss) [] c = absurd (omega (arith, c.1))
slot-held p (s ∷ ss) (v ∷ vs) (zero, less, e) = (0, omega arith, ap (λ (q : Pin). q.slot) e)
slot-held p (s ∷ ss) (v ∷ vs) (suc k, less, e) = let rest = slot-held p ss vs (k, omega (arith, less), e)
    in (suc rest.0, omega (arith, rest.1), rest.2)

abbrev pub Leaves : ℕ → ℕ → ℕ → ℕ → ℕ → List ℕ → List ℕ → Type 0
Leaves a w m held slot ss vs = pins_of (take m (turned a w ss)) (take m (turned a w vs))
    ≡ filter (is_other slot) (pins_of (take held ss) (take held vs))

leaves : (a k n slot : ℕ) (ss vs : List ℕ) → AllPairs (λ s t. s ≢ t) ss → length vs ≡ length ss → n ≡ a + k
    → a + k < length ss → slice_index ss a ≡ slot → Leaves a (suc k) n (suc n) slot ss vs
leaves a k n slot ss vs apart e same less at =
    ap₂ pins_of (rotated a k n ss same less) (rotated a k n vs same (omega (arith, e, less)))
    ∙ held-removed a k n slot ss vs apart e same less at

pub held-turned : (a k n w m held slot : ℕ) (ss vs : List ℕ) → AllPairs (λ s t. s ≢ t) ss → length vs ≡ length ss
    → n ≡ a + k → a + k < length ss → slice_index ss a ≡ slot
    → w ≡ suc k → m ≡ n → held ≡ suc n → Leaves a w m held slot ss vs
held-turned a k n w m held slot ss vs apart e same less at p q r =
    subst (λ w. Leaves a w m held slot ss vs) (sym p)
    (subst (λ m. Leaves a (suc k) m held slot ss vs) (sym q)
    (subst (λ h. Leaves a (suc k) n h slot ss vs) (sym r) (leaves a k n slot ss vs apart e same less at)))
