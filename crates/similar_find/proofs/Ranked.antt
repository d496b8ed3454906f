-- What is offered, ranked: those that pass, each behind those that are better.
use Rattle.std.proofs.Common.{◌≡◌, ◌≢◌, ◌⊎◌, ℕ, zero, suc, ◌+◌, ◌<◌, ◌&&◌, Bool, true, false, cond, List, [], ◌∷◌, take, Option, Some, count_by, refl, sym, ap, ◌∙◌, subst, arith, inl, inr}
use Rattle.std.proofs.lemmas.List.Sums.{sum_by-cons}
use Rattle.std.proofs.lemmas.Option.{slice_get_within, slice_get-get_or, get_or_from_slice_get}
use Rattle.std.specs.Prelude.{slice_get, Contains}
use Rattle.std.specs.List.{AllByRecursion}
use Rattle.similar_find.specs.Board.{Offer, Board, passes, is_better, betters, AreOffers, IsBest}
use Rattle.similar_find.proofs.Order.{better-itself, better-turned, better-either, better-on}

-- behind those that are better
abbrev pub placed : Offer → List Offer → List Offer
placed x [] = x ∷ []
placed x (y ∷ ys) = cond (is_better y x) (y ∷ placed x ys) (x ∷ y ∷ ys)

abbrev pub ranked : Board → List Offer → List Offer
ranked board [] = []
ranked board (x ∷ xs) = cond (passes board x) (placed x (ranked board xs)) (ranked board xs)

-- each is better than all behind it
abbrev pub AreRanked : List Offer → Type 0
AreRanked [] = Unit {0}
AreRanked (x ∷ xs) = AllByRecursion (λ y. is_better x y ≡ true) xs × AreRanked xs

abbrev pub HaveBits : List Offer → Type 0
HaveBits xs = AllByRecursion (λ y. 0 < y.2) xs

abbrev pub AreOthers : Offer → List Offer → Type 0
AreOthers x xs = AllByRecursion (λ y. y.0 ≢ x.0) xs

-- what holds of each of a list holds of each where one more is placed
all_placed : (P : Offer → Type 0) (x : Offer) (ys : List Offer) → P x → AllByRecursion P ys
    → AllByRecursion P (placed x ys)
all_placed P x [] p h = (p, tt)
all_placed P x (y ∷ ys) p h = by_test (is_better y x) (all_placed P x ys p h.1)
  where
    by_test : (b : Bool) → AllByRecursion P (placed x ys)
        → AllByRecursion P (cond b (y ∷ placed x ys) (x ∷ y ∷ ys))
    by_test true k = (h.0, k)
    by_test false k = (p, h)

pub all_ranked : (P : Offer → Type 0) (board : Board) (xs : List Offer) → AllByRecursion P xs
    → AllByRecursion P (ranked board xs)
all_ranked P board [] h = tt
all_ranked P board (x ∷ xs) h = by_test (passes board x) (all_ranked P board xs h.1)
  where
    by_test : (b : Bool) → AllByRecursion P (ranked board xs)
        → AllByRecursion P (cond b (placed x (ranked board xs)) (ranked board xs))
    by_test true k = all_placed P x (ranked board xs) h.0 k
    by_test false k = k

behind : (x y : Offer) (ys : List Offer) → 0 < x.2 → 0 < y.2 → HaveBits ys → is_better x y ≡ true
    → AllByRecursion (λ z. is_better y z ≡ true) ys → AllByRecursion (λ z. is_better x z ≡ true) ys
behind x y [] hx hy hs e h = tt
behind x y (z ∷ zs) hx hy hs e h = (better-on x y z hx hy hs.0 e h.0, behind x y zs hx hy hs.1 e h.1)

placed-ranked : (x : Offer) (ys : List Offer) → 0 < x.2 → HaveBits ys → AreOthers x ys → AreRanked ys
    → AreRanked (placed x ys)
placed-ranked x [] hx hs others h = (tt, tt)
placed-ranked x (y ∷ ys) hx hs others h =
    by_test (is_better y x) refl (placed-ranked x ys hx hs.1 others.1 h.1)
  where
    by_test : (b : Bool) → is_better y x ≡ b → AreRanked (placed x ys)
        → AreRanked (cond b (y ∷ placed x ys) (x ∷ y ∷ ys))
    by_test true e k = (all_placed (λ z. is_better y z ≡ true) x ys e h.0, k)
    by_test false e k =
        let first = better-either y x others.0 e in
        ((first, behind x y ys hx hs.0 hs.1 first h.0), h)

pub offers-bits : (xs : List Offer) → AreOffers xs → HaveBits xs
offers-bits [] h = tt
offers-bits (x ∷ xs) h = (h.0, offers-bits xs h.2)

pub ranked-ranked : (board : Board) (xs : List Offer) → AreOffers xs → AreRanked (ranked board xs)
ranked-ranked board [] h = tt
ranked-ranked board (x ∷ xs) h = by_test (passes board x) (ranked-ranked board xs h.2)
  where
    by_test : (b : Bool) → AreRanked (ranked board xs)
        → AreRanked (cond b (placed x (ranked board xs)) (ranked board xs))
    by_test true k =
        placed-ranked x (ranked board xs) h.0 (all_ranked (λ y. 0 < y.2) board xs (offers-bits xs h.2))
        (all_ranked (λ y. y.0 ≢ x.0) board xs h.1) k
    by_test false k = k

-- how many pass a test
count-cons : (p : Offer → Bool) (x : Offer) (xs : List Offer) → count_by p (x ∷ xs) ≡ cond (p x) 1 0 + count_by p xs
count-cons p x xs = sum_by-cons (λ y. cond (p y) 1 0) x xs

count-placed : (p : Offer → Bool) (x : Offer) (ys : List Offer) → count_by p (placed x ys) ≡ cond (p x) 1 0
    + count_by p ys
count-placed p x [] = count-cons p x []
count-placed p x (y ∷ ys) = by_test (is_better y x) (count-placed p x ys)
  where
    by_test : (b : Bool) → count_by p (placed x ys) ≡ cond (p x) 1 0 + count_by p ys
        → count_by p (cond b (y ∷ placed x ys) (x ∷ y ∷ ys)) ≡ cond (p x) 1 0 + count_by p (y ∷ ys)
    by_test true k = let a = count-cons p y (placed x ys) in let b = count-cons p y ys in omega arith
    by_test false k = count-cons p x (y ∷ ys)

count-ranked : (board : Board) (p : Offer → Bool) (xs : List Offer) → count_by p (ranked board xs)
    ≡ count_by (λ y. passes board y && p y) xs
count-ranked board p [] = refl
count-ranked board p (x ∷ xs) = by_test (passes board x) refl (count-ranked board p xs)
  where
    by_test : (b : Bool) → passes board x ≡ b → count_by p (ranked board xs) ≡ count_by (λ y. passes board y && p y) xs
        → count_by p (cond b (placed x (ranked board xs)) (ranked board xs))
        ≡ count_by (λ y. passes board y && p y) (x ∷ xs)
    by_test true e k =
        count-placed p x (ranked board xs) ∙ ap (λ n. cond (p x) 1 0 + n) k
        ∙ sym (count-cons (λ y. passes board y && p y) x xs
        ∙ ap (λ t. cond (t && p x) 1 0 + count_by (λ y. passes board y && p y) xs) e)
    by_test false e k =
        let n = count_by (λ y. passes board y && p y) xs in
        let z : n ≡ 0 + n = omega arith in
        k ∙ z ∙ sym (count-cons (λ y. passes board y && p y) x xs ∙ ap (λ t. cond (t && p x) 1 0 + n) e)

-- membership, by places
abbrev pub IsIn : Offer → List Offer → Type 0
IsIn x xs = (k : ℕ) × (slice_get xs k ≡ Some x)

pub in-from : (x : Offer) (xs : List Offer) → Contains xs x → IsIn x xs
in-from x xs h = (h.0, slice_get-get_or xs h.0 x h.1 ∙ ap (λ y. Some y) h.2)

pub in-to : (x : Offer) (xs : List Offer) → IsIn x xs → Contains xs x
in-to x xs h = (h.0, slice_get_within xs h.0 x h.1, get_or_from_slice_get xs h.0 x x h.1)

some-same : (x y : Offer) → ◌≡◌ {A = Option Offer} (Some x) (Some y) → x ≡ y
some-same x y e = cc

-- what is placed is in the list, and what was in it still is
in-placed : (x : Offer) (ys : List Offer) → IsIn x (placed x ys)
in-placed x [] = (0, refl)
in-placed x (y ∷ ys) = by_test (is_better y x) (in-placed x ys)
  where
    by_test : (b : Bool) → IsIn x (placed x ys) → IsIn x (cond b (y ∷ placed x ys) (x ∷ y ∷ ys))
    by_test true k = (suc k.0, k.1)
    by_test false k = (0, refl)

in-stays : (x z : Offer) (ys : List Offer) (k : ℕ) → slice_get ys k ≡ Some z → IsIn z (placed x ys)
in-stays x z [] k e = absurd (cc)
in-stays x z (y ∷ ys) zero e = by_test (is_better y x)
  where
    by_test : (b : Bool) → IsIn z (cond b (y ∷ placed x ys) (x ∷ y ∷ ys))
    by_test true = (0, e)
    by_test false = (1, e)
in-stays x z (y ∷ ys) (suc k) e = by_test (is_better y x) (in-stays x z ys k e)
  where
    by_test : (b : Bool) → IsIn z (placed x ys) → IsIn z (cond b (y ∷ placed x ys) (x ∷ y ∷ ys))
    by_test true h = (suc h.0, h.1)
    by_test false h = (suc (suc k), e)

placed-in : (x z : Offer) (ys : List Offer) (k : ℕ) → slice_get (placed x ys) k ≡ Some z → (z ≡ x) ⊎ IsIn z ys
placed-in x z [] zero e = inl (sym (some-same x z e))
placed-in x z [] (suc k) e = absurd (cc)
placed-in x z (y ∷ ys) k e = by_test (is_better y x) k e (placed-in x z ys)
  where
    by_test : (b : Bool) (k : ℕ) → slice_get (cond b (y ∷ placed x ys) (x ∷ y ∷ ys)) k ≡ Some z
        → ((j : ℕ) → slice_get (placed x ys) j ≡ Some z → (z ≡ x) ⊎ IsIn z ys) → (z ≡ x) ⊎ IsIn z (y ∷ ys)
    by_test true zero f h = inr (0, f)
    by_test true (suc j) f h = elim (h j f) [ inl s ↦ inl s | inr i ↦ inr (suc i.0, i.1) ]
    by_test false zero f h = inl (sym (some-same x z f))
    by_test false (suc j) f h = inr (j, f)

-- the ranked are those that are offered and pass
pub ranked-in : (board : Board) (z : Offer) (xs : List Offer) → IsIn z (ranked board xs)
    → IsIn z xs × (passes board z ≡ true)
ranked-in board z [] h = absurd (let e = h.1 in cc)
ranked-in board z (x ∷ xs) h = by_test (passes board x) refl h (ranked-in board z xs)
  where
    later : IsIn z xs × (passes board z ≡ true) → IsIn z (x ∷ xs) × (passes board z ≡ true)
    later p = ((suc p.0.0, p.0.1), p.1)

    by_test : (b : Bool) → passes board x ≡ b
        → IsIn z (cond b (placed x (ranked board xs)) (ranked board xs))
        → (IsIn z (ranked board xs) → IsIn z xs × (passes board z ≡ true))
        → IsIn z (x ∷ xs) × (passes board z ≡ true)
    by_test true e i k = elim (placed-in x z (ranked board xs) i.0 i.1) [
      | inl s ↦ ((0, ap (λ y. Some y) (sym s)), ap (passes board) s ∙ e)
      | inr j ↦ later (k j)
    ]
    by_test false e i k = later (k i)

pub in-ranked : (board : Board) (z : Offer) (xs : List Offer) (k : ℕ) → slice_get xs k ≡ Some z
    → passes board z ≡ true → IsIn z (ranked board xs)
in-ranked board z [] k e p = absurd (cc)
in-ranked board z (x ∷ xs) zero e p =
    let same : x ≡ z = some-same x z e in
    let here : ranked board (x ∷ xs) ≡ placed x (ranked board xs) =
    ap (λ b. cond b (placed x (ranked board xs)) (ranked board xs)) (ap (passes board) same ∙ p) in
    subst (λ ys. IsIn z ys) (sym here) (subst (λ y. IsIn y (placed x (ranked board xs))) same
    (in-placed x (ranked board xs)))
in-ranked board z (x ∷ xs) (suc k) e p = by_test (passes board x) (in-ranked board z xs k e p)
  where
    by_test : (b : Bool) → IsIn z (ranked board xs)
        → IsIn z (cond b (placed x (ranked board xs)) (ranked board xs))
    by_test true h = in-stays x z (ranked board xs) h.0 h.1
    by_test false h = h

-- of a ranked list, those before an element are the better ones
none-better : (x : Offer) (ys : List Offer) → AllByRecursion (λ y. is_better x y ≡ true) ys
    → count_by (λ y. is_better y x) ys ≡ 0
none-better x [] h = refl
none-better x (y ∷ ys) h =
    let n = count_by (λ z. is_better z x) ys in
    let b : n ≡ 0 = none-better x ys h.1 in
    let e : 0 + n ≡ 0 = omega arith in
    count-cons (λ z. is_better z x) y ys ∙ ap (λ t. cond t 1 0 + n) (better-turned x y h.0) ∙ e

pub all_at : (P : Offer → Type 0) (xs : List Offer) (k : ℕ) (x : Offer) → AllByRecursion P xs → slice_get xs k ≡ Some x
    → P x
all_at P [] k x h e = absurd (cc)
all_at P (y ∷ ys) zero x h e = let s : y ≡ x = some-same y x e in subst P s h.0
all_at P (y ∷ ys) (suc k) x h e = all_at P ys k x h.1 e

pub place-better : (xs : List Offer) (k : ℕ) (x : Offer) → AreRanked xs → slice_get xs k ≡ Some x
    → count_by (λ y. is_better y x) xs ≡ k
place-better [] k x h e = absurd (cc)
place-better (y ∷ ys) zero x h e =
    let s : y ≡ x = some-same y x e in
    let n = count_by (λ z. is_better z x) ys in
    let b : n ≡ 0 = none-better x ys (subst (λ (t : Offer). AllByRecursion (λ z. is_better t z ≡ true) ys) s h.0) in
    let f : 0 + n ≡ 0 = omega arith in
    count-cons (λ z. is_better z x) y ys ∙ ap (λ (t : Offer). cond (is_better t x) 1 0 + n) s
    ∙ ap (λ t. cond t 1 0 + n) (better-itself x) ∙ f
place-better (y ∷ ys) (suc k) x h e =
    let n = count_by (λ z. is_better z x) ys in
    let b : n ≡ k = place-better ys k x h.1 e in
    let f : 1 + n ≡ suc k = omega arith in
    count-cons (λ z. is_better z x) y ys
    ∙ ap (λ t. cond t 1 0 + n) (all_at (λ z. is_better y z ≡ true) ys k x h.0 e) ∙ f

-- the front of the ranked is the best
get-take : (n k : ℕ) (xs : List Offer) (x : Offer) → k < n → slice_get xs k ≡ Some x → slice_get (take n xs) k ≡ Some x
get-take zero k xs x lt e = absurd (omega arith)
get-take (suc n) k [] x lt e = absurd (cc)
get-take (suc n) zero (y ∷ ys) x lt e = e
get-take (suc n) (suc k) (y ∷ ys) x lt e = get-take n k ys x (omega arith) e

take-get : (n k : ℕ) (xs : List Offer) (x : Offer) → slice_get (take n xs) k ≡ Some x
    → (k < n) × (slice_get xs k ≡ Some x)
take-get zero k xs x e = absurd (cc)
take-get (suc n) k [] x e = absurd (cc)
take-get (suc n) zero (y ∷ ys) x e = (omega arith, e)
take-get (suc n) (suc k) (y ∷ ys) x e = let p = take-get n k ys x e in let q = p.0 in (omega arith, p.1)

abbrev pub IsChosen : Board → List Offer → ℕ → Offer → Type 0
IsChosen board offered place x =
    Contains offered x × (passes board x ≡ true) × (betters board offered x ≡ place) × (place < board.most)

pub chosen-front : (board : Board) (offered : List Offer) (place : ℕ) (x : Offer) → AreOffers offered
    → slice_get (take board.most (ranked board offered)) place ≡ Some x → IsChosen board offered place x
chosen-front board offered place x are e =
    let p = take-get board.most place (ranked board offered) x e in
    let i = ranked-in board x offered (place, p.1) in
    let n = place-better (ranked board offered) place x (ranked-ranked board offered are) p.1 in (
      in-to x offered i.0,
      i.1,
      sym (count-ranked board (λ y. is_better y x) offered) ∙ n,
      p.0,
    )

pub front-chosen : (board : Board) (offered : List Offer) (place : ℕ) (x : Offer) → AreOffers offered
    → IsChosen board offered place x → slice_get (take board.most (ranked board offered)) place ≡ Some x
front-chosen board offered place x are h =
    let i = in-from x offered h.0 in
    let r = in-ranked board x offered i.0 i.1 h.1 in
    let n = place-better (ranked board offered) r.0 x (ranked-ranked board offered are) r.1 in
    let m = count-ranked board (λ y. is_better y x) offered in
    let same : r.0 ≡ place = sym n ∙ m ∙ h.2 in
    get-take board.most place (ranked board offered) x h.3 (ap (λ k. slice_get (ranked board offered) k) (sym same)
    ∙ r.1)

-- lists that agree at each place are one
same_by_places : (xs ys : List Offer) → ((k : ℕ) (x : Offer) → slice_get xs k ≡ Some x → slice_get ys k ≡ Some x)
    → ((k : ℕ) (x : Offer) → slice_get ys k ≡ Some x → slice_get xs k ≡ Some x) → xs ≡ ys
same_by_places [] [] h k = refl
same_by_places [] (y ∷ ys) h k = absurd (let e = k 0 y refl in cc)
same_by_places (x ∷ xs) [] h k = absurd (let e = h 0 x refl in cc)
same_by_places (x ∷ xs) (y ∷ ys) h k =
    let s : y ≡ x = some-same y x (h 0 x refl) in
    let t = same_by_places xs ys (λ n z. h (suc n) z) (λ n z. k (suc n) z) in
    ap (λ z. z ∷ xs) (sym s) ∙ ap (λ zs. y ∷ zs) t

pub best-is : (board : Board) (offered : List Offer) → AreOffers offered → IsBest offered board → board.hits
    ≡ take board.most (ranked board offered)
best-is board offered are h = same_by_places board.hits (take board.most (ranked board offered))
    (λ k x e. front-chosen board offered k x are ((h.each k x).0 e))
    (λ k x e. (h.each k x).1 (chosen-front board offered k x are e))

pub best-from : (board : Board) (offered : List Offer) → AreOffers offered
    → board.hits ≡ take board.most (ranked board offered) → IsBest offered board
best-from board offered are e = record {
  each = λ place x. (
    λ f. chosen-front board offered place x are (ap (λ hs. slice_get hs place) (sym e) ∙ f),
    λ f. ap (λ hs. slice_get hs place) e ∙ front-chosen board offered place x are f,
  );
}
