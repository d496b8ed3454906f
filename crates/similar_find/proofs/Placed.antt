-- One more that is offered goes to its place among the hits.
use Rattle.std.proofs.lemmas.Option.{get_or_from_slice_get}
use Rattle.std.proofs.Common.{◌≡◌, ℕ, zero, suc, ◌-◌, ◌<◌, ◌≤◌, Bool, true, false, cond, List, [], ◌∷◌, ◌++◌, length, get_or, take, drop, refl, sym, ap, ◌∙◌, subst, arith, ◌*◌, ◌≢◌, Some}
use Rattle.std.specs.Prelude.{if◌then◌else◌, Result, Ok, Err, slice_get}
use Rattle.std.specs.Result.{IsOk, is_ok}
use Rattle.std.specs.List.{AllByRecursion, insert}
use Rattle.std.specs.List.Sorted.{IsPartitionedBy, IsPartitionPoint}
use Rattle.similar_find.specs.Board.{Offer, Board, passes, is_better, AreOffers, IsBest}
use Rattle.similar_find.proofs.Order.{better-on, fails-too, better-than-less}
use Rattle.similar_find.proofs.Ranked.{placed, ranked, AreRanked, HaveBits, offers-bits, all_ranked, ranked-ranked, best-is, best-from, all_at}

-- the front of a list gives the front of what is placed
pub take-placed : (n : ℕ) (x : Offer) (ys : List Offer) → take n (placed x (take n ys)) ≡ take n (placed x ys)
take-placed zero x ys = refl
take-placed (suc n) x [] = refl
take-placed (suc n) x (y ∷ ys) = by_test (is_better y x) (take-placed n x ys)
  where
    front : (m : ℕ) (zs : List Offer) → take m (y ∷ take m zs) ≡ take m (y ∷ zs)
    front zero zs = refl
    front (suc m) zs = ap (λ ws. y ∷ ws) (again m zs)
      where
        again : (m : ℕ) (zs : List Offer) → take m (take (suc m) zs) ≡ take m zs
        again zero zs = refl
        again (suc m) [] = refl
        again (suc m) (z ∷ zs) = ap (λ ws. z ∷ ws) (again m zs)

    by_test : (b : Bool) → take n (placed x (take n ys)) ≡ take n (placed x ys)
        → take (suc n) (cond b (y ∷ placed x (take n ys)) (x ∷ y ∷ take n ys))
        ≡ take (suc n) (cond b (y ∷ placed x ys) (x ∷ y ∷ ys))
    by_test true h = ap (λ zs. y ∷ zs) h
    by_test false h = ap (λ zs. x ∷ zs) (front n ys)

-- between those that are better and the others
placed-at : (x : Offer) (ys : List Offer) (i : ℕ) → i ≤ length ys
    → ((k : ℕ) (d : Offer) → k < i → is_better (get_or ys k d) x ≡ true)
    → ((k : ℕ) (d : Offer) → i ≤ k → k < length ys → is_better (get_or ys k d) x ≡ false)
    → placed x ys ≡ take i ys ++ x ∷ drop i ys
placed-at x [] zero le h k = refl
placed-at x [] (suc i) le h k = absurd (omega arith)
placed-at x (y ∷ ys) zero le h k =
    ap (λ b. cond b (y ∷ placed x ys) (x ∷ y ∷ ys)) (k 0 x (omega arith) (omega arith))
placed-at x (y ∷ ys) (suc i) le h k =
    ap (λ b. cond b (y ∷ placed x ys) (x ∷ y ∷ ys)) (h 0 x (omega arith))
    ∙ ap (λ zs. y ∷ zs) (placed-at x ys i (omega arith) (λ n d lt. h (suc n) d (omega arith))
    (λ n d a b. k (suc n) d (omega arith) (omega arith)))

all_get : (P : Offer → Type 0) (xs : List Offer) (k : ℕ) (d : Offer) → AllByRecursion P xs → k < length xs
    → P (get_or xs k d)
all_get P [] k d h lt = absurd (omega arith)
all_get P (x ∷ xs) zero d h lt = h.0
all_get P (x ∷ xs) (suc k) d h lt = all_get P xs k d h.1 (omega arith)

ranked-parts : (x : Offer) (ys : List Offer) → 0 < x.2 → HaveBits ys → AreRanked ys
    → IsPartitionedBy (λ y. is_better y x) ys
ranked-parts x [] hx hs h i j d le lt e = absurd (omega arith)
ranked-parts x (y ∷ ys) hx hs h zero zero d le lt e = e
ranked-parts x (y ∷ ys) hx hs h zero (suc j) d le lt e =
    better-on y (get_or ys j d) x hs.0 (all_get (λ z. 0 < z.2) ys j d hs.1 (omega arith)) hx
    (all_get (λ z. is_better y z ≡ true) ys j d h.0 (omega arith)) e
ranked-parts x (y ∷ ys) hx hs h (suc i) zero d le lt e = absurd (omega arith)
ranked-parts x (y ∷ ys) hx hs h (suc i) (suc j) d le lt e =
    ranked-parts x ys hx hs.1 h.1 i j d (omega arith) (omega arith) e

all_take : (P : Offer → Type 0) (n : ℕ) (xs : List Offer) → AllByRecursion P xs → AllByRecursion P (take n xs)
all_take P zero xs h = tt
all_take P (suc n) [] h = tt
all_take P (suc n) (x ∷ xs) h = (h.0, all_take P n xs h.1)

ranked-take : (n : ℕ) (xs : List Offer) → AreRanked xs → AreRanked (take n xs)
ranked-take zero xs h = tt
ranked-take (suc n) [] h = tt
ranked-take (suc n) (x ∷ xs) h = (all_take (λ y. is_better x y ≡ true) n xs h.0, ranked-take n xs h.1)

-- what partitions the hits, where they are the best
abbrev pub Parts : Offer → List Offer → ℕ → Type 0
Parts x hits place = IsPartitionedBy (λ y. is_better y x) hits
    → IsPartitionPoint (λ y. is_better y x ≡ true) (λ y. is_better y x ≡ false) hits place

-- the hits are ranked, and what holds of each that is offered holds of each of them
hits-ranked : (board : Board) (offered : List Offer) → AreOffers offered → IsBest offered board
    → AreRanked board.hits
hits-ranked board offered are best =
    subst AreRanked (sym (best-is board offered are best))
    (ranked-take board.most (ranked board offered) (ranked-ranked board offered are))

all-hits : (P : Offer → Type 0) (board : Board) (offered : List Offer) → AreOffers offered → IsBest offered board
    → AllByRecursion P offered → AllByRecursion P board.hits
all-hits P board offered are best h =
    subst (AllByRecursion P) (sym (best-is board offered are best))
    (all_take P board.most (ranked board offered) (all_ranked P board offered h))

hits-parts : (board : Board) (offered : List Offer) (x : Offer) → 0 < x.2 → AreOffers offered → IsBest offered board
    → IsPartitionedBy (λ y. is_better y x) board.hits
hits-parts board offered x hx are best =
    ranked-parts x board.hits hx (all-hits (λ y. 0 < y.2) board offered are best (offers-bits offered are))
    (hits-ranked board offered are best)

pub at-place : (board : Board) (offered : List Offer) (x : Offer) (place : ℕ) → 0 < x.2 → AreOffers offered
    → IsBest offered board → place ≤ length board.hits → Parts x board.hits place
    → placed x board.hits ≡ take place board.hits ++ x ∷ drop place board.hits
at-place board offered x place hx are best le parts =
    let at = parts (hits-parts board offered x hx are best) in
    placed-at x board.hits place le (λ k d lt. at.0 k d (omega arith) lt) (λ k d a b. at.1 k d a b)

-- boards that ask the same
pub record AskSame (old new : Board) : Type 0 where
  pub p : new.p ≡ old.p
  pub q : new.q ≡ old.q
  pub most : new.most ≡ old.most

passes-same : (old new : Board) (x : Offer) → AskSame old new → passes new x ≡ passes old x
passes-same old new x same =
    ap (λ (n : ℕ). passes (record new { p = n }) x) same.p ∙ ap (λ (n : ℕ). passes (record old { q = n }) x) same.q

ranked-same : (old new : Board) (xs : List Offer) → AskSame old new → ranked new xs ≡ ranked old xs
ranked-same old new [] same = refl
ranked-same old new (x ∷ xs) same =
    ap (λ b. cond b (placed x (ranked new xs)) (ranked new xs)) (passes-same old new x same)
    ∙ ap (λ zs. cond (passes old x) (placed x zs) zs) (ranked-same old new xs same)

-- one that does not pass
pub passed-over : (old new : Board) (offered : List Offer) (x : Offer) → AskSame old new → AreOffers (x ∷ offered)
    → IsBest offered old → passes old x ≡ false → new.hits ≡ old.hits → IsBest (x ∷ offered) new
passed-over old new offered x same are best fails kept =
    let here : ranked old (x ∷ offered) ≡ ranked old offered =
    ap (λ b. cond b (placed x (ranked old offered)) (ranked old offered)) fails in
    best-from new (x ∷ offered) are (kept ∙ best-is old offered are.2 best
    ∙ ap (λ zs. take old.most zs) (sym here ∙ sym (ranked-same old new (x ∷ offered) same))
    ∙ ap (λ n. take n (ranked new (x ∷ offered))) (sym same.most))

-- one that passes
pub taken-in : (old new : Board) (offered : List Offer) (x : Offer) → AskSame old new → AreOffers (x ∷ offered)
    → IsBest offered old → passes old x ≡ true → new.hits ≡ take old.most (placed x old.hits)
    → IsBest (x ∷ offered) new
taken-in old new offered x same are best fits is =
    let here : ranked old (x ∷ offered) ≡ placed x (ranked old offered) =
    ap (λ b. cond b (placed x (ranked old offered)) (ranked old offered)) fits in
    let front = best-is old offered are.2 best in
    best-from new (x ∷ offered) are (is ∙ ap (λ zs. take old.most (placed x zs)) front
    ∙ take-placed old.most x (ranked old offered)
    ∙ ap (λ zs. take old.most zs) (sym here ∙ sym (ranked-same old new (x ∷ offered) same))
    ∙ ap (λ n. take n (ranked new (x ∷ offered))) (sym same.most))

-- the cases of a place
insert-front : (n i : ℕ) (x : Offer) (ys : List Offer) → i ≤ n → take (suc n) (take i ys ++ x ∷ drop i ys)
    ≡ take i (take n ys) ++ x ∷ drop i (take n ys)
insert-front n zero x ys le = refl
insert-front zero (suc i) x ys le = absurd (omega arith)
insert-front (suc n) (suc i) x [] le = last n i
  where
    last : (n i : ℕ) → take (suc (suc n)) (x ∷ []) ≡ x ∷ []
    last n i = refl
insert-front (suc n) (suc i) x (y ∷ ys) le = ap (λ zs. y ∷ zs) (insert-front n i x ys (omega arith))

-- at a place of the board, which a last one may leave
pub where-on : (most place : ℕ) (x : Offer) (hits : List Offer) → place < most
    → placed x hits ≡ take place hits ++ x ∷ drop place hits
    → insert (take (most - 1) hits) place x ≡ take most (placed x hits)
where-on zero place x hits lt at = absurd (omega arith)
where-on (suc n) place x hits lt at =
    let same : suc n - 1 ≡ n = omega arith in
    ap (λ m. insert (take m hits) place x) same
    ∙ sym (ap (λ zs. take (suc n) zs) at ∙ insert-front n place x hits (omega arith))

-- behind all of a full board
pub where-behind : (most : ℕ) (x : Offer) (hits : List Offer) → length hits ≤ most → most ≤ length hits
    → placed x hits ≡ take most hits ++ x ∷ drop most hits → hits ≡ take most (placed x hits)
where-behind most x hits le ge at =
    sym (ap (λ zs. take most zs) at ∙ front most hits (omega arith))
  where
    front : (n : ℕ) (ys : List Offer) → n ≡ length ys → take n (take n ys ++ x ∷ drop n ys) ≡ ys
    front zero [] e = refl
    front zero (y ∷ ys) e = absurd (omega arith)
    front (suc n) [] e = absurd (omega arith)
    front (suc n) (y ∷ ys) e = ap (λ zs. y ∷ zs) (front n ys (omega arith))

-- what is there where there was room
pub where-ok : {T E : Type 0} (r : Result T E) (xs ys : List Offer) → IsOk r → (if is_ok r then xs else ys) ≡ xs
where-ok (Ok x) xs ys h = refl
where-ok (Err e) xs ys h = absurd (cc)

-- one that is no greater a fraction than one that does not pass
pub left-out-below : (board : Board) (offered : List Offer) (x y : Offer) → AreOffers (y ∷ offered)
    → IsBest offered board → y.1 * x.2 ≤ x.1 * y.2 → passes board x ≡ false → IsBest (y ∷ offered) board
left-out-below board offered x y are best le fails =
    passed-over board board offered y (record { p = refl; q = refl; most = refl }) are best
    (fails-too board x y are.0 le fails) refl

-- one that is no greater a fraction than one that the last hit of a full board is better than
pub left-out-behind : (board : Board) (offered : List Offer) (x y last : Offer) → 0 < x.2 → x.0 ≡ y.0
    → AreOffers (y ∷ offered) → IsBest offered board → y.1 * x.2 ≤ x.1 * y.2
    → length board.hits ≡ board.most → slice_get board.hits (length board.hits - 1) ≡ Some last
    → is_better x last ≡ false → IsBest (y ∷ offered) board
left-out-behind board offered x y last hx same are best le full at e =
    let hits = board.hits in
    let bits = all_at (λ z. 0 < z.2) hits (length hits - 1) last
    (all-hits (λ z. 0 < z.2) board offered are.2 best (offers-bits offered are.2)) at in
    let other = all_at (λ z. z.0 ≢ y.0) hits (length hits - 1) last
    (all-hits (λ z. z.0 ≢ y.0) board offered are.2 best are.1) at in
    let worse = better-than-less last x y bits hx are.0 other same le e in
    let parts = hits-parts board offered y are.0 are.2 best in
    let behind = placed-at y hits (length hits) (omega arith)
    (λ k d lt. parts k (length hits - 1) d (omega arith) (omega arith)
    (ap (λ z. is_better z y) (get_or_from_slice_get hits (length hits - 1) last d at) ∙ worse))
    (λ k d ge lt. absurd (omega arith)) in
    by_test (passes board y) refl (where-behind board.most y hits (omega arith) (omega arith)
    (subst (λ n. placed y hits ≡ take n hits ++ y ∷ drop n hits) full behind))
  where
    same-board : AskSame board board
    same-board = record { p = refl; q = refl; most = refl }

    by_test : (b : Bool) → passes board y ≡ b → board.hits ≡ take board.most (placed y board.hits)
        → IsBest (y ∷ offered) board
    by_test false f k = passed-over board board offered y same-board are best f refl
    by_test true f k = taken-in board board offered y same-board are best f k
