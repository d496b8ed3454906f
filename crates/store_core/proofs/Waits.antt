-- Records that wait are shared with a page in turn.
use Rattle.std.proofs.Common.{◌≡◌, ◌+◌, ◌++◌, ◌<◌, ◌≤◌, ◌∙◌, All, ap, append_assoc, arith, drop, get_or, length, length-append, List, [], ◌∷◌, map, None, Option, refl, Some, subst, sym, ℕ}
use Rattle.std.proofs.lemmas.List.{at_drop_more, length-map, map-append}
use Rattle.std.proofs.lemmas.List.Elements.{All-cons, All-head, All-nil, All-push, All-tail}
use Rattle.std.specs.Arc.{arc_value}
use Rattle.std.specs.Borrow.{Bor}
use Rattle.store_core.specs.Records.{RecordTerm, Shared, found_of, founds}
use Rattle.store_core.specs.Waiting.{HasFirst, present, values}

pub begun : (page own : List Shared) → values page ++ values own ≡ values (page ++ own)
begun page own = sym (map-append (λ (r : Shared). arc_value r) page own)

pub next-is : (rs : List (Option (Bor Shared))) (i : ℕ) (d x : Option (Bor Shared)) → i < length rs → get_or rs i d ≡ x
    → present (drop i rs) ≡ present (x ∷ drop (i + 1) rs)
next-is rs i d x less is = at_drop_more present rs i d less ∙ ap (λ y. present (y ∷ drop (i + 1) rs)) is

pub put : (page new rest before : List Shared) (q shared : Shared) → new ≡ page ++ q ∷ []
    → arc_value q ≡ arc_value shared → before ≡ shared ∷ rest → values new ++ values rest ≡ values page ++ values before
put page new rest before q shared more clone is =
    ap (λ l. values l ++ values rest) more
    ∙ (ap (λ l. l ++ values rest) (map-append (λ (r : Shared). arc_value r) page (q ∷ []))
    ∙ (append_assoc (values page) (arc_value q ∷ []) (values rest)
    ∙ (ap (λ x. values page ++ x ∷ values rest) clone ∙ sym (ap (λ l. values page ++ values l) is))))

pub first-of : (page rest all : List Shared) → values page ++ values rest ≡ values all → HasFirst page all
first-of page rest all is = record { rest = values rest; is = is }

count : (page : List Shared) (rest : List RecordTerm) (all : List Shared) → values page ++ rest ≡ values all
    → length page + length rest ≡ length all
count page rest all is =
    let long = ap (λ (l : List RecordTerm). length l) is in
    let split = length-append (values page) rest in
    let own = length-map page (λ (r : Shared). arc_value r) in
    let whole = length-map all (λ (r : Shared). arc_value r) in
    omega (arith, long, split, own, whole)

pub has-room : (page rest all before : List Shared) (r : Shared) (room : ℕ)
    → values page ++ values before ≡ values all → before ≡ r ∷ rest → length all ≤ room → length page < room
has-room page rest all before r room is next most =
    let whole = count page (values before) all is in
    let long = length-map before (λ (r : Shared). arc_value r) in
    let more = ap (λ (l : List Shared). length l) next in
    omega (arith, whole, long, more, most)

pub few-of : (page all : List Shared) → HasFirst page all → length page ≤ length all
few-of page all h = let whole = count page h.rest all h.is in omega (arith, whole)

pub same-length : (xs ys : List Shared) → values xs ≡ values ys → length xs ≡ length ys
same-length xs ys is =
    let long = ap (λ (l : List RecordTerm). length l) is in
    let own = length-map xs (λ (r : Shared). arc_value r) in
    let whole = length-map ys (λ (r : Shared). arc_value r) in
    omega (arith, long, own, whole)

-- what holds of all records holds of the first of them
front : {X : Type 0} (P : X → Type 0) (xs ys : List X) → All P (xs ++ ys) → All P xs
front P [] ys h = All-nil P
front P (x ∷ xs) ys h = All-cons P x xs (All-head P x (xs ++ ys) h) (front P xs ys (All-tail P x (xs ++ ys) h))

pub of-each : (P : RecordTerm → Type 0) (rs : List Shared) → All P (values rs)
    → All (λ (r : Shared). P (arc_value r)) rs
of-each P [] h = All-nil (λ (r : Shared). P (arc_value r))
of-each P (r ∷ rs) h =
    All-cons (λ (s : Shared). P (arc_value s)) r rs (All-head P (arc_value r) (values rs) h)
    (of-each P rs (All-tail P (arc_value r) (values rs) h))

pub first-each : (P : RecordTerm → Type 0) (page all : List Shared) → HasFirst page all → All P (values all)
    → All (λ (r : Shared). P (arc_value r)) page
first-each P page all h each = of-each P page (front P (values page) h.rest (subst (All P) (sym h.is) each))

founds-values : (xs : List Shared) → founds xs ≡ map found_of (values xs)
founds-values [] = refl
founds-values (x ∷ xs) = ap (λ l. found_of (arc_value x) ∷ l) (founds-values xs)

pub same-founds : (xs ys : List Shared) → values xs ≡ values ys → founds xs ≡ founds ys
same-founds xs ys is = founds-values xs ∙ (ap (λ l. map found_of l) is ∙ sym (founds-values ys))

-- one more waits
pub one-waits : (rs : List (Option (Bor Shared))) (r : Bor Shared)
    → present (rs ++ Some r ∷ []) ≡ present rs ++ r.now ∷ []
one-waits [] r = refl
one-waits (None ∷ rs) r = one-waits rs r
one-waits (Some x ∷ rs) r = ap (λ l. x.now ∷ l) (one-waits rs r)

-- at the end of a page, and where one more waits
pub few-first : (page waiting new : List Shared) (limit : ℕ) → HasFirst new (page ++ waiting)
    → length page + length waiting ≤ limit → length new ≤ limit
few-first page waiting new limit h few =
    let less = few-of new (page ++ waiting) h in
    let long = length-append page waiting in
    omega (arith, less, long, few)

pub gathered : (page waiting new now : List Shared) (x : Shared)
    → values (new ++ now) ≡ values (page ++ (waiting ++ x ∷ []))
    → values (new ++ now) ≡ values ((page ++ waiting) ++ x ∷ [])
gathered page waiting new now x is = is ∙ sym (ap values (append_assoc page waiting (x ∷ [])))

pub gathered-few : (page waiting new now : List Shared) (x : Shared) (limit : ℕ)
    → values (new ++ now) ≡ values ((page ++ waiting) ++ x ∷ []) → length page + length waiting < limit
    → length new + length now ≤ limit
gathered-few page waiting new now x limit is few =
    let same = same-length (new ++ now) ((page ++ waiting) ++ x ∷ []) is in
    let left = length-append new now in
    let right = length-append (page ++ waiting) (x ∷ []) in
    let own = length-append page waiting in
    omega (arith, same, left, right, own, few)

pub gathered-each : (P : RecordTerm → Type 0) (all new : List Shared) (x : Shared)
    → values new ≡ values (all ++ x ∷ []) → All P (values all) → P (arc_value x) → All P (values new)
gathered-each P all new x is each own =
    subst (All P) (sym (is ∙ map-append (λ (r : Shared). arc_value r) all (x ∷ [])))
    (All-push P (values all) (arc_value x) each own)
