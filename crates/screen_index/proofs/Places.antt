-- Pairs in ascending order: one put in, one taken out, and parts of them.
use Rattle.std.proofs.Common.{◌≡◌, ◌≢◌, ◌==◌, ◌&&◌, ◌+◌, ◌-◌, ◌<◌, ◌≤◌, ◌++◌, ◌∙◌, All, ap, ap₂, arith, Bool, cond, Contains, drop, eq-eqb, false, filter, get_or, inl, inr, length, List, [], ◌∷◌, nat_lt, not, refl, set, suc, sym, take, true, zero, ℕ}
use Rattle.std.proofs.lemmas.Bool.{cases_lt, ne_eqb, true≢false}
use Rattle.std.proofs.lemmas.Bool.Decides.{nat_tests}
use Rattle.std.proofs.lemmas.List.{get_or-take, get_or_default, length-drop, length-take-le, take_all}
use Rattle.std.proofs.lemmas.List.Elements.{All-tail}
use Rattle.std.proofs.lemmas.List.Sorted.{IsPartitionedBy-ltb}
use Rattle.std.specs.List.{AllPairs, AllWithin, insert}
use Rattle.std.specs.List.Sorted.{IsNonDecreasingBy, IsPartitionedBy}
use Rattle.screen_index.specs.declared.entry.Screened.{Screened}
use Rattle.screen_index.specs.Pairs.{Ascend, Lacks, Rises, ends_before, is_apart, put_in, rank, rank_of, superseded}

below : (a b r : ℕ) → a < b → b < r → a < r
below a b r less lt = omega (arith, less, lt)

and-false : (b : Bool) → (b && false) ≡ false
and-false true = refl
and-false false = refl

-- all places behind some are those behind
pub to-the-end : (n : ℕ) (ps : List (ℕ × ℕ)) → take (length ps - n) (drop n ps) ≡ drop n ps
to-the-end n ps = take_all (length ps - n) (drop n ps) (let size = length-drop n ps in omega (arith, size))

-- some of the first places
pub rises-take : (n : ℕ) (ps : List (ℕ × ℕ)) → n ≤ length ps → Rises ps → Rises (take n ps)
rises-take n ps fits up i j d less within =
    let size = length-take-le n ps fits in
    let h = up i j d less (omega (arith, within, size, fits)) in
    omega (
      arith,
      h,
      ap (λ (p : ℕ × ℕ). rank p.0 p.1) (get_or-take n ps i d (omega (arith, less, within, size))),
      ap (λ (p : ℕ × ℕ). rank p.0 p.1) (get_or-take n ps j d (omega (arith, within, size))),
    )

-- the places before one stand before those that are not
pub places-parted : (r : ℕ) (ps : List (ℕ × ℕ)) → Rises ps
    → IsPartitionedBy (λ (p : ℕ × ℕ). nat_lt (rank p.0 p.1) r) ps
places-parted r ps up = IsPartitionedBy-ltb (λ (p : ℕ × ℕ). rank p.0 p.1) ps r rises
  where
    rises : IsNonDecreasingBy (λ (p : ℕ × ℕ). rank p.0 p.1) ps
    rises i j d le less =
        elim (cases_lt i j) [
          | inl lt ↦ up i j d lt less
          | inr ge ↦
              let same : i ≡ j = omega (arith, le, ge) in
              omega (arith, ap (λ n. rank (get_or ps n d).0 (get_or ps n d).1) same)
        ]

module _ {V : Type 0} where
  pub weaken : (a b : ℕ) (xs : List (Screened V)) → a ≤ b → Ascend b xs → Ascend a xs
  weaken a b [] le up = tt
  weaken a b (x ∷ xs) le up = (let h = up.0 in omega (arith, le, h), up.1)

  above : (r : ℕ) (xs : List (Screened V)) → Ascend r xs → All (λ y. r ≤ rank_of y) xs
  above r [] up k d less = absurd (omega (arith, less))
  above r (x ∷ xs) up zero d less = up.0
  above r (x ∷ xs) up (suc k) d less =
      let h = above (rank_of x + 1) xs up.1 k d (omega (arith, less)) in
      let l = up.0 in omega (arith, h, l)

  pub pairs : (r : ℕ) (xs : List (Screened V)) → Ascend r xs → AllPairs (λ x y. rank_of x < rank_of y) xs
  pairs r [] up i j d less within = absurd (omega (arith, within))
  pairs r (x ∷ xs) up zero zero d less within = absurd (omega (arith, less))
  pairs r (x ∷ xs) up zero (suc j) d less within =
      let h = above (rank_of x + 1) xs up.1 j d (omega (arith, within)) in omega (arith, h)
  pairs r (x ∷ xs) up (suc i) zero d less within = absurd (omega (arith, less))
  pairs r (x ∷ xs) up (suc i) (suc j) d less within =
      pairs (rank_of x + 1) xs up.1 i j d (omega (arith, less)) (omega (arith, within))

  -- what is before a place stands before what is not
  pub parted : (r : ℕ) (xs : List (Screened V)) → Ascend 0 xs
      → IsPartitionedBy (λ (x : Screened V). nat_lt (rank_of x) r) xs
  parted r xs up = IsPartitionedBy-ltb rank_of xs r rises
    where
      rises : IsNonDecreasingBy rank_of xs
      rises i j d le less =
          elim (cases_lt i j) [
            | inl lt ↦ let h = pairs 0 xs up i j d lt less in omega (arith, h)
            | inr ge ↦
                let same : i ≡ j = omega (arith, le, ge) in
                omega (arith, ap (λ n. rank_of (get_or xs n d)) same)
          ]

  -- one that is before a place has only such in front of it, and one that is not has none behind it
  pub up-to-early : (r i n : ℕ) (xs : List (Screened V)) (x : Screened V) → Ascend 0 xs → i < length xs → n ≤ i + 1
      → x ≡ get_or xs i x → nat_lt (rank_of x) r ≡ true → AllWithin (λ y. rank_of y < r) xs 0 n
  up-to-early r i n xs x up less fits is early k d low high =
      let t = ap (λ y. nat_lt (rank_of y) r) (get_or_default xs i d x less ∙ sym is) ∙ early in
      let h = parted r xs up k i d (omega (arith, high, fits)) less t in
      grind (arith, nat_tests, h)

  pub from-late : (r i : ℕ) (xs : List (Screened V)) (x : Screened V) → Ascend 0 xs → i < length xs → x ≡ get_or xs i x
      → nat_lt (rank_of x) r ≡ false → AllWithin (λ y. r ≤ rank_of y) xs i (length xs)
  from-late r i xs x up less is late k d low high =
      let here : r ≤ rank_of x = grind (arith, nat_tests, late) in
      let same = ap rank_of (get_or_default xs i d x less ∙ sym is) in
      elim (cases_lt i k) [
        | inl lt ↦ let h = pairs 0 xs up i k d lt high in omega (arith, here, same, h)
        | inr ge ↦
            let one : k ≡ i = omega (arith, low, ge) in omega (arith, here, same, ap (λ n. rank_of (get_or xs n d)) one)
      ]

  -- the last one decides
  pub last-decides : (r : ℕ) (xs : List (Screened V)) (i : ℕ) (d : Screened V) → i + 1 ≡ length xs
      → nat_lt (rank_of (get_or xs i d)) r ≡ ends_before r xs
  last-decides r [] i d e = absurd (omega (arith, e))
  last-decides r (x ∷ []) zero d e = refl
  last-decides r (x ∷ []) (suc j) d e = absurd (omega (arith, e))
  last-decides r (x ∷ y ∷ ys) zero d e = absurd (omega (arith, e))
  last-decides r (x ∷ y ∷ ys) (suc j) d e = last-decides r (y ∷ ys) j d (omega (arith, e))

  -- whether all are before a place
  pub all-before : (r low : ℕ) (xs : List (Screened V)) → Ascend low xs → ends_before r xs ≡ true
      → All (λ x. rank_of x < r) xs
  all-before r low [] up t i d less = absurd (omega (arith, less))
  all-before r low (x ∷ []) up t zero d less = grind (arith, nat_tests, t)
  all-before r low (x ∷ []) up t (suc i) d less = absurd (omega (arith, less))
  all-before r low (x ∷ y ∷ ys) up t zero d less =
      below (rank_of x) (rank_of y) r (let h = up.1.0 in omega (arith, h))
      (all-before r (rank_of x + 1) (y ∷ ys) up.1 t 0 d (omega arith))
  all-before r low (x ∷ y ∷ ys) up t (suc i) d less =
      all-before r (rank_of x + 1) (y ∷ ys) up.1 t i d (omega (arith, less))

  pub before-all : (r : ℕ) (xs : List (Screened V)) → All (λ x. rank_of x < r) xs → ends_before r xs ≡ true
  before-all r [] all = refl
  before-all r (x ∷ []) all = let h = all 0 x (omega arith) in grind (arith, nat_tests)
  before-all r (x ∷ y ∷ ys) all = before-all r (y ∷ ys) (All-tail (λ z. rank_of z < r) x (y ∷ ys) all)

  pub not-before : (r : ℕ) (xs : List (Screened V)) → ends_before r xs ≡ false
      → (x : Screened V) × Contains xs x × (r ≤ rank_of x)
  not-before r [] f = absurd (true≢false f)
  not-before r (x ∷ []) f = (x, (0, omega arith, refl), grind (arith, nat_tests, f))
  not-before r (x ∷ y ∷ ys) f =
      let (z, member, late) = not-before r (y ∷ ys) f in
      (z, (suc member.0, (let m = member.1 in omega (arith, m)), member.2), late)

  -- put in where what is before is smaller, and what is behind is not
  pub put-here : (x : Screened V) (xs : List (Screened V)) (place : ℕ) → place ≤ length xs
      → AllWithin (λ y. rank_of y < rank_of x) xs 0 place → AllWithin (λ y. rank_of x ≤ rank_of y) xs place (length xs)
      → Lacks (rank_of x) xs → insert xs place x ≡ put_in x xs
  put-here x [] zero within before behind lacks = refl
  put-here x (y ∷ ys) zero within before behind lacks =
      let le : rank_of x ≤ rank_of y = behind 0 y (omega arith) (omega arith) in
      let ne : rank_of y ≢ rank_of x = lacks 0 y (omega arith) in
      let t : nat_lt (rank_of x) (rank_of y) ≡ true = grind (arith, nat_tests) in
      sym (ap (λ (b : Bool). cond b (x ∷ y ∷ ys) (y ∷ put_in x ys)) t)
  put-here x [] (suc n) within before behind lacks = absurd (omega (arith, within))
  put-here x (y ∷ ys) (suc n) within before behind lacks =
      let lt : rank_of y < rank_of x = before 0 y (omega arith) (omega arith) in
      let f : nat_lt (rank_of x) (rank_of y) ≡ false = grind (arith, nat_tests) in
      ap (λ (l : List (Screened V)). y ∷ l) (put-here x ys n (omega (arith, within))
      (λ k d low high. before (suc k) d (omega arith) (omega (arith, high)))
      (λ k d low high. behind (suc k) d (omega (arith, low)) (omega (arith, high)))
      (All-tail (λ z. rank_of z ≢ rank_of x) y ys lacks))
      ∙ sym (ap (λ (b : Bool). cond b (x ∷ y ∷ ys) (y ∷ put_in x ys)) f)

  put-by : (b : Bool) (r : ℕ) (x y : Screened V) (ys zs : List (Screened V)) → nat_lt (rank_of x) (rank_of y) ≡ b
      → r ≤ rank_of x → Ascend r (y ∷ ys) → (rank_of y + 1 ≤ rank_of x → Ascend (rank_of y + 1) zs)
      → rank_of y ≢ rank_of x → Ascend r (cond b (x ∷ y ∷ ys) (y ∷ zs))
  put-by true r x y ys zs is le up more ne = (le, (grind (arith, nat_tests), up.1))
  put-by false r x y ys zs is le up more ne = (up.0, more (grind (arith, nat_tests)))

  pub put-ascends : (r : ℕ) (x : Screened V) (xs : List (Screened V)) → r ≤ rank_of x → Ascend r xs
      → Lacks (rank_of x) xs → Ascend r (put_in x xs)
  put-ascends r x [] le up lacks = (le, tt)
  put-ascends r x (y ∷ ys) le up lacks =
      put-by (nat_lt (rank_of x) (rank_of y)) r x y ys (put_in x ys) refl le up
      (λ ge. put-ascends (rank_of y + 1) x ys ge up.1 (All-tail (λ z. rank_of z ≢ rank_of x) y ys lacks))
      (lacks 0 y (omega arith))

  -- the pair goes into the part that it belongs to
  pub put-behind : (x : Screened V) (fore bs : List (Screened V)) → All (λ y. rank_of y < rank_of x) fore
      → put_in x (fore ++ bs) ≡ fore ++ put_in x bs
  put-behind x [] bs before = refl
  put-behind x (a ∷ fore) bs before =
      let lt : rank_of a < rank_of x = before 0 a (omega arith) in
      let f : nat_lt (rank_of x) (rank_of a) ≡ false = grind (arith, nat_tests) in
      ap (λ (b : Bool). cond b (x ∷ a ∷ (fore ++ bs)) (a ∷ put_in x (fore ++ bs))) f
      ∙ ap (λ l. a ∷ l) (put-behind x fore bs (All-tail (λ y. rank_of y < rank_of x) a fore before))

  pub put-before : (x : Screened V) (bs cs : List (Screened V)) → All (λ y. rank_of x < rank_of y) cs
      → put_in x (bs ++ cs) ≡ put_in x bs ++ cs
  put-before x [] [] behind = refl
  put-before x [] (c ∷ cs) behind =
      let lt : rank_of x < rank_of c = behind 0 c (omega arith) in
      let t : nat_lt (rank_of x) (rank_of c) ≡ true = grind (arith, nat_tests) in
      ap (λ (b : Bool). cond b (x ∷ c ∷ cs) (c ∷ put_in x cs)) t
  put-before x (b ∷ bs) cs behind = go (nat_lt (rank_of x) (rank_of b)) (put-before x bs cs behind)
    where
      go : (t : Bool) → put_in x (bs ++ cs) ≡ put_in x bs ++ cs
          → cond t (x ∷ b ∷ (bs ++ cs)) (b ∷ put_in x (bs ++ cs)) ≡ cond t (x ∷ b ∷ bs) (b ∷ put_in x bs) ++ cs
      go true e = refl
      go false e = ap (λ l. b ∷ l) e

  pub put-some : (x : Screened V) (xs : List (Screened V)) → 0 < length (put_in x xs)
  put-some x [] = omega arith
  put-some x (y ∷ ys) = go (nat_lt (rank_of x) (rank_of y))
    where
      go : (b : Bool) → 0 < length (cond b (x ∷ y ∷ ys) (y ∷ put_in x ys))
      go true = omega arith
      go false = omega arith

  -- a pair that is at none of some places, and one that is at one of them
  pub apart-all : (ps : List (ℕ × ℕ)) (x : Screened V) → All (λ p. rank_of x ≢ rank p.0 p.1) ps → is_apart ps x ≡ true
  apart-all [] x all = refl
  apart-all (p ∷ ps) x all =
      let f : (rank_of x == rank p.0 p.1) ≡ false = ne_eqb (rank_of x) (rank p.0 p.1) (all 0 p (omega arith)) in
      ap (λ b. not b && is_apart ps x) f
      ∙ apart-all ps x (All-tail (λ (q : ℕ × ℕ). rank_of x ≢ rank q.0 q.1) p ps all)

  pub apart-none : (ps : List (ℕ × ℕ)) (x : Screened V) (i : ℕ) (d : ℕ × ℕ) → i < length ps
      → rank_of x ≡ rank (get_or ps i d).0 (get_or ps i d).1 → is_apart ps x ≡ false
  apart-none [] x i d less is = absurd (omega (arith, less))
  apart-none (p ∷ ps) x zero d less is =
      ap (λ b. not b && is_apart ps x) (eq-eqb (rank_of x) (rank p.0 p.1) is)
  apart-none (p ∷ ps) x (suc i) d less is =
      ap (λ b. not (rank_of x == rank p.0 p.1) && b) (apart-none ps x i d (omega (arith, less)) is)
      ∙ and-false (not (rank_of x == rank p.0 p.1))

  -- a pair behind the places that are before it
  pub apart-at : (ps : List (ℕ × ℕ)) (x : Screened V) (n : ℕ) → n ≤ length ps → Rises ps
      → AllWithin (λ p. rank p.0 p.1 < rank_of x) ps 0 n
      → ((d : ℕ × ℕ) → n < length ps → rank_of x < rank (get_or ps n d).0 (get_or ps n d).1) → is_apart ps x ≡ true
  apart-at ps x n fits up before next =
      apart-all ps x (λ k d less e. elim (cases_lt k n) [
        | inl lt ↦ let h = before k d (omega arith) lt in absurd (omega (arith, h, e))
        | inr ge ↦ elim (cases_lt n k) [
          | inl gt ↦
              let h = next d (omega (arith, gt, less)) in
              let l = up n k d gt less in
              absurd (omega (arith, h, l, e))
          | inr le ↦
              let same : k ≡ n = omega (arith, ge, le) in
              let h = next d (omega (arith, same, less)) in
              absurd (omega (arith, h, e, ap (λ m. rank (get_or ps m d).0 (get_or ps m d).1) same))
        ]
      ])

  -- the place that is not before a pair decides
  pub apart-decided : (ps : List (ℕ × ℕ)) (x : Screened V) (n : ℕ) (b : Bool) (d : ℕ × ℕ) → n < length ps → Rises ps
      → AllWithin (λ p. rank p.0 p.1 < rank_of x) ps 0 n
      → ((e : ℕ × ℕ) → nat_lt (rank (get_or ps n e).0 (get_or ps n e).1) (rank_of x) ≡ false)
      → b ≡ nat_lt (rank_of x) (rank (get_or ps n d).0 (get_or ps n d).1) → b ≡ is_apart ps x
  apart-decided ps x n true d less up before late is =
      sym (apart-at ps x n (omega (arith, less)) up before (λ e within.
      let h : rank_of x < rank (get_or ps n d).0 (get_or ps n d).1 = grind (arith, nat_tests, is) in
      omega (arith, h, ap (λ (p : ℕ × ℕ). rank p.0 p.1) (get_or_default ps n d e less))))
  apart-decided ps x n false d less up before late is =
      let f = late d in
      sym (apart-none ps x n d less (grind (arith, nat_tests, is, f)))

  -- pairs of which each is apart
  pub all-apart : (ps : List (ℕ × ℕ)) (xs : List (Screened V))
      → ((k : ℕ) (d : ℕ × ℕ) → k < length ps → All (λ x. rank_of x ≢ rank (get_or ps k d).0 (get_or ps k d).1) xs)
      → filter (is_apart ps) xs ≡ xs
  all-apart ps [] all = refl
  all-apart ps (x ∷ xs) all =
      let t : is_apart ps x ≡ true = apart-all ps x (λ k d less. all k d less 0 x (omega arith)) in
      ap (λ (b : Bool). cond b (x ∷ filter (is_apart ps) xs) (filter (is_apart ps) xs)) t
      ∙ ap (λ l. x ∷ l) (all-apart ps xs
      (λ k d less. All-tail (λ y. rank_of y ≢ rank (get_or ps k d).0 (get_or ps k d).1) x xs (all k d less)))

  pub some-ascend : (p : Screened V → Bool) (low : ℕ) (xs : List (Screened V)) → Ascend low xs
      → Ascend low (filter p xs)
  some-ascend p low [] up = tt
  some-ascend p low (x ∷ xs) up = go (some-ascend p (rank_of x + 1) xs up.1) (p x)
    where
      go : Ascend (rank_of x + 1) (filter p xs) → (b : Bool) → Ascend low (cond b (x ∷ filter p xs) (filter p xs))
      go more true = (up.0, more)
      go more false = weaken low (rank_of x + 1) (filter p xs) (let h = up.0 in omega (arith, h)) more

  -- no place takes a pair out
  pub none-apart : (xs : List (Screened V)) → filter (is_apart []) xs ≡ xs
  none-apart [] = refl
  none-apart (x ∷ xs) = ap (λ l. x ∷ l) (none-apart xs)

  -- first some places, then the others
  apart-both : (ps qs : List (ℕ × ℕ)) (x : Screened V) → is_apart (ps ++ qs) x ≡ (is_apart ps x && is_apart qs x)
  apart-both [] qs x = refl
  apart-both (p ∷ ps) qs x = go (not (rank_of x == rank p.0 p.1)) (apart-both ps qs x)
    where
      go : (b : Bool) → is_apart (ps ++ qs) x ≡ (is_apart ps x && is_apart qs x)
          → (b && is_apart (ps ++ qs) x) ≡ ((b && is_apart ps x) && is_apart qs x)
      go true e = e
      go false e = refl

  pub apart-in-turn : (ps qs : List (ℕ × ℕ)) (xs : List (Screened V))
      → filter (is_apart qs) (filter (is_apart ps) xs) ≡ filter (is_apart (ps ++ qs)) xs
  apart-in-turn ps qs [] = refl
  apart-in-turn ps qs (x ∷ xs) =
      go (is_apart ps x) (is_apart qs x) refl (apart-in-turn ps qs xs)
      ∙ sym (ap (λ (b : Bool). cond b (x ∷ filter (is_apart (ps ++ qs)) xs) (filter (is_apart (ps ++ qs)) xs))
      (apart-both ps qs x))
    where
      two : List (Screened V)
      two = filter (is_apart qs) (filter (is_apart ps) xs)

      both : List (Screened V)
      both = filter (is_apart (ps ++ qs)) xs

      go : (a b : Bool) → is_apart qs x ≡ b → two ≡ both
          → filter (is_apart qs) (cond a (x ∷ filter (is_apart ps) xs) (filter (is_apart ps) xs))
          ≡ cond (a && b) (x ∷ both) both
      go false b is e = e
      go true b is e = ap (λ (t : Bool). cond t (x ∷ two) two) is ∙ ap (λ l. cond b (x ∷ l) l) e

  -- parts of pairs in ascending order
  pub ascend-left : (r : ℕ) (xs ys : List (Screened V)) → Ascend r (xs ++ ys) → Ascend r xs
  ascend-left r [] ys up = tt
  ascend-left r (x ∷ xs) ys up = (up.0, ascend-left (rank_of x + 1) xs ys up.1)

  pub ascend-right : (r : ℕ) (xs ys : List (Screened V)) → Ascend r (xs ++ ys) → Ascend r ys
  ascend-right r [] ys up = up
  ascend-right r (x ∷ xs) ys up =
      weaken r (rank_of x + 1) ys (let h = up.0 in omega (arith, h)) (ascend-right (rank_of x + 1) xs ys up.1)

  -- each of the first part is below each of the second
  pub apart : (r : ℕ) (xs ys : List (Screened V)) (i : ℕ) (d : Screened V) → Ascend r (xs ++ ys) → i < length xs
      → All (λ y. rank_of (get_or xs i d) < rank_of y) ys
  apart r [] ys i d up less = absurd (omega (arith, less))
  apart r (x ∷ xs) ys zero d up less = λ k e within.
      let h = above (rank_of x + 1) ys (ascend-right (rank_of x + 1) xs ys up.1) k e within in omega (arith, h)
  apart r (x ∷ xs) ys (suc i) d up less = apart (rank_of x + 1) xs ys i d up.1 (omega (arith, less))

  pub lacks-right : (r : ℕ) (xs ys : List (Screened V)) → Lacks r (xs ++ ys) → Lacks r ys
  lacks-right r [] ys lacks = lacks
  lacks-right r (x ∷ xs) ys lacks = lacks-right r xs ys (All-tail (λ z. rank_of z ≢ r) x (xs ++ ys) lacks)

  -- pairs at other places are left as they are
  pub superseded-none : (r until : ℕ) (xs : List (Screened V)) → Lacks r xs → superseded r until xs ≡ xs
  superseded-none r until [] lacks = refl
  superseded-none r until (x ∷ xs) lacks =
      ap₂ (λ b l. cond b (record x { until = until }) x ∷ l) (ne_eqb (rank_of x) r (lacks 0 x (omega arith)))
      (superseded-none r until xs (All-tail (λ y. rank_of y ≢ r) x xs lacks))

  -- and at the place there is one at most
  pub superseded-at : (low r until i : ℕ) (xs : List (Screened V)) (x : Screened V) → Ascend low xs → i < length xs
      → x ≡ get_or xs i x → rank_of x ≡ r → set xs i (record x { until = until }) ≡ superseded r until xs
  superseded-at low r until i [] x up less is here = absurd (omega (arith, less))
  superseded-at low r until zero (y ∷ ys) x up less is here =
      let same : rank_of y ≡ r = ap rank_of (sym is) ∙ here in
      let lacks : Lacks r ys = λ k d inside e.
      let h = above (rank_of y + 1) ys up.1 k d inside in omega (arith, h, e, same) in
      ap₂ (λ (z : Screened V) (l : List (Screened V)). record z { until = until } ∷ l) is
      (sym (superseded-none r until ys lacks))
      ∙ sym (ap (λ b. cond b (record y { until = until }) y ∷ superseded r until ys) (eq-eqb (rank_of y) r same))
  superseded-at low r until (suc i) (y ∷ ys) x up less is here =
      let h = above (rank_of y + 1) ys up.1 i x (omega (arith, less)) in
      let ne : rank_of y ≢ r = omega (arith, h, here, ap rank_of is) in
      sym (ap₂ (λ b l. cond b (record y { until = until }) y ∷ l) (ne_eqb (rank_of y) r ne)
      (sym (superseded-at (rank_of y + 1) r until i ys x up.1 (omega (arith, less)) is here)))

  -- the first pair that is not before a place is behind it
  pub lacks-parted : (r i : ℕ) (xs : List (Screened V)) → Ascend 0 xs → AllWithin (λ x. rank_of x < r) xs 0 i
      → ((d : Screened V) → i < length xs → r < rank_of (get_or xs i d)) → Lacks r xs
  lacks-parted r i xs up before next k d less e =
      elim (cases_lt k i) [
        | inl lt ↦ let h = before k d (omega arith) lt in omega (arith, h, e)
        | inr ge ↦ elim (cases_lt i k) [
          | inl gt ↦
              let h = next d (omega (arith, gt, less)) in
              let l = pairs 0 xs up i k d gt less in
              omega (arith, h, l, e)
          | inr le ↦
              let same : k ≡ i = omega (arith, ge, le) in
              let h = next d (omega (arith, same, less)) in
              omega (arith, h, e, ap (λ n. rank_of (get_or xs n d)) same)
        ]
      ]

  pub superseded-ascends : (low r until : ℕ) (xs : List (Screened V)) → Ascend low xs
      → Ascend low (superseded r until xs)
  superseded-ascends low r until [] up = tt
  superseded-ascends low r until (x ∷ xs) up =
      go (rank_of x == r) (superseded-ascends (rank_of x + 1) r until xs up.1)
    where
      go : (b : Bool) → Ascend (rank_of x + 1) (superseded r until xs)
          → Ascend low (cond b (record x { until = until }) x ∷ superseded r until xs)
      go true more = (up.0, more)
      go false more = (up.0, more)
