-- The hits of shares, one behind the other.
use Rattle.std.proofs.Common.{◌≡◌, ◌+◌, ◌*◌, ◌++◌, ◌≤◌, ◌∙◌, ap, append_assoc, arith, drop, length, List, [], ◌∷◌, refl, subst, suc, sym, take, zero, ℕ}
use Rattle.std.proofs.Math.Nat.{mul-le-mul_right}
use Rattle.std.proofs.Math.Seq.{take-add, take_all}
use Rattle.std.proofs.lemmas.Grind.{flat_map-append}
use Rattle.std.proofs.lemmas.List.{drop-drop, length-map, map-append}
use Rattle.std.proofs.lemmas.Option.{same_Some}
use Rattle.std.specs.Arc.{arc_value}
use Rattle.std.specs.Int.{div_ceil}
use Rattle.smarts_parse.specs.Pattern.{PatternTerm}
use Rattle.store_machine.specs.Answers.{AreMatched}
use Rattle.store_machine.specs.declared.machine.Found.{Found}
use Rattle.store_core.specs.Records.{PageTerm, Shared, found_of, founds}
use Rattle.par_search.specs.Flags.{WorkerTerm, piece_of}
use Rattle.par_search.specs.Shares.{AreFoundFrom, hits_in, records_in}
use Rattle.par_search.proofs.Cuts.{one-more}
use Rattle.par_search.proofs.Matched.{matched-append, matched_few}
use Rattle.par_search.proofs.Shares.{shares-cover}

pub founds-append : (xs ys : List Shared) → founds (xs ++ ys) ≡ founds xs ++ founds ys
founds-append xs ys = map-append (λ (r : Shared). found_of (arc_value r)) xs ys

-- as the machine knows the records of pages
abbrev pub founds_in : List PageTerm → List Found
founds_in pages = founds (records_in pages)

pub founds_in-append : (xs ys : List PageTerm) → founds_in (xs ++ ys) ≡ founds_in xs ++ founds_in ys
founds_in-append xs ys =
    ap founds (flat_map-append (λ (p : PageTerm). p.records) xs ys) ∙ founds-append (records_in xs) (records_in ys)

-- what is taken of one list, and then of the one behind it
take-over : {X : Type 0} (n m : ℕ) (xs ys : List X) → m + length (take n xs) ≡ n
    → take n (xs ++ ys) ≡ take n xs ++ take m ys
take-over zero m xs ys e =
    let none : 0 ≡ m = omega (arith, e) in
    ap (λ k. take k ys) none
take-over (suc n) m [] ys e =
    let all : suc n ≡ m = omega (arith, e) in
    ap (λ k. take k ys) all
take-over (suc n) m (x ∷ xs) ys e = ap (λ l. x ∷ l) (take-over n m xs ys (omega (arith, e)))

drop-over : {X : Type 0} (n m : ℕ) (xs ys : List X) → m + length (take n xs) ≡ n
    → drop n (xs ++ ys) ≡ drop n xs ++ drop m ys
drop-over zero m xs ys e =
    let none : 0 ≡ m = omega (arith, e) in
    ap (λ k. xs ++ drop k ys) none
drop-over (suc n) m [] ys e =
    let all : suc n ≡ m = omega (arith, e) in
    ap (λ k. drop k ys) all
drop-over (suc n) m (x ∷ xs) ys e = drop-over n m xs ys (omega (arith, e))

-- so many records from one on, of one page, and then of those behind it
pub part-over : {X : Type 0} (taken xs ys passed behind part all : List X) (skip skip' left left' : ℕ)
    → taken ++ take left (drop skip (xs ++ ys)) ≡ all → passed ≡ take skip xs → behind ≡ drop skip xs
    → part ≡ take left behind → skip' + length passed ≡ skip → left' + length part ≡ left
    → (taken ++ part) ++ take left' (drop skip' ys) ≡ all
part-over taken xs ys passed behind part all skip skip' left left' e p b q s l =
    let here : part ≡ take left (drop skip xs) = q ∙ ap (λ k. take left k) b in
    let skips : skip' + length (take skip xs) ≡ skip = omega (arith, s, ap (λ k. length k) p) in
    let leaves : left' + length (take left (drop skip xs)) ≡ left = omega (arith, l, ap (λ k. length k) here) in
    append_assoc taken part (take left' (drop skip' ys))
    ∙ ap (λ k. taken ++ k) (ap (λ k. k ++ take left' (drop skip' ys)) here
    ∙ sym (ap (λ k. take left k) (drop-over skip skip' xs ys skips)
    ∙ take-over left left' (drop skip xs) (drop skip' ys) leaves))
    ∙ e

-- a share, and those behind it
share-first : {X : Type 0} (n k size : ℕ) (items : List X)
    → take ((n + 1) * size) (drop (k * size) items)
    ≡ piece_of size k items ++ take (n * size) (drop ((k + 1) * size) items)
share-first n k size items =
    let more : (n + 1) * size ≡ size + n * size = omega arith in
    ap (λ m. take m (drop (k * size) items)) more ∙ take-add size (n * size) (drop (k * size) items)
    ∙ ap (λ l. take size (drop (k * size) items) ++ take (n * size) l)
    (drop-drop size (k * size) items ∙ ap (λ m. drop m items) (sym (one-more k size)))

-- a share that is found, and those behind it
pub found-first : (p : PatternTerm) (size number : ℕ) (records : List Shared) (w : WorkerTerm) (ws : List WorkerTerm)
    → AreMatched p (founds (piece_of size number records)) w.hits → AreFoundFrom p size (number + 1) records ws
    → AreFoundFrom p size number records (w ∷ ws)
found-first p size number records w ws here behind zero v e =
    subst (λ (x : WorkerTerm). AreMatched p (founds (piece_of size (number + 0) records)) x.hits) (same_Some w v e)
    (subst (λ i. AreMatched p (founds (piece_of size i records)) w.hits) (omega arith) here)
found-first p size number records w ws here behind (suc k) v e =
    subst (λ i. AreMatched p (founds (piece_of size i records)) v.hits) (omega arith) (behind k v e)

-- the hits of the shares from one on
join-from : (p : PatternTerm) (size k : ℕ) (records : List Shared) (ws : List WorkerTerm)
    → AreFoundFrom p size k records ws
    → AreMatched p (founds (take (length ws * size) (drop (k * size) records))) (hits_in ws)
join-from p size k records [] h =
    let none : 0 ≡ 0 * size = omega arith in
    subst (λ n. AreMatched p (founds (take n (drop (k * size) records))) []) none refl
join-from p size k records (w ∷ ws) h =
    let here : AreMatched p (founds (piece_of size k records)) w.hits =
    subst (λ i. AreMatched p (founds (piece_of size i records)) w.hits) (omega arith) (h 0 w refl) in
    let behind : AreMatched p (founds (take (length ws * size) (drop ((k + 1) * size) records))) (hits_in ws) =
    join-from p size (k + 1) records ws
    (λ j v e. subst (λ i. AreMatched p (founds (piece_of size i records)) v.hits) (omega arith) (h (suc j) v e)) in
    let one : (length ws + 1) * size ≡ length (w ∷ ws) * size = omega arith in
    subst (λ n. AreMatched p (founds (take n (drop (k * size) records))) (hits_in (w ∷ ws))) one
    (subst (λ l. AreMatched p l (hits_in (w ∷ ws)))
    (sym (ap founds (share-first (length ws) k size records)
    ∙ founds-append (piece_of size k records) (take (length ws * size) (drop ((k + 1) * size) records))))
    (matched-append p (founds (piece_of size k records))
    (founds (take (length ws * size) (drop ((k + 1) * size) records))) w.hits (hits_in ws) here behind))

-- all together are the hits of the records
joined : (p : PatternTerm) (size : ℕ) (records : List Shared) (ws : List WorkerTerm)
    → AreFoundFrom p size 0 records ws → length records ≤ length ws * size
    → AreMatched p (founds records) (hits_in ws)
joined p size records ws found covers =
    let none : 0 * size ≡ 0 = omega arith in
    subst (λ l. AreMatched p (founds l) (hits_in ws))
    (ap (λ n. take (length ws * size) (drop n records)) none ∙ take_all (length ws * size) records covers)
    (join-from p size 0 records ws found)

-- shares of so many records, one for each worker, are all that they have where none is less than an equal one
pub shares-joined : (p : PatternTerm) (n size : ℕ) (records : List Shared) (old new : List WorkerTerm)
    → n ≡ length records → div_ceil n (length old) ≤ size → length new ≡ length old → 1 ≤ length old
    → AreFoundFrom p size 0 records new → AreMatched p (founds records) (hits_in new)
shares-joined p n size records old new total all same some found =
    let times : div_ceil n (length old) * length old ≤ size * length old = mul-le-mul_right (length old) all in
    let covers : n ≤ length old * size = omega (arith, shares-cover n (length old) some, times) in
    joined p size records new found
    (subst (λ k. length records ≤ k * size) (sym same) (subst (λ m. m ≤ length old * size) total covers))

-- they are no more than the records
pub joined-few : (p : PatternTerm) (records : List Shared) (hits : List ℕ) → AreMatched p (founds records) hits
    → length hits ≤ length records
joined-few p records hits m =
    omega (
      arith,
      matched_few p (founds records) hits m,
      length-map records (λ (r : Shared). found_of (arc_value r)),
    )
