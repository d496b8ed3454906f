-- Arms as numbers: how large these are, which string of a path is the lesser, and its hash.
use Rattle.std.proofs.Common.{ℕ, ◌+◌, ◌*◌, ◌/◌, ◌%◌, ◌^◌, ◌<◌, ◌≤◌, ◌≡◌, inl, inr, Bool, true, false, cond, List, [], ◌∷◌, ◌++◌, length, fold, refl, sym, ap, ◌∙◌, arith}
use Rattle.std.specs.declared.cmp.Ordering.{Ordering}
use Rattle.std.specs.declared.cmp.Ordering.TheVariants.{Less, Equal, Greater}
use Rattle.std.specs.Ordering.{nat_cmp, is_lt, ordering_then}
use Rattle.std.specs.Cmp.Lexicographic.{slice_cmp}
use Rattle.std.specs.FinMap.{nat_cmp-IsAntisymmetric, slice_cmp-IsAntisymmetric}
use Rattle.std.proofs.Math.Nat.{mul-le-mul_right}
use Rattle.std.proofs.lemmas.Bool.{cases_eq}
use Rattle.std.proofs.lemmas.List.{length-append}
use Rattle.std.proofs.lemmas.List.Sums.{fold-append}
use Rattle.path_print.specs.declared.arm.Half.{Half}
use Rattle.path_print.specs.Path.{hash_of, lesser}
use Rattle.path_print.specs.Arms.{Joint, inward, outward, through, number_of, sum_from, AreBytes, IsHalf, IsHalfOf}
use Rattle.path_print.proofs.Digits.{then-assoc, nat_cmp-parts, less, equal, greater, sum_of_bytes, mod_same, times_rest}
use Rattle.path_print.proofs.Digits.{sum_from as sum_split_off}

-- ---- how large the numbers are

pub record IsSmall (h : Half) : Type 0 where
  pub number : h.number < 281474976710656
  pub head : h.head ≤ 50000000000000
  pub tail : h.tail ≤ 10000000000000

pub record IsSmaller (h : Half) : Type 0 where
  pub number : h.number < 16777216
  pub head : h.head ≤ 21000000
  pub tail : h.tail ≤ 5000000

pub one_small : (js : List Joint) (h : Half) → length js ≤ 1 → IsHalf js h → IsSmaller h
one_small [] h few half =
    let n = half.number in
    let s = half.head in
    let t = half.tail in
    record { number = omega arith; head = omega arith; tail = omega arith }
one_small (j ∷ []) h few half =
    let n = half.number in
    let s = half.head in
    let t = half.tail in
    let a = half.bytes.0 in
    let b = half.bytes.1 in
    let c = half.bytes.2 in
    record { number = omega arith; head = omega arith; tail = omega arith }
one_small (j ∷ k ∷ js) h few half = absurd (omega arith)

pub half_small : (js : List Joint) (h : Half) → length js ≤ 2 → IsHalf js h → IsSmall h
half_small [] h few half =
    let small = one_small [] h (omega arith) half in
    record { number = omega arith; head = omega arith; tail = omega arith }
half_small (j ∷ []) h few half =
    let small = one_small (j ∷ []) h (omega arith) half in
    record { number = omega arith; head = omega arith; tail = omega arith }
half_small (j ∷ k ∷ []) h few half =
    let n = half.number in
    let s = half.head in
    let t = half.tail in
    let a = half.bytes.0 in
    let b = half.bytes.1 in
    let c = half.bytes.2 in
    let d = half.bytes.3.0 in
    let e = half.bytes.3.1 in
    let f = half.bytes.3.2 in
    record { number = omega arith; head = omega arith; tail = omega arith }
half_small (j ∷ k ∷ l ∷ js) h few half = absurd (omega arith)

pub half_of_small : (n : ℕ) (h : Half) → n ≤ 2 → IsHalfOf n h → IsSmall h
half_of_small n h few half = half_small half.0 h (let e = half.1 in omega arith) half.2

pub half_of_smaller : (n : ℕ) (h : Half) → n ≤ 1 → IsHalfOf n h → IsSmaller h
half_of_smaller n h few half = one_small half.0 h (let e = half.1 in omega arith) half.2

-- what a sum of products with what is below the prime is at most
pub weighed_small : (h w : ℕ) → h ≤ 50000000000000 → w < 65521 → h * w ≤ 3276050000000000000
weighed_small h w few low =
    let product : h * w ≤ 50000000000000 * w = mul-le-mul_right w few in
    omega arith

pub middle_small : (s w : ℕ) → s ≤ 33660 → w < 65521 → s * w ≤ 2300000000
middle_small s w few low =
    let product : s * w ≤ 33660 * w = mul-le-mul_right w few in
    omega arith

-- ---- order

Bytes : List ℕ → Type 0
Bytes [] = Unit {0}
Bytes (x ∷ xs) = (x < 256) × Bytes xs

then-Equal : (o : Ordering) → o ≡ ordering_then o Equal
then-Equal Less = refl
then-Equal Equal = refl
then-Equal Greater = refl

nat_cmp-push : (m n x y : ℕ) → x < 256 → y < 256
    → nat_cmp (256 * m + x) (256 * n + y) ≡ ordering_then (nat_cmp m n) (nat_cmp x y)
nat_cmp-push m n x y hx hy =
    let a : (256 * m + x) / 256 ≡ m = omega arith in
    let b : (256 * n + y) / 256 ≡ n = omega arith in
    let c : (256 * m + x) % 256 ≡ x = omega arith in
    let d : (256 * n + y) % 256 ≡ y = omega arith in
    sym (nat_cmp-parts (256 * m + x) (256 * n + y)) ∙ rw (a, b, c, d)

cmp-number : (xs ys : List ℕ) (m n : ℕ) → Bytes xs → Bytes ys → length xs ≡ length ys
    → nat_cmp (fold (λ k byte. 256 * k + byte) m xs) (fold (λ k byte. 256 * k + byte) n ys)
    ≡ ordering_then (nat_cmp m n) (slice_cmp nat_cmp xs ys)
unfolding Bytes
cmp-number [] [] m n bx by e = then-Equal (nat_cmp m n)
cmp-number [] (y ∷ ys) m n bx by e = absurd (omega arith)
cmp-number (x ∷ xs) [] m n bx by e = absurd (omega arith)
cmp-number (x ∷ xs) (y ∷ ys) m n bx by e =
    cmp-number xs ys (256 * m + x) (256 * n + y) bx.1 by.1 (omega arith)
    ∙ ap (λ o. ordering_then o (slice_cmp nat_cmp xs ys)) (nat_cmp-push m n x y bx.0 by.0)
    ∙ sym (then-assoc (nat_cmp m n) (nat_cmp x y) (slice_cmp nat_cmp xs ys))

cmp-append : (xs ys us vs : List ℕ) → length xs ≡ length ys → slice_cmp nat_cmp (xs ++ us) (ys ++ vs)
    ≡ ordering_then (slice_cmp nat_cmp xs ys) (slice_cmp nat_cmp us vs)
cmp-append [] [] us vs e = refl
cmp-append [] (y ∷ ys) us vs e = absurd (omega arith)
cmp-append (x ∷ xs) [] us vs e = absurd (omega arith)
cmp-append (x ∷ xs) (y ∷ ys) us vs e = ap (ordering_then (nat_cmp x y)) (cmp-append xs ys us vs (omega arith))
    ∙ then-assoc (nat_cmp x y) (slice_cmp nat_cmp xs ys) (slice_cmp nat_cmp us vs)

-- the lesser of two strings that begin with so many bytes
back_lesser : (p q us vs : List ℕ) → Bytes p → Bytes q → length p ≡ length q → number_of q < number_of p
    → lesser (p ++ us) (q ++ vs) ≡ q ++ vs
back_lesser p q us vs bp bq e lt =
    let first : slice_cmp nat_cmp q p ≡ Less = sym (cmp-number q p 0 0 bq bp (sym e))
    ∙ less (number_of q) (number_of p) lt in
    ap (λ o. cond (is_lt o) (q ++ vs) (p ++ us)) (cmp-append q p vs us (sym e)
    ∙ ap (λ o. ordering_then o (slice_cmp nat_cmp vs us)) first)

either_same : (b : Bool) (s t : List ℕ) → t ≡ s → cond b t s ≡ s
either_same true s t e = e
either_same false s t e = refl

there_lesser : (p q us vs : List ℕ) → Bytes p → Bytes q → length p ≡ length q → number_of p ≤ number_of q
    → (p ≡ q → us ≡ vs) → lesser (p ++ us) (q ++ vs) ≡ p ++ us
there_lesser p q us vs bp bq e le same =
    let number = cmp-number q p 0 0 bq bp (sym e) in
    elim (cases_eq (number_of q) (number_of p)) [
      | inl equals ↦
          let first : slice_cmp nat_cmp q p ≡ Equal = sym number ∙ equal (number_of q) (number_of p) equals in
          let qp : q ≡ p = slice_cmp-IsAntisymmetric nat_cmp-IsAntisymmetric q p first in
          let rest : us ≡ vs = same (sym qp) in
          either_same (is_lt (slice_cmp nat_cmp (q ++ vs) (p ++ us))) (p ++ us) (q ++ vs)
          (ap (λ zs. zs ++ vs) qp ∙ ap (λ zs. p ++ zs) (sym rest))
      | inr differs ↦
          let first : slice_cmp nat_cmp q p ≡ Greater = sym number
          ∙ greater (number_of q) (number_of p) (omega arith) in
          ap (λ o. cond (is_lt o) (q ++ vs) (p ++ us)) (cmp-append q p vs us (sym e)
          ∙ ap (λ o. ordering_then o (slice_cmp nat_cmp vs us)) first)
    ]

Bytes-inward : (js : List Joint) → AreBytes js → Bytes (inward js)
unfolding Bytes
Bytes-inward [] bytes = tt
Bytes-inward (j ∷ js) bytes = (bytes.0, (bytes.1, (bytes.2, Bytes-inward js bytes.3)))

length-inward : (js ks : List Joint) → length js ≡ length ks → length (inward js) ≡ length (inward ks)
length-inward [] [] e = refl
length-inward [] (k ∷ ks) e = absurd (omega arith)
length-inward (j ∷ js) [] e = absurd (omega arith)
length-inward (j ∷ js) (k ∷ ks) e = let more = length-inward js ks (omega arith) in omega arith

outward_same : (js ks : List Joint) → length js ≡ length ks → inward js ≡ inward ks → outward js ≡ outward ks
outward_same [] [] e same = refl
outward_same [] (k ∷ ks) e same = absurd (omega arith)
outward_same (j ∷ js) [] e same = absurd (omega arith)
outward_same (j ∷ js) (k ∷ ks) e same =
    let a : j.0.0 ≡ k.0.0 = cc in
    let b : j.0.1 ≡ k.0.1 = cc in
    let c : j.1 ≡ k.1 = cc in
    let rest : inward js ≡ inward ks = cc in
    let more : outward js ≡ outward ks = outward_same js ks (omega arith) rest in
    cc

-- the lesser string of a path
module _ (l : ℕ × ℕ) (a b : Half) where
  pub even_back : (js ks : List Joint) → length js ≡ length ks → IsHalf js a → IsHalf ks b → b.number < a.number
      → lesser (through js l ks) (through ks l js) ≡ through ks l js
  even_back js ks e ha hb lt =
      let na = ha.number in
      let nb = hb.number in
      back_lesser (inward js) (inward ks) (l.0 ∷ l.1 ∷ outward ks) (l.0 ∷ l.1 ∷ outward js) (Bytes-inward js ha.bytes)
      (Bytes-inward ks hb.bytes) (length-inward js ks e) (omega arith)

  pub even_there : (js ks : List Joint) → length js ≡ length ks → IsHalf js a → IsHalf ks b → a.number ≤ b.number
      → lesser (through js l ks) (through ks l js) ≡ through js l ks
  even_there js ks e ha hb le =
      let na = ha.number in
      let nb = hb.number in
      there_lesser (inward js) (inward ks) (l.0 ∷ l.1 ∷ outward ks) (l.0 ∷ l.1 ∷ outward js) (Bytes-inward js ha.bytes)
      (Bytes-inward ks hb.bytes) (length-inward js ks e) (omega arith)
      (λ same. ap (λ zs. l.0 ∷ l.1 ∷ zs) (sym (outward_same js ks e same)))

  module _ (l0 : l.0 < 256) (l1 : l.1 < 256) where
    pub odd_back : (js ks : List Joint) → length js ≤ 2 → length js ≡ length ks + 1 → IsHalf js a → IsHalf ks b
        → b.number * 65536 + 256 * l.0 + l.1 < a.number / 256
        → lesser (through js l ks) (through ks l js) ≡ through ks l js
    unfolding Bytes
    odd_back (j ∷ []) [] few e ha hb lt =
        let na = ha.number in
        let nb = hb.number in
        let x = ha.bytes.2 in
        back_lesser (j.0.0 ∷ j.0.1 ∷ []) (l.0 ∷ l.1 ∷ []) (j.1 ∷ l.0 ∷ l.1 ∷ []) (j.1 ∷ j.0.0 ∷ j.0.1 ∷ [])
        (ha.bytes.0, (ha.bytes.1, tt)) (l0, (l1, tt)) refl (omega arith)
    odd_back (i ∷ j ∷ []) (k ∷ []) few e ha hb lt =
        let na = ha.number in
        let nb = hb.number in
        let x = ha.bytes.3.2 in
        back_lesser (i.0.0 ∷ i.0.1 ∷ i.1 ∷ j.0.0 ∷ j.0.1 ∷ []) (k.0.0 ∷ k.0.1 ∷ k.1 ∷ l.0 ∷ l.1 ∷ [])
        (j.1 ∷ l.0 ∷ l.1 ∷ k.1 ∷ k.0.0 ∷ k.0.1 ∷ []) (j.1 ∷ j.0.0 ∷ j.0.1 ∷ i.1 ∷ i.0.0 ∷ i.0.1 ∷ [])
        (ha.bytes.0, (ha.bytes.1, (ha.bytes.2, (ha.bytes.3.0, (ha.bytes.3.1, tt)))))
        (hb.bytes.0, (hb.bytes.1, (hb.bytes.2, (l0, (l1, tt))))) refl (omega arith)
    odd_back [] ks few e ha hb lt = absurd (omega arith)
    odd_back (j ∷ []) (k ∷ ks) few e ha hb lt = absurd (omega arith)
    odd_back (i ∷ j ∷ []) [] few e ha hb lt = absurd (omega arith)
    odd_back (i ∷ j ∷ []) (k ∷ m ∷ ks) few e ha hb lt = absurd (omega arith)
    odd_back (h ∷ i ∷ j ∷ js) ks few e ha hb lt = absurd (omega arith)

    pub odd_there : (js ks : List Joint) → length js ≤ 2 → length js ≡ length ks + 1 → IsHalf js a → IsHalf ks b
        → a.number / 256 ≤ b.number * 65536 + 256 * l.0 + l.1
        → lesser (through js l ks) (through ks l js) ≡ through js l ks
    unfolding Bytes
    odd_there (j ∷ []) [] few e ha hb le =
        let na = ha.number in
        let nb = hb.number in
        let x = ha.bytes.2 in
        there_lesser (j.0.0 ∷ j.0.1 ∷ []) (l.0 ∷ l.1 ∷ []) (j.1 ∷ l.0 ∷ l.1 ∷ []) (j.1 ∷ j.0.0 ∷ j.0.1 ∷ [])
        (ha.bytes.0, (ha.bytes.1, tt)) (l0, (l1, tt)) refl (omega arith) (λ same. cc)
    odd_there (i ∷ j ∷ []) (k ∷ []) few e ha hb le =
        let na = ha.number in
        let nb = hb.number in
        let x = ha.bytes.3.2 in
        there_lesser (i.0.0 ∷ i.0.1 ∷ i.1 ∷ j.0.0 ∷ j.0.1 ∷ []) (k.0.0 ∷ k.0.1 ∷ k.1 ∷ l.0 ∷ l.1 ∷ [])
        (j.1 ∷ l.0 ∷ l.1 ∷ k.1 ∷ k.0.0 ∷ k.0.1 ∷ []) (j.1 ∷ j.0.0 ∷ j.0.1 ∷ i.1 ∷ i.0.0 ∷ i.0.1 ∷ [])
        (ha.bytes.0, (ha.bytes.1, (ha.bytes.2, (ha.bytes.3.0, (ha.bytes.3.1, tt)))))
        (hb.bytes.0, (hb.bytes.1, (hb.bytes.2, (l0, (l1, tt))))) refl (omega arith) (λ same. cc)
    odd_there [] ks few e ha hb le = absurd (omega arith)
    odd_there (j ∷ []) (k ∷ ks) few e ha hb le = absurd (omega arith)
    odd_there (i ∷ j ∷ []) [] few e ha hb le = absurd (omega arith)
    odd_there (i ∷ j ∷ []) (k ∷ m ∷ ks) few e ha hb le = absurd (omega arith)
    odd_there (h ∷ i ∷ j ∷ js) ks few e ha hb le = absurd (omega arith)

-- ---- hashes

hash_from_sum : (h : ℕ) (xs : List ℕ) → fold (λ s b. (131 * s + b) % 65521) (h % 65521) xs ≡ sum_from h xs % 65521
hash_from_sum h [] = refl
hash_from_sum h (x ∷ xs) =
    let step : (131 * (h % 65521) + x) % 65521 ≡ (131 * h + x) % 65521 = omega arith in
    ap (λ n. fold (λ s b. (131 * s + b) % 65521) n xs) step ∙ hash_from_sum (131 * h + x) xs

split : (h : ℕ) (xs : List ℕ) → sum_from h xs ≡ h * 131 ^ length xs + sum_from 0 xs
unfolding sum_of_bytes
split h xs = sum_split_off h xs

length-outward : (js : List Joint) → length (outward js) ≡ 3 * length js
length-outward [] = refl
length-outward (j ∷ js) =
    let more = length-outward js in
    length-append (outward js) (j.1 ∷ j.0.0 ∷ j.0.1 ∷ []) ∙ (omega arith)

weigh : (h m t n w : ℕ) → w ≡ n % 65521
    → (h * (w * 131 * 131 % 65521) + m * w + t) % 65521 ≡ ((131 * (131 * h) + m) * n + t) % 65521
weigh h m t n w is =
    let one : (h * (w * 131 * 131 % 65521)) % 65521 ≡ (131 * (131 * h) * n) % 65521 = times_rest h (w * 131 * 131)
    ∙ ap (λ k. k % 65521) (grind arith) ∙ ap (λ k. (131 * (131 * h) * k) % 65521) is
    ∙ times_rest (131 * (131 * h)) n in
    let two : (m * w) % 65521 ≡ (m * n) % 65521 = ap (λ k. (m * k) % 65521) is ∙ times_rest m n in
    let sum = mod_same (h * (w * 131 * 131 % 65521)) (131 * (131 * h) * n) (m * w) (m * n) one two in
    let all = mod_same (h * (w * 131 * 131 % 65521) + m * w) (131 * (131 * h) * n + m * n) t t sum refl in
    all ∙ ap (λ k. (k + t) % 65521) (grind arith)

-- the hash of a string, from what is kept of its arms
pub hash_through : (l : ℕ × ℕ) (a b : Half) (js ks : List Joint) (w : ℕ) → IsHalf js a → IsHalf ks b
    → w ≡ 131 ^ (3 * length ks) % 65521
    → (a.head * (w * 131 * 131 % 65521) + (17161 * 0 + 131 * l.0 + l.1) * w + b.tail) % 65521
    ≡ hash_of (through js l ks)
hash_through l a b js ks w ha hb is =
    let n : ℕ = 131 ^ (3 * length ks) in
    let whole : hash_of (through js l ks) ≡ sum_from 7 (through js l ks) % 65521 = hash_from_sum 7 (through js l ks) in
    let apart : sum_from 7 (through js l ks) ≡ sum_from (sum_from 7 (inward js)) (l.0 ∷ l.1 ∷ outward ks) = fold-append
    (λ s b. 131 * s + b) 7 (inward js) (l.0 ∷ l.1 ∷ outward ks) in
    let behind = split (131 * (131 * sum_from 7 (inward js) + l.0) + l.1) (outward ks) in
    let long : 131 ^ length (outward ks) ≡ n = ap (λ k. 131 ^ k) (length-outward ks) in
    let middle : 131 * (131 * sum_from 7 (inward js) + l.0) + l.1
    ≡ 131 * (131 * a.head) + (17161 * 0 + 131 * l.0 + l.1) = let h = ha.head in omega arith in
    weigh a.head (17161 * 0 + 131 * l.0 + l.1) b.tail n w is
    ∙ ap (λ k. k % 65521) (ap (λ t. (131 * (131 * a.head) + (17161 * 0 + 131 * l.0 + l.1)) * n + t) hb.tail
    ∙ ap (λ k. k * n + sum_from 0 (outward ks)) (sym middle)
    ∙ ap (λ k. (131 * (131 * sum_from 7 (inward js) + l.0) + l.1) * k + sum_from 0 (outward ks)) (sym long)
    ∙ sym behind
    ∙ sym apart)
    ∙ sym whole
