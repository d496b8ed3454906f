-- Strings as numbers: bytes at either end, order, and what they add to a hash.
use Rattle.std.proofs.Common.{ℕ, zero, suc, ◌+◌, ◌*◌, ◌/◌, ◌%◌, ◌^◌, ◌<◌, ◌≤◌, ◌≡◌, inl, inr, List, [], ◌∷◌, ◌++◌, length, fold, refl, sym, ap, ◌∙◌, append_assoc, lit≤, arith}
use Rattle.std.specs.declared.cmp.Ordering.{Ordering}
use Rattle.std.specs.declared.cmp.Ordering.TheVariants.{Less, Equal, Greater}
use Rattle.std.specs.Ordering.{nat_cmp, ordering_then}
use Rattle.std.specs.Cmp.{nat_cmp_is}
use Rattle.std.specs.Cmp.Lexicographic.{slice_cmp}
use Rattle.std.proofs.Math.Nat.{pow-succ', mul-le-mul_right, mod-add-mod}
use Rattle.std.proofs.Math.Pow.{pow_mono}
use Rattle.std.proofs.lemmas.Nat.{mul-mod_first, shl_whole}
use Rattle.std.proofs.lemmas.Bool.{cases_lt, cases_eq}
use Rattle.std.proofs.lemmas.List.{length-append, append-nil}
use Rattle.std.proofs.lemmas.List.Sums.{fold-append}
use Rattle.path_print.specs.Path.{hash_of, bit_of}
use Rattle.path_print.specs.Texts.{digits, IsTextInside}

-- ---- bytes at the end

pub length-digits : (k n : ℕ) → length (digits k n) ≡ k
unfolding digits
length-digits zero n = refl
length-digits (suc k) n = length-append (digits k (n / 256)) (n % 256 ∷ [])
    ∙ rw (length-digits k (n / 256)) (omega arith)

digits-push : (k n c : ℕ) → c < 256 → digits (suc k) (256 * n + c) ≡ digits k n ++ c ∷ []
unfolding digits
digits-push k n c h =
    let q : (256 * n + c) / 256 ≡ n = omega arith in
    let r : (256 * n + c) % 256 ≡ c = omega arith in
    rw (q, r)

pub digits-push_three : (k n a b c : ℕ) → a < 256 → b < 256 → c < 256
    → digits (k + 3) (n * 16777216 + (65536 * a + 256 * b + c)) ≡ digits k n ++ a ∷ b ∷ c ∷ []
digits-push_three k n a b c ha hb hc =
    let e : k + 3 ≡ suc (suc (suc k)) = omega arith in
    let is : n * 16777216 + (65536 * a + 256 * b + c) ≡ 256 * (256 * (256 * n + a) + b) + c = omega arith in
    rw (e, is)
    (digits-push (suc (suc k)) (256 * (256 * n + a) + b) c hc
    ∙ ap (λ xs. xs ++ c ∷ []) (digits-push (suc k) (256 * n + a) b hb ∙ ap (λ xs. xs ++ b ∷ []) (digits-push k n a ha))
    ∙ ap (λ xs. xs ++ c ∷ []) (append_assoc (digits k n) (a ∷ []) (b ∷ []))
    ∙ append_assoc (digits k n) (a ∷ b ∷ []) (c ∷ []))

-- ---- bytes in front

pub digits-join : (j k u n : ℕ) → n < 256 ^ k → digits (j + k) (u * 256 ^ k + n) ≡ digits j u ++ digits k n
unfolding digits
digits-join j zero u n h =
    let e : j + zero ≡ j = omega arith in
    let is : u * 1 + n ≡ u = omega arith in
    rw (e, is) (sym (append-nil (digits j u)))
digits-join j (suc k) u n h =
    let e : j + suc k ≡ suc (j + k) = omega arith in
    let p : 256 ^ suc k ≡ 256 * 256 ^ k = pow-succ' 256 k in
    let low : n < 256 * 256 ^ k = rw p at h in
    let is : u * 256 ^ suc k ≡ 256 * (u * 256 ^ k) = rw p (omega arith) in
    let q : (u * 256 ^ suc k + n) / 256 ≡ u * 256 ^ k + n / 256 = rw is (omega arith) in
    let r : (u * 256 ^ suc k + n) % 256 ≡ n % 256 = rw is (omega arith) in
    let fits : n / 256 < 256 ^ k = omega arith in
    rw (e, q, r) (ap (λ xs. xs ++ n % 256 ∷ []) (digits-join j k u (n / 256) fits)
    ∙ append_assoc (digits j u) (digits k (n / 256)) (n % 256 ∷ []))

-- ---- order

pub then-assoc : (o p q : Ordering) → ordering_then o (ordering_then p q) ≡ ordering_then (ordering_then o p) q
then-assoc Less p q = refl
then-assoc Equal p q = refl
then-assoc Greater p q = refl

slice_cmp-push : (xs ys : List ℕ) (x y : ℕ) → length xs ≡ length ys
    → slice_cmp nat_cmp (xs ++ x ∷ []) (ys ++ y ∷ []) ≡ ordering_then (slice_cmp nat_cmp xs ys) (nat_cmp x y)
slice_cmp-push [] [] x y h = at (nat_cmp x y)
  where
    at : (o : Ordering) → ordering_then o Equal ≡ o
    at Less = refl
    at Equal = refl
    at Greater = refl
slice_cmp-push [] (b ∷ ys) x y h = absurd (omega arith)
slice_cmp-push (a ∷ xs) [] x y h = absurd (omega arith)
slice_cmp-push (a ∷ xs) (b ∷ ys) x y h =
    ap (ordering_then (nat_cmp a b)) (slice_cmp-push xs ys x y (omega arith))
    ∙ then-assoc (nat_cmp a b) (slice_cmp nat_cmp xs ys) (nat_cmp x y)

pub less : (m n : ℕ) → m < n → nat_cmp m n ≡ Less
less m n h = sym (nat_cmp_is m n Less h)

pub equal : (m n : ℕ) → m ≡ n → nat_cmp m n ≡ Equal
equal m n h = sym (nat_cmp_is m n Equal h)

pub greater : (m n : ℕ) → n < m → nat_cmp m n ≡ Greater
greater m n h = sym (nat_cmp_is m n Greater h)

pub nat_cmp-parts : (m n : ℕ) → ordering_then (nat_cmp (m / 256) (n / 256)) (nat_cmp (m % 256) (n % 256)) ≡ nat_cmp m n
nat_cmp-parts m n =
    elim (cases_lt (m / 256) (n / 256)) [
      | inl l ↦ rw (less (m / 256) (n / 256) l) (sym (less m n (omega arith)))
      | inr g ↦ elim (cases_eq (m / 256) (n / 256)) [
        | inl e ↦ rw (equal (m / 256) (n / 256) e) (elim (cases_lt (m % 256) (n % 256)) [
          | inl l ↦ rw (less (m % 256) (n % 256) l) (sym (less m n (omega arith)))
          | inr g' ↦ elim (cases_eq (m % 256) (n % 256)) [
            | inl e' ↦ rw (equal (m % 256) (n % 256) e') (sym (equal m n (omega arith)))
            | inr d ↦ rw (greater (m % 256) (n % 256) (omega arith)) (sym (greater m n (omega arith)))
          ]
        ])
        | inr d ↦ rw (greater (m / 256) (n / 256) (omega arith)) (sym (greater m n (omega arith)))
      ]
    ]

slice_cmp-digits : (k m n : ℕ) → m < 256 ^ k → n < 256 ^ k → slice_cmp nat_cmp (digits k m) (digits k n) ≡ nat_cmp m n
unfolding digits
slice_cmp-digits zero m n hm hn = sym (equal m n (omega arith))
slice_cmp-digits (suc k) m n hm hn =
    let p : 256 ^ suc k ≡ 256 * 256 ^ k = pow-succ' 256 k in
    let hm' : m < 256 * 256 ^ k = rw p at hm in
    let hn' : n < 256 * 256 ^ k = rw p at hn in
    slice_cmp-push (digits k (m / 256)) (digits k (n / 256)) (m % 256) (n % 256) (length-digits k (m / 256)
    ∙ sym (length-digits k (n / 256)))
    ∙ ap (λ o. ordering_then o (nat_cmp (m % 256) (n % 256)))
    (slice_cmp-digits k (m / 256) (n / 256) (omega arith) (omega arith))
    ∙ nat_cmp-parts m n

-- ---- hashes

-- what bytes add to a hash
unfoldable pub sum_of_bytes : List ℕ → ℕ
sum_of_bytes bytes = fold (λ h byte. 131 * h + byte) 0 bytes

pub sum_from : (h : ℕ) (xs : List ℕ) → fold (λ s b. 131 * s + b) h xs ≡ h * 131 ^ length xs + sum_of_bytes xs
unfolding sum_of_bytes
sum_from h [] = omega arith
sum_from h (x ∷ xs) =
    let n = length xs in
    let p : 131 ^ suc (length xs) ≡ 131 * 131 ^ length xs = pow-succ' 131 (length xs) in
    let one = sum_from (131 * h + x) xs in
    let two = sum_from (131 * 0 + x) xs in
    one ∙ rw p (sym (ap (λ s. h * (131 * 131 ^ length xs) + s) two ∙ grind arith))

hash_from : (h : ℕ) (xs : List ℕ) → h < 65521 → fold (λ s b. (131 * s + b) % 65521) h xs
    ≡ (h * 131 ^ length xs + sum_of_bytes xs) % 65521
unfolding sum_of_bytes
hash_from h [] low = omega arith
hash_from h (x ∷ xs) low =
    let k : ℕ = 131 * h + x in
    let small : k % 65521 < 65521 = omega arith in
    let p : 131 ^ suc (length xs) ≡ 131 * 131 ^ length xs = pow-succ' 131 (length xs) in
    hash_from (k % 65521) xs small
    ∙ sym (mod-add-mod (k % 65521 * 131 ^ length xs) 65521 (sum_of_bytes xs))
    ∙ ap (λ m. (m + sum_of_bytes xs) % 65521) (mul-mod_first k (131 ^ length xs) 65521)
    ∙ mod-add-mod (k * 131 ^ length xs) 65521 (sum_of_bytes xs)
    ∙ ap (λ m. m % 65521) (sym (sum_from k xs) ∙ sum_from h (x ∷ xs))

hash_small : (xs : List ℕ) → hash_of xs < 65521
hash_small xs = rw (hash_from 7 xs (omega arith)) (omega arith)

-- the hash after three more bytes
hash-push_three : (h a b c : ℕ) (xs : List ℕ) → h % 65521 ≡ hash_of xs
    → (h * 131 * 131 * 131 + (17161 * a + 131 * b + c)) % 65521 ≡ hash_of (xs ++ a ∷ b ∷ c ∷ [])
unfolding sum_of_bytes
hash-push_three h a b c xs is =
    let same : (h * 131 * 131 * 131 + (17161 * a + 131 * b + c)) % 65521
    ≡ (h % 65521 * 2248091 + (131 * (131 * (131 * 0 + a) + b) + c)) % 65521 = omega arith in
    same
    ∙ ap (λ k. (k * 2248091 + (131 * (131 * (131 * 0 + a) + b) + c)) % 65521) is
    ∙ sym (hash_from (hash_of xs) (a ∷ b ∷ c ∷ []) (hash_small xs))
    ∙ sym (fold-append (λ s b. (131 * s + b) % 65521) 7 xs (a ∷ b ∷ c ∷ []))

hash_two : (a b : ℕ) → (7 * 131 * 131 + (17161 * 0 + 131 * a + b)) % 65521 ≡ hash_of (a ∷ b ∷ [])
unfolding sum_of_bytes
hash_two a b =
    let same : 7 * 131 * 131 + (17161 * 0 + 131 * a + b) ≡ 7 * 17161 + (131 * (131 * 0 + a) + b) = omega arith in
    ap (λ n. n % 65521) same ∙ sym (hash_from 7 (a ∷ b ∷ []) (omega arith))

-- the hash with three more bytes in front, which weigh as much as the bytes behind make them weigh
pub mod_same : (a b c d : ℕ) → a % 65521 ≡ b % 65521 → c % 65521 ≡ d % 65521 → (a + c) % 65521 ≡ (b + d) % 65521
mod_same a b c d h k = omega arith

pub times_rest : (m w : ℕ) → (m * (w % 65521)) % 65521 ≡ (m * w) % 65521
times_rest m w =
    let e : m * (w % 65521) ≡ w % 65521 * m = grind arith in
    let f : m * w ≡ w * m = grind arith in
    rw (e, f) (mul-mod_first w m 65521)

front_parts : (w x a b c : ℕ) → 7 * (131 * (131 * (131 * w))) + ((131 * (131 * (131 * 0 + a) + b) + c) * w + x)
    ≡ (7 * w + x) + (15736630 + (17161 * a + 131 * b + c)) * w
front_parts w x a b c = grind arith

power_three : (n : ℕ) → 131 ^ suc (suc (suc n)) ≡ 131 * (131 * (131 * 131 ^ n))
power_three n = pow-succ' 131 (suc (suc n)) ∙ ap (λ p. 131 * p) (pow-succ' 131 (suc n) ∙ ap (λ p. 131 * p)
    (pow-succ' 131 n))

hash-front_three : (s w a b c : ℕ) (xs : List ℕ) → s % 65521 ≡ hash_of xs → w ≡ 131 ^ length xs % 65521
    → (s + (15736630 + (17161 * a + 131 * b + c)) * w) % 65521 ≡ hash_of (a ∷ b ∷ c ∷ xs)
unfolding sum_of_bytes
hash-front_three s w a b c xs is weighs =
    let more = sum_from (131 * (131 * (131 * 0 + a) + b) + c) xs in
    mod_same s (7 * 131 ^ length xs + sum_of_bytes xs) ((15736630 + (17161 * a + 131 * b + c)) * w)
    ((15736630 + (17161 * a + 131 * b + c)) * 131 ^ length xs) (is ∙ hash_from 7 xs (omega arith))
    (ap (λ v. ((15736630 + (17161 * a + 131 * b + c)) * v) % 65521) weighs
    ∙ times_rest (15736630 + (17161 * a + 131 * b + c)) (131 ^ length xs))
    ∙ ap (λ v. v % 65521) (sym (front_parts (131 ^ length xs) (sum_of_bytes xs) a b c)
    ∙ ap (λ p. 7 * p + ((131 * (131 * (131 * 0 + a) + b) + c) * 131 ^ length xs + sum_of_bytes xs))
    (sym (power_three (length xs)))
    ∙ ap (λ t. 7 * 131 ^ suc (suc (suc (length xs))) + t) (sym more))
    ∙ sym (hash_from 7 (a ∷ b ∷ c ∷ xs) (omega arith))

-- the bit from what is kept
pub bit-there : (k m n s : ℕ) → m < 256 ^ k → n < 256 ^ k → s % 65521 ≡ hash_of (digits k m) → m ≤ n
    → s % 65521 % 1024 ≡ bit_of (digits k m) (digits k n)
bit-there k m n s hm hn is le =
    let order = slice_cmp-digits k n m hn hm in
    elim (cases_eq n m) [
      | inl e ↦ rw (order, equal n m e) (ap (λ g. g % 1024) is)
      | inr d ↦ rw (order, greater n m (omega arith)) (ap (λ g. g % 1024) is)
    ]

pub bit-back : (k m n s : ℕ) → m < 256 ^ k → n < 256 ^ k → s % 65521 ≡ hash_of (digits k n) → n < m
    → s % 65521 % 1024 ≡ bit_of (digits k m) (digits k n)
bit-back k m n s hm hn is lt = rw (slice_cmp-digits k n m hn hm, less n m lt) (ap (λ g. g % 1024) is)

-- ---- texts

digits-two : (n a b : ℕ) → a < 256 → b < 256 → n ≡ 65536 * 0 + 256 * a + b → digits 2 n ≡ a ∷ b ∷ []
unfolding digits
digits-two n a b ha hb is =
    let low : n % 256 ≡ b = omega arith in
    let high : n / 256 % 256 ≡ a = omega arith in
    rw (low, high)

pub two_inside : (n s a b : ℕ) → a < 256 → b < 256 → n ≡ 65536 * 0 + 256 * a + b → s ≡ 17161 * 0 + 131 * a + b
    → IsTextInside 2 n n (7 * 131 * 131 + s) (7 * 131 * 131 + s) (131 * 131) × (digits 2 n ≡ a ∷ b ∷ [])
two_inside n s a b ha hb is adds =
    let two = digits-two n a b ha hb is in
    let hash : (7 * 131 * 131 + s) % 65521 ≡ hash_of (digits 2 n) = rw two (ap (λ t. (7 * 131 * 131 + t) % 65521) adds
    ∙ hash_two a b) in (
      record {
        few = lit≤ tt;
        there_fits = omega arith;
        back_fits = omega arith;
        there_hash = hash;
        back_hash = hash;
        weighs = refl;
        two = λ _. (omega arith, omega arith, lit≤ tt);
        five = λ _. (omega arith, omega arith);
        eight = λ _. (omega arith, omega arith);
        eleven = λ _. omega arith;
        there_small = omega arith;
        back_small = omega arith;
      },
      two,
    )

digits-three : (n a b c : ℕ) → a < 256 → b < 256 → c < 256 → n ≡ 65536 * a + 256 * b + c → digits 3 n ≡ a ∷ b ∷ c ∷ []
unfolding digits
digits-three n a b c ha hb hc is =
    let low : n % 256 ≡ c = omega arith in
    let mid : n / 256 % 256 ≡ b = omega arith in
    let high : n / 256 / 256 % 256 ≡ a = omega arith in
    rw (low, mid, high)

pow_bits : (k : ℕ) → 256 ^ k ≡ 2 ^ (8 * k)
pow_bits zero = refl
pow_bits (suc k) =
    let e : 8 * suc k ≡ suc (suc (suc (suc (suc (suc (suc (suc (8 * k)))))))) = omega arith in
    rw (pow-succ' 256 k, pow_bits k, e)
    (let m : ℕ = 8 * k in
    let p1 = pow-succ' 2 m in
    let p2 = pow-succ' 2 (suc m) in
    let p3 = pow-succ' 2 (suc (suc m)) in
    let p4 = pow-succ' 2 (suc (suc (suc m))) in
    let p5 = pow-succ' 2 (suc (suc (suc (suc m)))) in
    let p6 = pow-succ' 2 (suc (suc (suc (suc (suc m))))) in
    let p7 = pow-succ' 2 (suc (suc (suc (suc (suc (suc m)))))) in
    let p8 = pow-succ' 2 (suc (suc (suc (suc (suc (suc (suc m))))))) in
    omega arith)

pow_three : (k : ℕ) → 256 ^ (k + 3) ≡ 16777216 * 256 ^ k
pow_three k =
    let e : k + 3 ≡ suc (suc (suc k)) = omega arith in
    let p1 = pow-succ' 256 k in
    let p2 = pow-succ' 256 (suc k) in
    let p3 = pow-succ' 256 (suc (suc k)) in
    rw e (omega arith)

module _ (k there back there_sum back_sum weight byte l r tail tail_sum head head_sum : ℕ) (room : k ≤ 11)
    (inside : IsTextInside k there back there_sum back_sum weight)
    (hb : byte < 256) (hl : l < 256) (hr : r < 256) (is_tail : tail ≡ 65536 * byte + 256 * l + r)
    (is_tail_sum : tail_sum ≡ 17161 * byte + 131 * l + r) (is_head : head ≡ 65536 * l + 256 * r + byte)
    (is_head_sum : head_sum ≡ 17161 * l + 131 * r + byte) (sum : ℕ) (same : sum % 65521 ≡ there_sum % 65521)
    (less : sum ≤ there_sum) (small : sum ≤ 2000000000000) where
  there_whole : there * 16777216 % 2 ^ 128 ≡ there * 16777216
  there_whole =
      let fits : there < 2 ^ (8 * k) = rw pow_bits at inside.there_fits in
      shl_whole there (8 * k) 24 128 fits (omega arith)

  back_whole : head * 2 ^ (8 * k) % 2 ^ 128 ≡ head * 256 ^ k
  back_whole =
      let small : head < 2 ^ 24 = omega arith in
      shl_whole head 24 (8 * k) 128 small (omega arith) ∙ ap (λ m. head * m) (sym (pow_bits k))

  pub longer_there : digits (k + 3) (there * 16777216 % 2 ^ 128 + tail) ≡ digits k there ++ byte ∷ l ∷ r ∷ []
  longer_there = rw (there_whole, is_tail) (digits-push_three k there byte l r hb hl hr)

  pub longer_back : digits (k + 3) (head * 2 ^ (8 * k) % 2 ^ 128 + back) ≡ l ∷ r ∷ byte ∷ digits k back
  longer_back =
      let e : k + 3 ≡ 3 + k = omega arith in
      rw (back_whole, e) (digits-join 3 k head back inside.back_fits
      ∙ ap (λ xs. xs ++ digits k back) (digits-three head l r byte hl hr hb is_head))

  weighed_small : (15736630 + head_sum) * weight ≤ 1400000000000
  weighed_small =
      let w : weight ≤ 65520 = omega arith in
      let few : 15736630 + head_sum ≤ 21000000 = omega arith in
      let product : (15736630 + head_sum) * weight ≤ 21000000 * weight = mul-le-mul_right weight few in
      omega arith

  weighed_first : weight ≤ 17161 → (15736630 + head_sum) * weight ≤ 400000000000
  weighed_first w =
      let few : 15736630 + head_sum ≤ 21000000 = omega arith in
      let product : (15736630 + head_sum) * weight ≤ 21000000 * weight = mul-le-mul_right weight few in
      omega arith

  pub longer_inside : IsTextInside (k + 3) (head * 2 ^ (8 * k) % 2 ^ 128 + back) (there * 16777216 % 2 ^ 128 + tail)
      (back_sum + (15736630 + head_sum) * weight) (sum * 131 * 131 * 131 + tail_sum)
      (weight * 131 * 131 * 131 % 65521)
  longer_inside =
      let pw = pow_three k in
      let lo = inside.there_fits in
      let lb = inside.back_fits in
      let few : head ≤ 16777215 = omega arith in
      let product : head * 256 ^ k ≤ 16777215 * 256 ^ k = mul-le-mul_right (256 ^ k) few in
      record {
        few = omega arith;
        there_fits = rw back_whole (omega arith);
        back_fits = rw there_whole (omega arith);
        there_hash = rw (longer_back, is_head_sum) (hash-front_three back_sum weight l r byte (digits k back)
            inside.back_hash (inside.weighs ∙ ap (λ n. 131 ^ n % 65521) (sym (length-digits k back))));
        back_hash = rw (longer_there, is_tail_sum)
            (hash-push_three sum byte l r (digits k there) (same ∙ inside.there_hash));
        weighs =
            let p = power_three k in
            let e : k + 3 ≡ suc (suc (suc k)) = omega arith in
            let w = inside.weighs in
            rw (e, p) (omega arith);
        two = λ le. absurd (omega (arith, le));
        five = λ le.
            let was = inside.two (omega (arith, le)) in
            let weighed = weighed_first was.2 in
            (omega (arith, was.1, weighed), omega (arith, was.0, less));
        eight = λ le.
            let was = inside.five (omega (arith, le)) in
            (omega (arith, was.1, weighed_small), omega (arith, was.0, less));
        eleven = λ le. omega (arith, small);
        there_small = let was = inside.eleven room in omega (arith, was, weighed_small);
        back_small = omega (arith, small);
      }

  pub longer_fits : head * 2 ^ (8 * k) % 2 ^ 128 + back < 2 ^ 128
  longer_fits =
      let low = longer_inside.there_fits in
      let bits = pow_bits (k + 3) in
      let few : 8 * (k + 3) ≤ 112 = omega arith in
      let most : 2 ^ (8 * (k + 3)) ≤ 2 ^ 112 = pow_mono few in
      omega (arith, low, bits, most)
