-- Parts of a block of bytes.
use Rattle.std.proofs.Common.{◌≡◌, ℕ, ◌+◌, ◌-◌, ◌≤◌, List, ◌++◌, Option, length, take, drop, sym, ap, ◌∙◌, arith, length-take, length-drop}
use Rattle.std.proofs.lemmas.List.{drop-take, drop-drop, drop-append-le, take_at}
use Rattle.std.proofs.lemmas.Slice.{between_is}
use Rattle.std.specs.List.{between}
use lib.Seq.{take-add}
use Rattle.io_edge.specs.Buffer.{Gains}
use Rattle.io_edge.specs.Source.{Leaves}

-- the bytes from s to e, without the first k of them
pub between_cut : (xs : List ℕ) (s e k : ℕ) → k ≤ e - s → between (s + k) e xs ≡ drop k (between s e xs)
between_cut xs s e k h =
    let m : ℕ = e - s - k in
    let split : e - s ≡ k + m = omega arith in
    let last : e - (s + k) ≡ m = omega arith in
    ap (λ n. take n (drop (s + k) xs)) last
    ∙ ap (take m) (sym (drop-drop k s xs))
    ∙ sym (drop-take k m (drop s xs))
    ∙ ap (λ n. drop k (take n (drop s xs))) (sym split)

-- the bytes from s, with n more that were written behind them
pub between_grown : (xs ys : List ℕ) (s e n : ℕ) → s ≤ e → e ≤ length ys → take e ys ≡ take e xs → between s (e + n) ys
    ≡ between s e xs ++ take n (drop e ys)
between_grown xs ys s e n order fits same =
    between_is ys s (e + n)
    ∙ ap (drop s) (take-add e n ys)
    ∙ drop-append-le s (take e ys) (take n (drop e ys)) (omega (arith, length-take e ys))
    ∙ ap (λ l. drop s l ++ take n (drop e ys)) same
    ∙ ap (λ l. l ++ take n (drop e ys)) (sym (between_is xs s e))

-- what a buffer holds after it made room in its block and took n bytes to the end of what it held
pub filled : (old items moved now : List ℕ) (len s e n : ℕ) (left_old left_new : Option (List ℕ)) → length moved ≡ len
    → length now ≡ len
    → between s e moved ≡ old → take e now ≡ take e moved → s ≤ e → e + n ≤ len
    → Leaves left_old (take n (drop e now)) left_new
    → Gains old (between s (e + n)
    (take len (now ++ drop (length now) (take len (moved ++ drop (length moved) items))))) n left_old left_new
filled old items moved now len s e n left_old left_new moved_len now_len held same order fits leaves = record {
  got = take n (drop e now);
  number = omega (arith, length-take n (drop e now), length-drop e now);
  held = ap (between s (e + n)) (take_at now _ len now_len) ∙ between_grown moved now s e n order (omega arith) same
      ∙ ap (λ l. l ++ take n (drop e now)) held;
  leaves = leaves;
}
