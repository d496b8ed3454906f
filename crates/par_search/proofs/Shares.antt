-- Equal shares: how many there are to a worker.
use Rattle.std.proofs.Common.{◌+◌, ◌*◌, ◌<◌, ◌≤◌, arith, inl, inr, ℕ}
use Rattle.std.proofs.Math.Nat.{mul-le-mul_right}
use Rattle.std.proofs.lemmas.Bool.{cases_lt}
use Rattle.std.proofs.lemmas.Grind.{div_ceil_times}
use Rattle.std.specs.Int.{div_ceil}

-- all of them together
pub shares-cover : (n k : ℕ) → 1 ≤ k → n ≤ div_ceil n k * k
shares-cover n k some = (div_ceil_times n k (omega (arith, some))).0

-- a share is no greater than any size that covers them
pub share-le : (n k size : ℕ) → 1 ≤ k → n ≤ size * k → div_ceil n k ≤ size
share-le n k size some covers =
    let q = div_ceil n k in
    let close : q * k < n + k = (div_ceil_times n k (omega (arith, some))).1 in
    least q close
  where
    least : (q : ℕ) → q * k < n + k → q ≤ size
    least q close = elim (cases_lt q (size + 1)) [
      | inl less ↦ omega (arith, less)
      | inr more ↦ let times : (size + 1) * k ≤ q * k =
          mul-le-mul_right k more in absurd (omega (arith, times, close, covers))
    ]

pub share-grows : (n m k : ℕ) → 1 ≤ k → n ≤ m → div_ceil n k ≤ div_ceil m k
share-grows n m k some le = share-le n k (div_ceil m k) some (omega (arith, le, shares-cover m k some))
