-- Slots in any order: they differ, and are below 64.
use Rattle.std.proofs.Common.{◌≡◌, ◌≢◌, ◌==◌, ◌<◌, ◌∙◌, All, AllPairs, arith, get_or, length, List, subst, sym, ℕ}
use Rattle.std.specs.List.{range_with_len}
use Rattle.std.proofs.lemmas.Bool.Decides.{Decides-eqb}
use Rattle.std.proofs.lemmas.Grind.{same_number_lists}
use Rattle.std.proofs.lemmas.List.FromFn.{get_or-range_with_len, length-range_with_len}
use Rattle.std.proofs.lemmas.List.Sorted.{All-permutation, IsPermutation-refl, length_permutation}
use Rattle.std.proofs.lemmas.Map.Keys.{IsDistinct-IsPermutation}
use Rattle.std.proofs.lemmas.Map.Made.{AllPairs-from_IsDistinct, IsDistinct-from_AllPairs}
use Rattle.snap_registry.specs.Pins.{AreSlots}

pub slots-length : (slots : List ℕ) → AreSlots slots → length slots ≡ 64
slots-length slots all = length_permutation (range_with_len 0 64) slots all ∙ length-range_with_len 0 64

range-below : All (λ s. s < 64) (range_with_len 0 64)
range-below k d less =
    let within : k < 64 = omega (arith, less, length-range_with_len 0 64) in
    let e = get_or-range_with_len 0 64 k d within in
    omega (arith, e, within)

range-apart : AllPairs (λ s t. s ≢ t) (range_with_len 0 64)
range-apart i j d less within =
    let n : j < 64 = omega (arith, within, length-range_with_len 0 64) in
    let e = get_or-range_with_len 0 64 i d (omega (arith, less, n)) in
    let f = get_or-range_with_len 0 64 j d n in
    λ same. omega (arith, e, f, less, same)

pub slots-below : (slots : List ℕ) → AreSlots slots → All (λ s. s < 64) slots
slots-below slots all = All-permutation (λ s. s < 64) (range_with_len 0 64) slots all range-below

flips : (a b : ℕ) → (a == b) ≡ (b == a)
flips a b = grind arith

pub slots-apart : (slots : List ℕ) → AreSlots slots → AllPairs (λ s t. s ≢ t) slots
slots-apart slots all =
    AllPairs-from_IsDistinct Decides-eqb slots
    (IsDistinct-IsPermutation (λ a b. a == b) flips (range_with_len 0 64) slots all
    (IsDistinct-from_AllPairs Decides-eqb (range_with_len 0 64) range-apart))

-- an array that was filled with its places
pub counted : (slots : List ℕ) → length slots ≡ 64 → ((k : ℕ) → k < 64 → get_or slots k 0 ≡ k) → AreSlots slots
counted slots n filled = subst AreSlots (same_number_lists (range_with_len 0 64) slots (length-range_with_len 0 64
    ∙ sym n) (λ k less. at k (omega (arith, less, length-range_with_len 0 64))))
    (IsPermutation-refl (range_with_len 0 64))
  where
    at : (k : ℕ) → k < 64 → get_or (range_with_len 0 64) k 0 ≡ get_or slots k 0
    at k within = let e = get_or-range_with_len 0 64 k 0 within in let f = filled k within in omega (arith, e, f)
