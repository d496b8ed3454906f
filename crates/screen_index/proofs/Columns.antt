-- The columns of pairs, and which pairs rows tell to lack what is wanted.
use Rattle.std.proofs.Common.{◌≡◌, ◌≢◌, ◌<◌, ◌++◌, ◌∙◌, All, ap, arith, Bool, get_or, length, List, [], ◌∷◌, map, refl, set, suc, sym, zero, ℕ, drop, take, inl, inr}
use Rattle.std.specs.List.{AllWithin, insert}
use Rattle.std.proofs.lemmas.Bool.{cases_lt}
use Rattle.std.proofs.lemmas.List.Elements.{All-append, All-cons, All-drop, All-take}
use Rattle.std.proofs.lemmas.List.{map-append}
use Rattle.std.specs.Int.{bit_at}
use Rattle.std.proofs.lemmas.Nat.Bits.{bit_at-zero}
use Rattle.screen_index.specs.declared.entry.Screened.{Screened}
use Rattle.screen_index.specs.Pairs.{AreNoted, Holds, IsWanted, Notes, column_of}

-- what an answer of rows says of columns
abbrev pub AreColumnsOf : List Bool → List Bool → ℕ → Type 0
AreColumnsOf rows want columns = (print : List Bool) (column : ℕ) → column < 64 → Notes rows print column
    → Holds print want → bit_at columns column ≡ 1

module _ {V : Type 0} where
  -- a pair takes the place of one of its column
  pub columns-set : (xs : List (Screened V)) (i : ℕ) (y d : Screened V) → column_of y ≡ column_of (get_or xs i d)
      → i < length xs → map column_of (set xs i y) ≡ map column_of xs
  columns-set [] i y d same less = absurd (omega (arith, less))
  columns-set (x ∷ xs) zero y d same less = ap (λ n. n ∷ map column_of xs) same
  columns-set (x ∷ xs) (suc i) y d same less =
      ap (λ l. column_of x ∷ l) (columns-set xs i y d same (omega (arith, less)))

  columns-take : (k : ℕ) (xs : List (Screened V)) → map column_of (take k xs) ≡ take k (map column_of xs)
  columns-take zero xs = refl
  columns-take (suc k) [] = refl
  columns-take (suc k) (x ∷ xs) = ap (λ l. column_of x ∷ l) (columns-take k xs)

  columns-drop : (k : ℕ) (xs : List (Screened V)) → map column_of (drop k xs) ≡ drop k (map column_of xs)
  columns-drop zero xs = refl
  columns-drop (suc k) [] = refl
  columns-drop (suc k) (x ∷ xs) = columns-drop k xs

  pub columns-insert : (xs : List (Screened V)) (k : ℕ) (x : Screened V)
      → insert (map column_of xs) k (column_of x) ≡ map column_of (insert xs k x)
  columns-insert xs k x =
      ap (λ l. l ++ column_of x ∷ drop k (map column_of xs)) (sym (columns-take k xs))
      ∙ (ap (λ l. map column_of (take k xs) ++ column_of x ∷ l) (sym (columns-drop k xs))
      ∙ sym (map-append column_of (take k xs) (x ∷ drop k xs)))

  -- a pair whose column is not among them lacks what is wanted
  pub lacks-wanted : (rows want : List Bool) (columns : ℕ) (xs : List (Screened V)) (k : ℕ) (d : Screened V)
      → AreNoted rows xs → AreColumnsOf rows want columns → k < length xs → bit_at columns (column_of (get_or xs k d)) ≢ 1
      → ¬ Holds (get_or xs k d).print want
  lacks-wanted rows want columns xs k d noted among less none holds =
      let x = get_or xs k d in
      let few : column_of x < 64 = omega arith in
      none (among x.print (column_of x) few (noted k d less) holds)

  -- where no column is left no pair behind those that were looked at is wanted
  pub none-left : (rows want : List Bool) (columns : ℕ) (xs : List (Screened V)) (from place : ℕ) → AreNoted rows xs
      → AreColumnsOf rows want columns → AllWithin (λ x. ¬ IsWanted want from x) xs 0 place
      → columns ≡ 0 → All (λ x. ¬ IsWanted want from x) xs
  none-left rows want columns xs from place noted among none empty k d less also =
      elim (cases_lt k place) [
        | inl l ↦ none k d (omega arith) l also
        | inr ge ↦ lacks-wanted rows want columns xs k d noted among less (λ one. omega (arith, one, ap (λ n. bit_at n (column_of (get_or xs k d))) empty, bit_at-zero (column_of (get_or xs k d))))
            also.1
      ]

  pub all-insert : (P : Screened V → Type 0) (xs : List (Screened V)) (k : ℕ) (x : Screened V) → P x → All P xs
      → All P (insert xs k x)
  all-insert P xs k x p all =
      All-append P (take k xs) (x ∷ drop k xs) (All-take P k xs all)
      (All-cons P x (drop k xs) p (All-drop P k xs all))

  pub column-at : (xs : List (Screened V)) (k : ℕ) (d : Screened V) (n : ℕ) → k < length xs
      → get_or (map column_of xs) k n ≡ column_of (get_or xs k d)
  column-at [] k d n less = absurd (omega (arith, less))
  column-at (x ∷ xs) zero d n less = refl
  column-at (x ∷ xs) (suc k) d n less = column-at xs k d n (omega (arith, less))
