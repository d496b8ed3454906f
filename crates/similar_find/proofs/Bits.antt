-- Bits of two prints that are in both, or in at least one.
use Rattle.std.proofs.lemmas.Bool.{cases_lt}
use Rattle.std.proofs.lemmas.Nat.{mul-le}
use Rattle.std.proofs.Common.{◌≡◌, ◌+◌, ◌*◌, ◌≤◌, ◌-◌, ◌&&◌, ◌||◌, ℕ, Bool, true, false, cond, length, List, [], ◌∷◌, refl, arith, zip, max, min, inl, inr}
use Rattle.std.proofs.lemmas.List.Sums.{count_by-le-length, sum_by-cons}
use Rattle.chem_core.specs.Bits.{set_bits, shared_bits}
use Rattle.similar_find.specs.Score.{all_bits}

one-bit : (a b : Bool) → cond a 1 0 + cond b 1 0 ≡ cond (a && b) 1 0 + cond (a || b) 1 0
one-bit true true = refl
one-bit true false = refl
one-bit false true = refl
one-bit false false = refl

-- the bits of each are those in both, and those in at least one
pub counted : (xs ys : List Bool) → length xs ≡ length ys
    → set_bits xs + set_bits ys ≡ shared_bits xs ys + all_bits xs ys
counted [] [] e = refl
counted [] (y ∷ ys) e = absurd (omega (arith, e))
counted (x ∷ xs) [] e = absurd (omega (arith, e))
counted (x ∷ xs) (y ∷ ys) e =
    let mine = sum_by-cons (λ (b : Bool). cond b 1 0) x xs in
    let its = sum_by-cons (λ (b : Bool). cond b 1 0) y ys in
    let shared = sum_by-cons (λ (p : Bool × Bool). cond (p.0 && p.1) 1 0) (x, y) (zip xs ys) in
    let all = sum_by-cons (λ (p : Bool × Bool). cond (p.0 || p.1) 1 0) (x, y) (zip xs ys) in
    let more = counted xs ys (omega (arith, e)) in
    omega (arith, mine, its, shared, all, more, one-bit x y)

both-one : (a b : Bool) → (cond (a && b) 1 0 ≤ cond a 1 0) × (cond (a && b) 1 0 ≤ cond b 1 0)
both-one true true = (omega arith, omega arith)
both-one true false = (omega arith, omega arith)
both-one false b = (omega arith, omega arith)

-- what is in both is in each
shared-each : (xs ys : List Bool) → (shared_bits xs ys ≤ set_bits xs) × (shared_bits xs ys ≤ set_bits ys)
shared-each [] ys = (omega arith, omega arith)
shared-each (x ∷ xs) [] = (omega arith, omega arith)
shared-each (x ∷ xs) (y ∷ ys) =
    let mine = sum_by-cons (λ (b : Bool). cond b 1 0) x xs in
    let its = sum_by-cons (λ (b : Bool). cond b 1 0) y ys in
    let shared = sum_by-cons (λ (p : Bool × Bool). cond (p.0 && p.1) 1 0) (x, y) (zip xs ys) in
    let more = shared-each xs ys in
    let one = both-one x y in (
      omega (arith, mine, shared, more.0, one.0),
      omega (arith, its, shared, more.1, one.1),
    )

length-zip : (xs ys : List Bool) → length (zip xs ys) ≤ length xs
length-zip [] ys = omega arith
length-zip (x ∷ xs) [] = omega arith
length-zip (x ∷ xs) (y ∷ ys) = omega (arith, length-zip xs ys)

-- no more than a print has
all-few : (xs ys : List Bool) → all_bits xs ys ≤ length xs
all-few xs ys = omega (arith, count_by-le-length (λ (p : Bool × Bool). p.0 || p.1) (zip xs ys), length-zip xs ys)

-- of two prints: so many bits are in each, and so many in both
pub record Scored (xs ys : List Bool) (a b shared : ℕ) : Type 0 where
  pub within : shared ≤ a + b
  pub all : a + b - shared ≡ all_bits xs ys
  pub part : shared ≤ a + b - shared
  pub few : a + b - shared ≤ length xs

pub scored : (xs ys : List Bool) (a b shared : ℕ) → length xs ≡ length ys → a ≡ set_bits xs → b ≡ set_bits ys
    → shared ≡ shared_bits xs ys → Scored xs ys a b shared
scored xs ys a b shared e ha hb hs =
    let sum = counted xs ys e in
    let each = shared-each xs ys in
    let few = all-few xs ys in
    let left = each.0 in
    let right = each.1 in
    record { within = omega arith; all = omega arith; part = omega arith; few = omega arith }

-- at most the fewer are in both, and at least the more in one of them
pub bounded : (xs ys : List Bool) (a b : ℕ) → length xs ≡ length ys → set_bits xs ≡ a → set_bits ys ≡ b
    → shared_bits xs ys * max (max a b) 1 ≤ min a b * all_bits xs ys
bounded xs ys a b e ha hb =
    let sum = counted xs ys e in
    let each = shared-each xs ys in
    let left = each.0 in
    let right = each.1 in
    elim (cases_lt (all_bits xs ys) (max (max a b) 1)) [
      | inl lt ↦ let none : shared_bits xs ys ≡ 0 = omega arith in rw none (omega arith)
      | inr le ↦
          mul-le (shared_bits xs ys) (max (max a b) 1) (min a b) (all_bits xs ys) (omega arith) (omega arith)
    ]
