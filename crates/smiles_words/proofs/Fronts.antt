-- A list by its first bytes.
use Rattle.std.proofs.Common.{◌≡◌, ℕ, ◌-◌, ◌≤◌, List, [], ◌∷◌, length, get_or, take, drop, sym, ◌∙◌, ap, arith}
use Rattle.std.proofs.lemmas.List.{take_all}

pub front_is : (xs : List ℕ) (b : ℕ) → 1 ≤ length xs → get_or xs 0 0 ≡ b → xs ≡ b ∷ take (length xs - 1) (drop 1 xs)
front_is [] b l e = absurd (omega arith)
front_is (x ∷ xs) b l e = ap (λ w. w ∷ xs) e ∙ ap (λ w. b ∷ w) (sym (take_all (length (x ∷ xs) - 1) xs (omega arith)))

pub front_two : (xs : List ℕ) (a b : ℕ) → 2 ≤ length xs → get_or xs 0 0 ≡ a → get_or xs 1 0 ≡ b
    → xs ≡ a ∷ b ∷ take (length xs - 2) (drop 2 xs)
front_two [] a b l e f = absurd (omega arith)
front_two (x ∷ []) a b l e f = absurd (omega arith)
front_two (x ∷ y ∷ xs) a b l e f = ap (λ w. w ∷ y ∷ xs) e ∙ ap (λ w. a ∷ w ∷ xs) f
    ∙ ap (λ w. a ∷ b ∷ w) (sym (take_all (length (x ∷ y ∷ xs) - 2) xs (omega arith)))
