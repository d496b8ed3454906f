-- The first element of a list that passes a test, one element after another.
use Rattle.std.proofs.Common.{ℕ, ◌+◌, ◌<◌, ◌≤◌, ◌≡◌, Bool, true, false, cond, List, length, drop, get_or, find, Some, None, refl, sym, ap, ◌∙◌, add-one, drop-cons}
use Rattle.std.proofs.lemmas.List.{drop_all}

step : {X : Type 0} (p : X → Bool) (xs : List X) (i : ℕ) (d : X) → i < length xs → find p (drop i xs)
    ≡ cond (p (get_or xs i d)) (Some (get_or xs i d)) (find p (drop (i + 1) xs))
step p xs i d h = rw (add-one, drop-cons xs i d) refl

pub find-here : {X : Type 0} (p : X → Bool) (xs : List X) (i : ℕ) (d : X) → i < length xs
    → find p xs ≡ find p (drop i xs) → p (get_or xs i d) ≡ true → Some (get_or xs i d) ≡ find p xs
find-here p xs i d h e t = sym (e ∙ step p xs i d h ∙ ap (λ b. cond b (Some (get_or xs i d)) (find p (drop (i + 1) xs)))
    t)

pub find-later : {X : Type 0} (p : X → Bool) (xs : List X) (i : ℕ) (d : X) → i < length xs
    → find p xs ≡ find p (drop i xs) → p (get_or xs i d) ≡ false → find p xs ≡ find p (drop (i + 1) xs)
find-later p xs i d h e f = e ∙ step p xs i d h ∙ ap (λ b. cond b (Some (get_or xs i d)) (find p (drop (i + 1) xs))) f

pub find-past : {X : Type 0} (p : X → Bool) (xs : List X) (i : ℕ) → length xs ≤ i → find p xs ≡ find p (drop i xs)
    → None ≡ find p xs
find-past p xs i h e = sym (e ∙ ap (λ ys. find p ys) (drop_all i xs h))
