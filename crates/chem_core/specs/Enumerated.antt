-- Lists whose elements are written one after another, each by its place. For proofs alone: lemmas, and no definition
-- that a reader must believe.
use Rattle.std.proofs.Common.{ℕ, ◌+◌, ◌<◌, ◌≡◌, List, [], ◌∷◌, ◌++◌, length, map, take, drop, get_or, set, ap, ◌∙◌, arith}
use Rattle.std.specs.List.{enumerate_from}
use Rattle.std.proofs.lemmas.List.{take_more, drop_more, length-take-le, map-append, set_at, length-map, get_or_at, append_assoc}
use Rattle.std.proofs.lemmas.List.FromFn.{length-enumerate_from}

pub enumerate_from-append : {X : Type 0} (n : ℕ) (xs ys : List X) → enumerate_from n (xs ++ ys) ≡ enumerate_from n xs
    ++ enumerate_from (n + length xs) ys
enumerate_from-append n [] ys = ap (λ k. enumerate_from k ys) (omega arith)
enumerate_from-append n (x ∷ xs) ys =
    ap (λ zs. (n, x) ∷ zs) (enumerate_from-append (n + 1) xs ys
    ∙ ap (λ k. enumerate_from (n + 1) xs ++ enumerate_from k ys) (omega arith))

-- one more element, with its place
pub enumerate-more : {X : Type 0} (xs : List X) (i : ℕ) (d : X) → i < length xs → enumerate_from 0 (take (i + 1) xs)
    ≡ enumerate_from 0 (take i xs) ++ (i, get_or xs i d) ∷ []
enumerate-more xs i d h =
    let len : 0 + length (take i xs) ≡ i = omega (arith, length-take-le i xs (omega arith)) in
    ap (enumerate_from 0) (take_more xs i d h) ∙ enumerate_from-append 0 (take i xs) (get_or xs i d ∷ [])
    ∙ ap (λ k. enumerate_from 0 (take i xs) ++ (k, get_or xs i d) ∷ []) len

-- one more element, mapped with its place
pub mapped-more : {X Y : Type 0} (f : ℕ × X → Y) (xs : List X) (i : ℕ) (d : X) → i < length xs
    → map f (enumerate_from 0 (take (i + 1) xs)) ≡ map f (enumerate_from 0 (take i xs)) ++ f (i, get_or xs i d) ∷ []
mapped-more f xs i d within = ap (map f) (enumerate-more xs i d within) ∙ map-append f (enumerate_from 0 (take i xs))
    ((i, get_or xs i d) ∷ [])

-- the element at i, after those before it are written
pub written-at : {X : Type 0} (f : ℕ × X → X) (xs : List X) (i : ℕ) (d : X) → i < length xs
    → get_or (map f (enumerate_from 0 (take i xs)) ++ drop i xs) i d ≡ get_or xs i d
written-at f xs i d h =
    let len : length (map f (enumerate_from 0 (take i xs))) ≡ i = length-map (enumerate_from 0 (take i xs)) f
    ∙ length-enumerate_from 0 (take i xs) ∙ length-take-le i xs (omega arith) in
    rw (drop_more xs i d h) (get_or_at (map f (enumerate_from 0 (take i xs))) (get_or xs i d) (drop (i + 1) xs) d i len)

pub written-more : {X : Type 0} (f : ℕ × X → X) (xs : List X) (i : ℕ) (d : X) → i < length xs
    → set (map f (enumerate_from 0 (take i xs)) ++ drop i xs) i (f (i, get_or xs i d))
    ≡ map f (enumerate_from 0 (take (i + 1) xs)) ++ drop (i + 1) xs
written-more f xs i d h =
    let len : length (map f (enumerate_from 0 (take i xs))) ≡ i = length-map (enumerate_from 0 (take i xs)) f
    ∙ length-enumerate_from 0 (take i xs) ∙ length-take-le i xs (omega arith) in
    let more : map f (enumerate_from 0 (take (i + 1) xs)) ≡ map f (enumerate_from 0 (take i xs)) ++ f (i, get_or xs i d)
    ∷ [] = ap (map f) (enumerate-more xs i d h) ∙ map-append f (enumerate_from 0 (take i xs)) ((i, get_or xs i d)
    ∷ []) in
    rw (drop_more xs i d h, more, append_assoc) (set_at (map f (enumerate_from 0 (take i xs))) (get_or xs i d)
    (drop (i + 1) xs) (f (i, get_or xs i d)) i len)
