-- What is read of a graph at the next atom.
use Rattle.std.proofs.Common.{◌≡◌, ◌≢◌, ℕ, zero, suc, ◌+◌, ◌∷◌, [], refl, arith, set, ◌<◌, ◌++◌, List, length, map, take, slice_get, get_or, Some, All, sym, ap, ◌∙◌, subst}
use Rattle.std.proofs.Math.Seq.{take-append_seam}
use Rattle.std.proofs.lemmas.List.{get_or-map, length-map, take-set}
use Rattle.std.proofs.lemmas.Option.{slice_get-get_or}
use Rattle.smarts_parse.specs.Pattern.{BondTerm, GraphTerm}
use Rattle.smarts_parse.specs.Sound.{pattern_ends}

-- an element's image at its place
pub get_map : {X Y : Type 0} (f : Y → X) (ys : List Y) (k : ℕ) (y : Y) → k < length ys → y ≡ get_or ys k y
    → slice_get (map f ys) k ≡ Some (f y)
get_map f ys k y l e = slice_get-get_or (map f ys) k (f y) (subst (λ n. k < n) (sym (length-map ys f)) l)
    ∙ ap Some (get_or-map f ys k y (f y) l ∙ ap f (sym e))

-- the ends of each bond are apart
pub all_apart : (g : GraphTerm) → All (λ e. e.0 ≢ e.1) (pattern_ends g) → All (λ (b : BondTerm). b.a ≢ b.b) g.bonds
all_apart g h k d l =
    subst (λ (e : ℕ × ℕ). e.0 ≢ e.1) (get_or-map (λ (b : BondTerm). (b.a, b.b)) g.bonds k d (0, 0) l)
    (h k (0, 0) (subst (λ n. k < n) (sym (length-map g.bonds (λ (b : BondTerm). (b.a, b.b)))) l))

-- a list that was written whole
pub take_all : {X : Type 0} (n : ℕ) (xs ys : List X) → n ≡ length xs → take n (xs ++ ys) ≡ xs
take_all n xs ys e = ap (λ k. take k (xs ++ ys)) e ∙ take-append_seam xs ys

-- what is kept of more is kept of less
shorter : (n : ℕ) (xs : List ℕ) → take n (take (suc n) xs) ≡ take n xs
shorter zero xs = refl
shorter (suc n) [] = refl
shorter (suc n) (x ∷ xs) = ap (λ ys. x ∷ ys) (shorter n xs)

pub kept_less : (k : ℕ) (new old : List ℕ) (a : ℕ) → take (k + 1) new ≡ take (k + 1) (set old k a)
    → take k new ≡ take k old
kept_less k new old a e =
    let next : k + 1 ≡ suc k = omega arith in
    let same : take (suc k) new ≡ take (suc k) (set old k a) = subst (λ n. take n new ≡ take n (set old k a)) next e in
    sym (shorter k new) ∙ ap (λ xs. take k xs) same ∙ shorter k (set old k a) ∙ take-set old k a
