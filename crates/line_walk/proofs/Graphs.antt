-- What is said of bonds has at most one graph.
use Rattle.std.proofs.Common.{◌≡◌, List, [], ◌∷◌, ◌++◌, map, Option, Some, refl, sym, ◌∙◌, ap}
use Rattle.std.proofs.lemmas.List.{append-nil}
use Rattle.line_walk.specs.declared.pairs.Link.{Link}
use Rattle.line_walk.specs.Partners.{Entry, IsGraph}
use Rattle.line_walk.proofs.Lists.{goes}

nothing_more : {X : Type 0} (xs : List X) → [] ≡ map (λ z. Some z) xs → xs ≡ []
nothing_more [] e = refl
nothing_more {X = X} (x ∷ xs) e = absurd (cc)

pub one_graph : {K : Type 0} (agreed : K → K → Option K) (es : List (Entry K)) (xs ys : List (Link K))
    → IsGraph agreed es xs → IsGraph agreed es ys → xs ≡ ys
one_graph agreed es xs ys g h =
    let e : map (λ z. Some z) xs ++ [] ≡ map (λ z. Some z) ys = append-nil (map (λ z. Some z) xs) ∙ sym g.agree
    ∙ h.agree in
    let s = goes xs ys [] e in
    let none : s.more ≡ [] = nothing_more s.more s.rest in
    sym (append-nil xs) ∙ ap (λ v. xs ++ v) (sym none) ∙ sym s.is
