-- One more bond.
use Rattle.std.proofs.Common.{◌≡◌, ℕ, ◌+◌, ◌<◌, List, [], ◌∷◌, ◌++◌, length, map, take, get_or, sym, ◌∙◌, ap, subst}
use Rattle.std.proofs.lemmas.List.{take_more, map-append}
use Rattle.line_walk.specs.declared.pairs.Link.{Link}
use Rattle.smarts_words.specs.declared.word.Step.{Step}
use Rattle.smarts_words.specs.declared.word.BondWord.{BondWord}
use Rattle.smarts_parse.specs.declared.pattern.PatBond.{PatBond}
use Rattle.smarts_parse.specs.Pattern.{BondTerm, bond_of}
use Rattle.smarts_parse.specs.Meaning.{IsBondTerm, AreBondTerms}

bonds_push : (xs : List (Link (List (Step BondWord)))) (ys : List BondTerm) (x : Link (List (Step BondWord)))
    (y : BondTerm) → AreBondTerms xs ys → IsBondTerm x y → AreBondTerms (xs ++ x ∷ []) (ys ++ y ∷ [])
bonds_push [] [] x y h p = (p, tt)
bonds_push [] (z ∷ ys) x y h p = absurd h
bonds_push (z ∷ xs) [] x y h p = absurd h
bonds_push (z ∷ xs) (w ∷ ys) x y h p = (h.0, bonds_push xs ys x y h.1 p)

pub bonds_more : (links : List (Link (List (Step BondWord)))) (i : ℕ) (x : Link (List (Step BondWord)))
    (before after : List PatBond) (b : PatBond) → i < length links → x ≡ get_or links i x → after ≡ before ++ b ∷ []
    → AreBondTerms (take i links) (map bond_of before) → IsBondTerm x (bond_of b)
    → AreBondTerms (take (i + 1) links) (map bond_of after)
bonds_more links i x before after b lt at e h p =
    let xs : take (i + 1) links ≡ take i links ++ x ∷ [] = take_more links i x lt
    ∙ ap (λ w. take i links ++ w ∷ []) (sym at) in
    let ys : map bond_of after ≡ map bond_of before ++ bond_of b ∷ [] = ap (λ w. map bond_of w) e
    ∙ map-append bond_of before (b ∷ []) in
    subst (λ (w : List (Link (List (Step BondWord)))). AreBondTerms w (map bond_of after)) (sym xs)
    (subst (λ (w : List BondTerm). AreBondTerms (take i links ++ x ∷ []) w) (sym ys)
    (bonds_push (take i links) (map bond_of before) x (bond_of b) h p))
