-- A text's meaning is one.
use Rattle.std.proofs.Common.{◌≡◌, ℕ, ◌+◌, List, [], ◌∷◌, ◌++◌, map, Option, Some, refl, sym, ◌∙◌, ap, subst}
use Rattle.line_walk.specs.Places.{placed_nodes}
use Rattle.line_walk.specs.declared.pairs.Link.{Link}
use Rattle.smarts_words.specs.declared.word.Step.{Step}
use Rattle.smarts_words.specs.declared.word.BondWord.{BondWord}
use Rattle.smarts_parse.specs.Pattern.{BondTerm, GraphTerm, PatternTerm}
use Rattle.smarts_parse.specs.Whole.{Nodes, Parts, none, part, Whole, count_of}
use Rattle.smarts_parse.specs.Meaning.{IsBondTerm, AreBondTerms, for_each, IsGraphTerm, numbers_from, ArePartTerms, IsPatternOf}
use Rattle.smarts_parse.proofs.Postfix.{postfix_injective, postfixes_injective}

somes_injective : {X : Type 0} (xs ys : List X) → map (λ x. Some x) xs ≡ map (λ x. Some x) ys → xs ≡ ys
somes_injective [] [] h = refl
somes_injective {X = X} [] (y ∷ ys) h = absurd (cc)
somes_injective {X = X} (x ∷ xs) [] h = absurd (cc)
somes_injective {X = X} (x ∷ xs) (y ∷ ys) h =
    let p : ◌≡◌ {A = Option X} (Some x) (Some y) = cc in
    let q : map (λ x. Some x) xs ≡ map (λ x. Some x) ys = cc in
    let r = somes_injective xs ys q in
    cc

one_bond : (x : Link (List (Step BondWord))) (b c : BondTerm) → IsBondTerm x b → IsBondTerm x c → b ≡ c
one_bond x b c p q =
    let e = p.a ∙ sym q.a in
    let f = p.b ∙ sym q.b in
    let g = postfix_injective b.expr c.expr (p.expr ∙ sym q.expr) in
    ap (λ n. record { a = n; b = b.b; expr = b.expr }) e ∙ ap (λ n. record { a = c.a; b = n; expr = b.expr }) f
    ∙ ap (λ t. record { a = c.a; b = c.b; expr = t }) g

one_bonds : (xs : List (Link (List (Step BondWord)))) (bs cs : List BondTerm) → AreBondTerms xs bs → AreBondTerms xs cs
    → bs ≡ cs
one_bonds [] [] [] p q = refl
one_bonds [] [] (c ∷ cs) p q = absurd q
one_bonds [] (b ∷ bs) cs p q = absurd p
one_bonds (x ∷ xs) [] cs p q = absurd p
one_bonds (x ∷ xs) (b ∷ bs) [] p q = absurd q
one_bonds (x ∷ xs) (b ∷ bs) (c ∷ cs) p q =
    let e = one_bond x b c p.0 q.0 in
    let f = one_bonds xs bs cs p.1 q.1 in
    cc

pub one_graph_term : (nodes : Nodes) (numbers groups : List ℕ) (g h : GraphTerm) → IsGraphTerm nodes numbers groups g
    → IsGraphTerm nodes numbers groups h → g ≡ h
one_graph_term nodes numbers groups g h p q =
    let links = somes_injective p.links q.links (sym p.pair.agree ∙ q.pair.agree) in
    let atoms = postfixes_injective g.atoms h.atoms (p.atoms ∙ sym q.atoms) in
    let bonds = one_bonds q.links g.bonds h.bonds
    (subst (λ (w : List (Link (List (Step BondWord)))). AreBondTerms w g.bonds) links p.bonds) q.bonds in
    ap (λ w. record { atoms = w; bonds = g.bonds; groups = g.groups }) atoms
    ∙ ap (λ w. record { atoms = h.atoms; bonds = w; groups = g.groups }) bonds
    ∙ ap (λ w. record { atoms = h.atoms; bonds = h.bonds; groups = w }) (p.grouped ∙ sym q.grouped)

pub one_part_terms : (n : ℕ) (parts : Parts) (gs hs : List GraphTerm) → ArePartTerms n parts gs
    → ArePartTerms n parts hs → gs ≡ hs
one_part_terms n none gs hs p q = p ∙ sym q
one_part_terms n (part tree inner others) gs hs p q =
    let before = one_part_terms n inner p.0 q.0 p.4 q.4 in
    let graph = one_graph_term (placed_nodes tree) (numbers_from n inner) (for_each tree 0) p.1 q.1 p.5 q.5 in
    let after = one_part_terms (n + count_of inner + 1) others p.2 q.2 p.6 q.6 in
    p.3 ∙ ap (λ w. w ++ p.1 ∷ p.2) before ∙ ap (λ w. q.0 ++ w ∷ p.2) graph ∙ ap (λ w. q.0 ++ q.1 ∷ w) after ∙ sym q.3

-- the pattern of a whole text is one
pub one_pattern : (whole : Whole) (p q : PatternTerm) → IsPatternOf whole p → IsPatternOf whole q → p ≡ q
one_pattern whole p q is it =
    let recs = one_part_terms 0 whole.parts p.recs q.recs is.0 it.0 in
    let top = one_graph_term _ _ _ p.top q.top is.1 it.1 in
    ap (λ w. record { top = w; recs = p.recs }) top ∙ ap (λ w. record { top = q.top; recs = w }) recs
